-- The format of the argument is the front of a local buffer, and the accepted one is in the store.
use Rattle.std.proofs.Common.{arith, ◌+◌, refl, ◌∙◌}
use Rattle.std.proofs.lemmas.Result.{err_from_is_err_and}
use lib.ListN.{drop, replicate}
use Rattle.law.proofs.IndexLaws.{terms_limit}
use Rattle.formats.proofs.TurnLaws.{lent_length}
use Rattle.lints.proofs.Holdings.{prepared}
use Rattle.lints.proofs.RecognitionLaws.{argument_asked, argument_made, compared_wide, compared_apart, compared_literal, compared_silent}
use Rattle.lints.proofs.recognition.compare_call.Goals as goal

pub overflow_add-t : goal.overflow_add-t
overflow_add-t c = omega (arith, c.requires.term.0, terms_limit _ _ c.args.formats.now.law.law.indexed)

pub row_format-requires : goal.row_format-requires
row_format-requires c =
    (argument_asked (prepared c.args.formats.now) c.args.t c.requires.term.0 refl c.argument_of-part.ensures, lent_length c.args.formats.now.limit c.args.formats.now.small)

pub returns-in_err-row_format : goal.returns-in_err-row_format
returns-in_err-row_format c =
    let exit = err_from_is_err_and c.from_residual.result c.from_residual.ensures.1 in
    exit.1
    ∙ compared_wide (prepared c.args.formats.now) c.args.t
    (argument_made (prepared c.args.formats.now) c.args.t refl c.argument_of-part.ensures c.row_format.ensures) c.in_err-row_format.was

pub returns-then-disjoint_formats : goal.returns-then-disjoint_formats
returns-then-disjoint_formats c =
    let made = argument_made (prepared c.args.formats.now) c.args.t refl c.argument_of-part.ensures c.row_format.ensures in
    compared_apart (prepared c.args.formats.now) c.args.t c.requires.place_value.0 c.requires.place_value.1 (drop (c.args.formats.now.limit + 1) (replicate 65 0)) made
    c.in_ok-row_format.was c.argument.ensures c.disjoint_formats.ensures c.requires.term.1 c.if-disjoint_formats.true

pub returns-then-literal : goal.returns-then-literal
returns-then-literal c =
    let made = argument_made (prepared c.args.formats.now) c.args.t refl c.argument_of-part.ensures c.row_format.ensures in
    compared_literal (prepared c.args.formats.now) c.args.t c.requires.place_value.0 c.requires.place_value.1 (drop (c.args.formats.now.limit + 1) (replicate 65 0)) made
    c.in_ok-row_format.was c.argument.ensures c.disjoint_formats.ensures c.requires.term.1 c.if-disjoint_formats.false c.if-literal.true

pub returns : goal.returns
returns c =
    let made = argument_made (prepared c.args.formats.now) c.args.t refl c.argument_of-part.ensures c.row_format.ensures in
    compared_silent (prepared c.args.formats.now) c.args.t c.requires.place_value.0 c.requires.place_value.1 (drop (c.args.formats.now.limit + 1) (replicate 65 0)) made
    c.in_ok-row_format.was c.argument.ensures c.disjoint_formats.ensures c.requires.term.1 c.if-disjoint_formats.false c.if-literal.false

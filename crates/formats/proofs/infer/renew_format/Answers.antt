use Rattle.std.proofs.Common.{arith, sym, ◌∙◌}
use lib.Seq.{length-take-le}
use Rattle.shapes.proofs.FormatLaws.{format_in_length}
use Rattle.formats.proofs.TurnLaws.{started_words, started_test, kept_words, kept_test}
use Rattle.formats.proofs.infer.renew_format.Goals as goal

pub copy_words-requires : goal.copy_words-requires
copy_words-requires c = format_in_length _ _ c.requires.2 ∙ sym (format_in_length _ _ c.requires.1)

pub returns-then-is_never-clause-words : goal.returns-then-is_never-clause-words
returns-then-is_never-clause-words c =
    c.copy_words.ensures ∙ started_words _ _ _ c.requires.0 c.requires.2 (sym c.is_never.ensures ∙ c.if-is_never.true)

pub returns-then-is_never-clause-changed : goal.returns-then-is_never-clause-changed
returns-then-is_never-clause-changed c =
    started_test _ _ _ c.requires.0 c.requires.2 (sym c.is_never.ensures ∙ c.if-is_never.true) c.is_never-then-is_never.ensures

pub slice_bounds-eq-end : goal.slice_bounds-eq-end
slice_bounds-eq-end c = omega (arith, format_in_length _ _ c.requires.1, format_in_length _ _ c.requires.2, c.row_end-n.ensures)

pub slice_bounds-eq-end-2 : goal.slice_bounds-eq-end-2
slice_bounds-eq-end-2 c =
    omega (arith, format_in_length _ _ c.requires.1, format_in_length _ _ c.requires.2, c.row_end-n.ensures, length-take-le c.row_end-n.result c.args.format.now (omega (arith, format_in_length _ _ c.requires.1, format_in_length _ _ c.requires.2, c.row_end-n.ensures)))

pub returns-then-eq-clause-words : goal.returns-then-eq-clause-words
returns-then-eq-clause-words c = kept_words _ _ _ c.requires.0 c.requires.1 c.requires.2 _ c.row_end-n.ensures.0 (sym c.if-eq.true ∙ c.eq.ensures)

pub returns-then-eq-clause-changed : goal.returns-then-eq-clause-changed
returns-then-eq-clause-changed c = kept_test _ _ _ c.requires.0 c.requires.1 c.requires.2 _ c.row_end-n.ensures.0 (sym c.if-eq.true ∙ c.eq.ensures)

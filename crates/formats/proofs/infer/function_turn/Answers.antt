use Rattle.std.proofs.Common.{◌≡◌, ◌+◌, ◌*◌, ◌≤◌, length, arith, ap, sym, ◌∙◌}
use Rattle.std.proofs.lemmas.Result.{err_from_is_err_and}
use Rattle.file.specs.Sections.{file_of}
use Rattle.shapes.proofs.FormatLaws.{format_in_length}
use Rattle.formats.specs.Code.Slots.{file_names, function_folded, position}
use Rattle.formats.specs.Code.Turns.{format_number}
use Rattle.formats.proofs.CallLaws.{placed_asked}
use Rattle.formats.proofs.StateLaws.{lent_written}
use Rattle.formats.proofs.TurnSteps.{lent_is, turn_over, turn_renewed, made_format, turn_few, turn_first, turn_next, turn_sentences, turn_inside, turn_place, turn_number, number_within, number_format}
use Rattle.formats.proofs.infer.function_turn.Goals as goal

pub first_sentence-first-requires : goal.first_sentence-first-requires
first_sentence-first-requires c = omega (arith, turn_few (placed_asked c.args.placed.now) c.args.f c.requires.1)

pub overflow_add-f : goal.overflow_add-f
overflow_add-f c = omega (arith, turn_few (placed_asked c.args.placed.now) c.args.f c.requires.1)

pub first_sentence-requires : goal.first_sentence-requires
first_sentence-requires c = turn_few (placed_asked c.args.placed.now) c.args.f c.requires.1

pub overflow_sub-number : goal.overflow_sub-number
overflow_sub-number c =
    let asked = placed_asked c.args.placed.now in
    omega (arith, c.first_sentence-first.ensures, c.first_sentence.ensures, turn_first asked c.args.f c.requires.1, turn_next asked c.args.f c.requires.1)

pub sentences_format-requires : goal.sentences_format-requires
sentences_format-requires c =
    let asked = placed_asked c.args.placed.now in (
      c.requires.0,
      omega (
        arith,
        c.first_sentence-first.ensures,
        c.first_sentence.ensures,
        turn_first asked c.args.f c.requires.1,
        turn_next asked c.args.f c.requires.1,
        turn_inside asked c.args.f c.requires.1,
      ),
      c.requires.2,
    )

pub returns-in_err-sentences_format : goal.returns-in_err-sentences_format
returns-in_err-sentences_format c =
    let asked = placed_asked c.args.placed.now in
    let p = err_from_is_err_and c.from_residual.result c.from_residual.ensures.1 in
    let joined = rw (turn_sentences asked _ c.requires.1 _ _ c.first_sentence-first.ensures c.first_sentence.ensures) at c.sentences_format.ensures in
    rw p.1 (turn_over c.args.placed.now.limit c.args.side _ _ _ c.sentences_format.result c.in_err-sentences_format.was joined _ _)

pub bounds-placed-f : goal.bounds-placed-f
bounds-placed-f c = omega (arith, turn_few (placed_asked c.args.placed.now) c.args.f c.requires.1)

pub slice_bounds-renew_format-end : goal.slice_bounds-renew_format-end
slice_bounds-renew_format-end c =
    let asked = placed_asked c.args.placed.now in
    let number = turn_number asked _ c.requires.1 c.args.side _ _ c.from.ensures c.format_number.ensures in
    let inside : c.format_number.result * c.width-width.result + c.width-width.result ≤ length c.args.store.now = rw (number, c.width-width.ensures)
    (number_within c.requires.0 c.args.side _ (turn_place asked c.args.f c.requires.1)) in
    inside

pub renew_format-requires : goal.renew_format-requires
renew_format-requires c =
    let asked = placed_asked c.args.placed.now in
    let number = turn_number asked _ c.requires.1 c.args.side _ _ c.from.ensures c.format_number.ensures in (
      c.args.placed.now.small,
      rw (lent_is _ _ _ _ _ number c.width-width.ensures) (number_format c.requires.0 c.args.side _ (turn_place asked c.args.f c.requires.1)),
      made_format _ c.args.placed.now.small c.args.side _ _ _ _ c.in_ok-sentences_format.was c.sentences_format.ensures,
    )

pub returns : goal.returns
returns c =
    let placed = c.args.placed.now in
    let asked = placed_asked placed in
    let number = turn_number asked _ c.requires.1 c.args.side _ _ c.from.ensures c.format_number.ensures in
    let joined = rw (turn_sentences asked _ c.requires.1 _ _ c.first_sentence-first.ensures c.first_sentence.ensures) at c.sentences_format.ensures in
    let lent = lent_is placed.limit c.args.store.now c.format_number.result _ c.width-width.result number c.width-width.ensures in
    let here = number_format c.requires.0 c.args.side _ (turn_place asked c.args.f c.requires.1) in
    let words = rw lent at c.renew_format.ensures.words in
    let long : length c.renew_format.new.format ≡ c.width-width.result = c.renew_format.auto.format ∙ ap length lent ∙ format_in_length _ _ here ∙ sym c.width-width.ensures in
    let start : c.format_number.result * c.width-width.result ≡ format_number c.args.side (position (file_names (file_of placed.law.bytes.now)) (function_folded (file_of placed.law.bytes.now) c.args.f)) * (placed.limit + 1) = rw (number, c.width-width.ensures) in
    turn_renewed placed.limit placed.small c.args.side _ _ _ _ c.in_ok-sentences_format.was joined _ c.args.store.now _ _
    (lent_written c.args.store.now c.renew_format.new.format _ _ (rw long) ∙ rw (start, words)) (rw lent at c.renew_format.ensures.changed)

use Rattle.std.proofs.Common.{true, false, Some, arith, refl, ap, sym, ◌∙◌}
use Rattle.law.proofs.Forests.{inside_falls}
use Rattle.shapes.specs.Code.Rows.{row_next, row_opens}
use Rattle.formats.specs.Code.Rows.{left_of}
use Rattle.formats.proofs.RowLaws as laws
use Rattle.formats.proofs.rows.+write_row.Goals as goal

pub write_bracket-returns-then-out-to-clause-row :
    goal.write_bracket-returns-then-out-to-clause-row
write_bracket-returns-then-out-to-clause-row t c = λ results knows. laws.group_none _ _ _ _ c.if-out-to.true

pub write_bracket-write_row-requires : goal.write_bracket-write_row-requires
write_bracket-write_row-requires t c = (
  omega (arith, inside_falls c.args.part.now c.end_of.result _ c.requires.1 c.end_of.ensures.0 refl),
  laws.asked_inside c.requires.0 c.requires.1 c.end_of.ensures.0 c.if-out-to.false,
)

pub write_bracket-returns-in_err-end-clause-row : goal.write_bracket-returns-in_err-end-clause-row
write_bracket-returns-in_err-end-clause-row t c = λ results knows.
    rw c.from_residual.ensures (laws.bracket_over c.requires.0 c.requires.1 results c.end_of.ensures.0 refl (c.in_err-end.ensures.row results knows))

pub write_bracket-returns-clause-row : goal.write_bracket-returns-clause-row
write_bracket-returns-clause-row t c = λ results knows.
    rw c.next-next.ensures (laws.bracket_written c.requires.0 c.requires.1 results (row_next c.in_ok-end.end) (row_opens c.in_ok-end.end) c.end_of.ensures.0 (laws.ends_itself _) (rw (c.next-next.ensures, c.is_open.ensures) at c.bracket_word.ensures)
    (c.in_ok-end.ensures.row results knows))

pub write_first-returns-in-Call-clause-row : goal.write_first-returns-in-Call-clause-row
write_first-returns-in-Call-clause-row t c = λ results knows.
    laws.first_call c.requires.0 c.requires.1 results (sym c.term_at.ensures ∙ c.in-Call.is) c.from-in-Call.ensures knows c.write_call.ensures.row

pub write_first-returns-in-EVariable-clause-row : goal.write_first-returns-in-EVariable-clause-row
write_first-returns-in-EVariable-clause-row t c = λ results knows.
    rw (← c.term_at.ensures, laws.open_term _ _ _ c.in-EVariable.is) (laws.row_end true _ _ _ c.requires.0.begins c.requires.0.room)

pub write_row-returns-then-left-lt-RECORD-clause-row :
    goal.write_row-returns-then-left-lt-RECORD-clause-row
write_row-returns-then-left-lt-RECORD-clause-row t c = λ results knows.
    let onward = c.write_leaves-n.ensures.leaves _ c.args.at c.args.known.now.store.now _ _ c.requires in
    onward.goes results _ _ (laws.row_none _ results _ (left_of c.write_leaves-n.result c.args.part.now) c.write_leaves-n.new.out _ _
    c.if-left-lt-RECORD.true onward.asked.begins onward.asked.room)

pub write_row-write_first-requires : goal.write_row-write_first-requires
write_row-write_first-requires t c =
    let onward = c.write_leaves-n.ensures.leaves _ c.args.at c.args.known.now.store.now _ _ c.requires in (
      omega (arith, laws.left_length c.write_leaves-n.result c.args.part.now),
      (rw c.write_leaves-n.auto.out onward.asked, c.if-left-lt-RECORD.false),
    )

pub write_row-returns-in_err-first-clause-row : goal.write_row-returns-in_err-first-clause-row
write_row-returns-in_err-first-clause-row t c = λ results knows.
    let onward = c.write_leaves-n.ensures.leaves _ c.args.at c.args.known.now.store.now _ _ c.requires in
    rw c.from_residual.ensures
    (onward.goes results _ _ (laws.row_first_over onward.asked c.if-left-lt-RECORD.false results refl
    (rw c.write_leaves-n.auto.out at (c.in_err-first.ensures.row results knows))))

pub write_row-returns-in-Open-clause-row : goal.write_row-returns-in-Open-clause-row
write_row-returns-in-Open-clause-row t c = λ results knows.
    let onward = c.write_leaves-n.ensures.leaves _ c.args.at c.args.known.now.store.now _ _ c.requires in
    rw c.in-Open.is
    (onward.goes results _ _ (laws.row_first_open onward.asked c.if-left-lt-RECORD.false results _ (ap (λ e. Some e) c.in-Open.is)
    (rw c.write_leaves-n.auto.out at (c.in_ok-first.ensures.row results knows))))

pub write_row-write_row-requires : goal.write_row-write_row-requires
write_row-write_row-requires t c =
    let onward = c.write_leaves-n.ensures.leaves _ c.args.at c.args.known.now.store.now _ _ c.requires in
    let kept = c.write_first.auto.out ∙ c.write_leaves-n.auto.out in (
      omega (arith, c.after.ensures.1, laws.left_length c.write_leaves-n.result c.args.part.now),
      rw (c.after.ensures.0, kept) (laws.asked_rest onward.asked c.if-left-lt-RECORD.false refl c.word_at.ensures (omega (arith, rw c.in-Closed.is at c.in_ok-first.ensures.between, c.write_leaves-n.auto.out)) c.write_first.auto.out),
    )

pub write_row-returns-in-Closed-clause-row : goal.write_row-returns-in-Closed-clause-row
write_row-returns-in-Closed-clause-row t c = λ results knows.
    let onward = c.write_leaves-n.ensures.leaves _ c.args.at c.args.known.now.store.now _ _ c.requires in
    let kept = c.write_first.auto.out ∙ c.write_leaves-n.auto.out in
    onward.goes results _ _ (laws.row_first_rest onward.asked c.if-left-lt-RECORD.false results {n = c.in-Closed.next} {o = false} (ap (λ e. Some e) c.in-Closed.is) refl refl c.word_at.ensures
    (rw c.write_leaves-n.auto.out at (c.in_ok-first.ensures.row results knows))
    (rw (c.after.ensures.0, kept) at (c.write_row.ensures.row results knows)))

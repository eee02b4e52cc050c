use Rattle.std.proofs.Common.{arith, ap, ◌∙◌}
use Rattle.buffers.specs.Written.{written}
use Rattle.formats.proofs.StateLaws.{lent_written}
use Rattle.formats.proofs.RowLaws.{ends_is, row_unknown, row_never, row_callee_over, row_callee}
use Rattle.formats.proofs.rows.write_call.Goals as goal

pub returns-in_default-clause-row : goal.returns-in_default-clause-row
returns-in_default-clause-row c = row_unknown _ _ _ _ _ _ _ c.in_default.ensures c.requires.2 (omega arith)

pub returns-in_default-of_format-clause-row : goal.returns-in_default-of_format-clause-row
returns-in_default-of_format-clause-row c =
    row_never _ _ _ _ c.requires.0 c.in-Some.ensures.0 _ _ _ c.requires.2 (omega arith) _ c.in-Some.ensures.1 c.in_default-of_format.ensures

pub returns-then-out-to-clause-row : goal.returns-then-out-to-clause-row
returns-then-out-to-clause-row c =
    row_callee_over _ _ _ _ c.requires.0 c.in-Some.ensures.0 _ _ _ c.requires.2 (omega arith) _ c.in-Some.ensures.1 _ c.in-Some-of_format.ensures c.if-out-to.true

pub returns-clause-row : goal.returns-clause-row
returns-clause-row c =
    rw (ends_is c.new.result _ _ c.new.ensures.next c.new.ensures.opens)
    (row_callee _ _ _ _ c.requires.0 c.in-Some.ensures.0 _ _ _ c.requires.2 (omega arith) _ c.in-Some.ensures.1 _ _ c.in-Some-of_format.ensures c.if-out-to.false
    (lent_written _ _ c.args.to _ (rw c.copy_words.ensures) ∙ ap (written c.args.out.now c.args.to) c.copy_words.ensures))

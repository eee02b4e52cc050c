use borrow.Author.Tests.{eqb-true, eqb-false}
use Rattle.std.proofs.Common.{sym, ◌∙◌}
use Rattle.grammar.proofs.KindLaws.{left_start, left_refused, left_next, left_open, left_end}
use Rattle.grammar.proofs.accepts_codes.Goals as goal

pub loop-code-init : goal.loop-code-init
loop-code-init c = left_start _ c.new-pairs.result c.new-pairs.ensures

pub returns-in-None : goal.returns-in-None
returns-in-None c = left_refused c.loop-code.invariant c.loop-code-test.true c.move_of_code.ensures c.in-None.ensures

pub loop-code-preserved : goal.loop-code-preserved
loop-code-preserved c = left_next c.loop-code.invariant c.loop-code-test.true c.move_of_code.ensures c.in-Some.ensures

pub returns-then-is_empty : goal.returns-then-is_empty
returns-then-is_empty c =
    left_end c.loop-code.invariant c.loop-code-test.false (eqb-true c.loop-code.pairs.depth 0 (sym c.is_empty.ensures ∙ c.if-is_empty.true)) c.may_end.ensures

pub returns-else-is_empty : goal.returns-else-is_empty
returns-else-is_empty c =
    rw c.if-is_empty.false
    (left_open c.loop-code.invariant c.loop-code-test.false (eqb-false c.loop-code.pairs.depth 0 (sym c.is_empty.ensures ∙ c.if-is_empty.false)))

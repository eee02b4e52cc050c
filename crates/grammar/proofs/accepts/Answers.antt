use Rattle.std.proofs.Common.{arith}
use borrow.Author.Tests.{eqb-true, eqb-false}
use Rattle.std.proofs.Common.{sym, ◌∙◌}
use Rattle.grammar.proofs.KindLaws.{kinds_length, move_there, left_start, left_refused, left_next, left_open, left_end}
use Rattle.grammar.proofs.accepts.Goals as goal

pub loop-token-init : goal.loop-token-init
loop-token-init c = left_start _ c.new-stack.result c.new-stack.ensures

pub returns-in-None : goal.returns-in-None
returns-in-None c =
    let made = move_there c.args.tokens.now c.loop-token.token-index _ c.loop-token.mode _ c.loop-token-test.true c.move_of.ensures in
    left_refused c.loop-token.invariant made.0 made.1 c.in-None.ensures

pub loop-token-preserved : goal.loop-token-preserved
loop-token-preserved c =
    let made = move_there c.args.tokens.now c.loop-token.token-index _ c.loop-token.mode _ c.loop-token-test.true c.move_of.ensures in
    left_next c.loop-token.invariant made.0 made.1 c.in-Some.ensures

pub returns-then-is_empty : goal.returns-then-is_empty
returns-then-is_empty c =
    left_end c.loop-token.invariant (omega (arith, kinds_length c.args.tokens.now)) (eqb-true c.loop-token.stack.depth 0 (sym c.is_empty.ensures ∙ c.if-is_empty.true)) c.may_end.ensures

pub returns-else-is_empty : goal.returns-else-is_empty
returns-else-is_empty c =
    rw c.if-is_empty.false
    (left_open c.loop-token.invariant (omega (arith, kinds_length c.args.tokens.now)) (eqb-false c.loop-token.stack.depth 0 (sym c.is_empty.ensures ∙ c.if-is_empty.false)))

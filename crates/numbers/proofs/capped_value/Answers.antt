-- One law for each way through the loop.
use native.Mathlib.Omega.{arith}
use Rattle.numbers.proofs.LoopLaws.{state_start, state_next, state_past, state_end}
use Rattle.numbers.proofs.capped_value.Goals as goal

pub loop-digit-init : goal.loop-digit-init
loop-digit-init c = state_start _

pub loop-digit-preserved : goal.loop-digit-preserved
loop-digit-preserved c = state_next c.loop-digit.invariant (omega arith) c.with_digit-state.ensures

pub returns-then-state-ge4294967296 : goal.returns-then-state-ge4294967296
returns-then-state-ge4294967296 c = state_past c.loop-digit.invariant c.if-state-ge4294967296.true

pub returns : goal.returns
returns c = state_end c.loop-digit.invariant (omega arith)

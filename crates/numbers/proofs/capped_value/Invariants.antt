-- The state after all digits is that after those left, read after the state.
use Rattle.numbers.proofs.LoopLaws.{StateFrom}
use Rattle.numbers.proofs.capped_value.Given as goal

abbrev pub invariant-loop-digit : goal.invariant-loop-digit
invariant-loop-digit l = StateFrom l.digits l.state l.digit-index

-- The digits from the place on agree (`AgreeFrom`), which is one past the digit that is looked at next.
use Rattle.numbers.proofs.StrippedLaws.{AgreeFrom}
use Rattle.numbers.proofs.digits_equal.Given as goal

abbrev pub invariant-loop-i : goal.invariant-loop-i
invariant-loop-i l = AgreeFrom l.a l.b l.i

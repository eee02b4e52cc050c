-- The last digits stand at the right, and those of the rest are still to be found.
use Rattle.pages.proofs.NumberLaws.{Digits}
use Rattle.pages.proofs.fields.put_number.Given as goal

abbrev pub invariant-loop-rest : goal.invariant-loop-rest
invariant-loop-rest l = Digits l.n l.rest l.i l.field

abbrev pub decreases-loop-rest : goal.decreases-loop-rest
decreases-loop-rest l = l.rest

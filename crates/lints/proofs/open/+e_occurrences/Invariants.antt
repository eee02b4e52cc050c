use Rattle.std.proofs.Common.{length}
use Rattle.lints.proofs.PartLaws.{Counted}
use Rattle.lints.proofs.open.+e_occurrences.Given as goal

abbrev pub decreases-e_occurrences : goal.decreases-e_occurrences
decreases-e_occurrences l = length l.part.now

abbrev pub invariant-loop-left : goal.invariant-loop-left
invariant-loop-left l = Counted l.part l.left-iterator.0.now l.found

use Rattle.std.proofs.Common.{◌+◌, ◌*◌, length}
use Rattle.matching.proofs.BeginLaws.{Begun}
use Rattle.matching.proofs.values.+begins_same_first.Given as goal

abbrev pub invariant-begins-loop-term : goal.invariant-begins-loop-term
invariant-begins-loop-term l = Begun l.text l.value l.row l.term-iterator.0.now l.left

-- `begins` hands the value's terms on; the contents of a bracket are shorter
abbrev pub decreases-begins : goal.decreases-begins
decreases-begins l = 2 * length l.value.now + 1

abbrev pub decreases-same_first : goal.decreases-same_first
decreases-same_first l = 2 * length l.value.now

use Rattle.std.proofs.Common.{◌-◌, length}
use Rattle.matching.specs.Code.Bound.{values_of}
use Rattle.matching.specs.Code.Step.{Passed}
use Rattle.matching.proofs.front.known_front.Given as goal

abbrev pub invariant-loop-left : goal.invariant-loop-left
invariant-loop-left l = Passed l.records.text.now l.pattern l.row (values_of l.records.text.now l.records.terms.now l.b) l.i l.j

abbrev pub decreases-loop-left : goal.decreases-loop-left
decreases-loop-left l = length l.pattern - l.i

use Rattle.std.proofs.Common.{◌-◌, length}
use Rattle.matching.proofs.StepLaws.{Gone}
use Rattle.matching.proofs.step.symbols_first.Given as goal

abbrev pub invariant-loop-left : goal.invariant-loop-left
invariant-loop-left l = Gone l.text l.pattern l.row l.i l.j

abbrev pub decreases-loop-left : goal.decreases-loop-left
decreases-loop-left l = length l.pattern - l.i

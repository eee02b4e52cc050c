-- The records before k fit.
use Rattle.law.proofs.LevelLaws.{RecordsFit}
use Rattle.law.proofs.runs.run_fits.Given as goal

abbrev pub invariant-loop-k : goal.invariant-loop-k
invariant-loop-k l = RecordsFit l.part l.k

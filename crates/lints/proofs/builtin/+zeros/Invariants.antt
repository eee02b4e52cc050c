use Rattle.std.proofs.Common.{length}
use Rattle.lints.proofs.builtin.+zeros.Given as goal

abbrev pub decreases-zeros : goal.decreases-zeros
decreases-zeros l = length l.part.now

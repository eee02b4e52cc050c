use Rattle.std.proofs.Common.{length}
use Rattle.lints.proofs.builtin.+all_digits.Given as goal

abbrev pub decreases-all_digits : goal.decreases-all_digits
decreases-all_digits l = length l.part.now

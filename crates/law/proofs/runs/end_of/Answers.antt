use Rattle.std.proofs.Common.{arith}
use Rattle.law.specs.Runs.{end_of}
use Rattle.law.proofs.runs.end_of.Goals as goal

pub returns-then-n-eq0 : goal.returns-then-n-eq0
unfolding end_of
returns-then-n-eq0 c = (omega arith, omega arith, omega arith)

pub returns : goal.returns
unfolding end_of
returns c = (omega arith, omega arith, omega arith)

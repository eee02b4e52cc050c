use Rattle.std.proofs.Common.{arith}
use Rattle.law.proofs.IndexLaws.{functions_limit}
use Rattle.formats.proofs.slots.is_counted.Goals as goal

pub bounds-last-g : goal.bounds-last-g
bounds-last-g c = omega (arith, functions_limit _ _ c.args.allowed.now.law.indexed)

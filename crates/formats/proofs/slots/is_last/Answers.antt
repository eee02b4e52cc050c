use Rattle.std.proofs.Common.{arith}
use Rattle.law.proofs.IndexLaws.{functions_limit}
use Rattle.formats.proofs.slots.is_last.Goals as goal

pub overflow_add-f : goal.overflow_add-f
overflow_add-f c = omega (arith, functions_limit _ _ c.args.allowed.now.law.indexed)

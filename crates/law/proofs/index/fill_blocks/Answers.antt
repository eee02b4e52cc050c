use Rattle.std.proofs.Common.{arith, sym}
use Rattle.file.proofs.Below.{total_none}
use Rattle.law.proofs.Tables.{table_none}
use Rattle.law.proofs.index.fill_blocks.Goals as goal

pub loop-t-init : goal.loop-t-init
loop-t-init c = (omega arith, c.requires.3, sym (total_none _), table_none _ _ _)

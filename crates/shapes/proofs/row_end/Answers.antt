use Rattle.std.proofs.Common.{rules}
use Rattle.shapes.specs.Code.Words.{row_end}
use Rattle.shapes.proofs.row_end.Goals as goal

pub returns : goal.returns
unfolding row_end
returns c = search rules

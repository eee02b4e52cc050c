use Rattle.std.proofs.Common.{arith}
use Rattle.formats.proofs.RowLaws.{row_leaf, leaf_over}
use Rattle.formats.proofs.rows.write_leaf.Goals as goal

pub returns-then-out-to-clause-row : goal.returns-then-out-to-clause-row
returns-then-out-to-clause-row c = leaf_over _ _ _ _ c.if-out-to.true

pub returns-clause-row : goal.returns-clause-row
returns-clause-row c = row_leaf _ _ _ _ _ c.from.ensures c.if-out-to.false (omega arith)

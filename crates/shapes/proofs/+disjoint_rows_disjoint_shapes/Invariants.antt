use Rattle.std.proofs.Common.{◌+◌, ◌*◌, length}
use Rattle.shapes.specs.Code.Rows.{word_count}
use Rattle.shapes.proofs.+disjoint_rows_disjoint_shapes.Given as goal

abbrev pub decreases-disjoint_rows : goal.decreases-disjoint_rows
decreases-disjoint_rows l = 2 * length l.a.now + 1

abbrev pub decreases-disjoint_shapes : goal.decreases-disjoint_shapes
decreases-disjoint_shapes l = 2 * word_count l.a

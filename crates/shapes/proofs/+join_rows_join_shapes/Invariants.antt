use Rattle.std.proofs.Common.{◌+◌, ◌*◌, length}
use Rattle.shapes.specs.Code.Rows.{word_count}
use Rattle.shapes.proofs.+join_rows_join_shapes.Given as goal

abbrev pub decreases-join_rows : goal.decreases-join_rows
decreases-join_rows l = 2 * length l.a.now + 1

abbrev pub decreases-join_shapes : goal.decreases-join_shapes
decreases-join_shapes l = 2 * word_count l.a

use Rattle.std.proofs.Common.{◌+◌, ◌*◌, length}
use Rattle.shapes.specs.Code.Rows.{word_count}
use Rattle.shapes.proofs.display.+show_row_show_shape.Given as goal

abbrev pub decreases-show_row : goal.decreases-show_row
decreases-show_row l = 2 * length l.words.now + 1

abbrev pub decreases-show_shape : goal.decreases-show_shape
decreases-show_shape l = 2 * word_count l.shape

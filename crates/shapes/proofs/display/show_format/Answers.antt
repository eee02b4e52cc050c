use Rattle.shapes.specs.Display.{display}
use Rattle.buffers.proofs.PutLaws.{◌then◌}
use Rattle.shapes.proofs.display.show_format.Goals as goal

pub returns-in_default : goal.returns-in_default
unfolding display
returns-in_default c = rw c.in_default.ensures c.put.ensures

pub returns : goal.returns
unfolding display
returns c = rw c.in-Some.ensures.same (c.put-start.ensures then c.show_row-next.ensures.put then c.put-2.ensures)

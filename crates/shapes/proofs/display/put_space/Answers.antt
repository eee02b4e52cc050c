use Rattle.buffers.proofs.PutLaws.{put_none}
use Rattle.shapes.proofs.display.put_space.Goals as goal

pub returns-then-first : goal.returns-then-first
returns-then-first c = rw c.if-first.true (put_none _ _)

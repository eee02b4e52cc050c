-- One byte, where there is room for it or not.
use Rattle.buffers.proofs.PutLaws.{put_one, put_past}
use Rattle.buffers.proofs.put_byte.Goals as goal

pub returns-then-at-out : goal.returns-then-at-out
returns-then-at-out c = put_one _ _ _ c.if-at-out.true

pub returns-else-at-out : goal.returns-else-at-out
returns-else-at-out c = put_past _ _ _ c.if-at-out.false

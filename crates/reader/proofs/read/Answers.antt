use Rattle.reader.proofs.ReadLaws.{text_over, text_read}
use Rattle.reader.proofs.read.Goals as goal

pub returns-then-text-gt4096 : goal.returns-then-text-gt4096
returns-then-text-gt4096 c = text_over _ _ c.if-text-gt4096.true

pub returns : goal.returns
returns c = text_read _ _ _ c.if-text-gt4096.false c.read_lent.ensures

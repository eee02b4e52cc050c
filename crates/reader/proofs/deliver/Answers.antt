use Rattle.reader.proofs.ReadLaws.{too_short, delivered}
use Rattle.reader.proofs.deliver.Goals as goal

pub returns-then-law-file : goal.returns-then-law-file
returns-then-law-file c = too_short _ _ c.if-law-file.true

pub returns : goal.returns
returns c = delivered _ _ _ _ c.if-law-file.false c.put-end.ensures

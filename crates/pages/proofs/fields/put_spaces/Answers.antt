-- Part of a line of spaces.
use Rattle.pages.specs.Page.{space}
use Rattle.pages.proofs.FieldLaws.{take_equal}
use Rattle.pages.proofs.fields.put_spaces.Goals as goal

pub returns : goal.returns
returns c = rw (take_equal c.args.count 72 space c.requires.0) at c.put.ensures

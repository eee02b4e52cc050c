-- The word, and the spaces that are left.
use Rattle.buffers.proofs.TextLaws.{◌next◌}
use Rattle.pages.proofs.FieldLaws.{left_whole}
use Rattle.pages.proofs.fields.put_left.Goals as goal

pub returns : goal.returns
returns c = rw (left_whole c.args.columns c.args.word.now c.requires.0) (c.put.ensures next c.put_spaces.ensures)

-- A name that has place stands whole; of another 23 bytes, and `+`.
use Rattle.std.proofs.Common.{arith}
use Rattle.buffers.proofs.TextLaws.{◌next◌}
use Rattle.pages.proofs.FieldLaws.{short_name_lem, long_name}
use Rattle.pages.proofs.fields.put_name.Goals as goal

pub returns-then-name-le-NAME : goal.returns-then-name-le-NAME
returns-then-name-le-NAME c = rw (short_name_lem c.args.name.now c.if-name-le-NAME.true) c.put_left.ensures

pub returns-else-name-le-NAME : goal.returns-else-name-le-NAME
returns-else-name-le-NAME c = rw (long_name c.args.name.now (omega (arith, c.if-name-le-NAME.false))) (c.put.ensures next c.put_byte.ensures)

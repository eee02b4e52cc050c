-- The digits of the one number, spaces, and the field of the other.
use Rattle.std.proofs.Common.{◌+◌, ◌-◌, arith}
use Rattle.std.proofs.Math.ListN.{length-replicate}
use Rattle.buffers.specs.Decimal.{decimal}
use Rattle.buffers.proofs.TextLaws.{◌next◌}
use Rattle.pages.specs.Page.{space}
use Rattle.pages.proofs.FieldLaws.{right_columns, heading_put}
use Rattle.pages.proofs.put_head.Goals as goal

pub put_byte-requires : goal.put_byte-requires
put_byte-requires c =
    omega (
      arith,
      c.requires.1,
      c.put_decimal.ensures.0,
      c.put_spaces.ensures.put.end,
      length-replicate (61 + c.args.text.now.at - c.put_decimal.new.self.at) space,
      c.put_number.ensures.put.end,
      right_columns 10 (decimal c.args.number),
    )

pub returns : goal.returns
returns c = record {
  same = (c.put_decimal.ensures.1 next c.put_spaces.ensures next c.put_number.ensures next c.put_byte.ensures).same;
  put =
      heading_put c.args.functions c.args.number c.put_decimal.ensures.0 c.put_decimal.ensures.1.put c.put_spaces.ensures.put
      c.put_number.ensures.put c.put_byte.ensures.put;
}

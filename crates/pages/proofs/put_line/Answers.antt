-- The fields that hold words, three numbers, and a line feed.
use Rattle.std.proofs.Common.{arith}
use Rattle.file.specs.Sections.{file_of}
use Rattle.buffers.specs.Decimal.{decimal}
use Rattle.buffers.proofs.TextLaws.{◌next◌}
use Rattle.pages.proofs.FieldLaws.{right_columns}
use Rattle.pages.proofs.LineLaws.{near, line_put}
use Rattle.pages.proofs.put_line.Goals as goal

pub put_number-requires : goal.put_number-requires
put_number-requires c = (
  omega (arith, c.word.ensures.1),
  omega (arith, near (file_of c.args.allowed.now.law.bytes.now) c.args.words.now c.args.first c.requires.2 c.put_words.ensures.put),
)

pub put_number-requires-2 : goal.put_number-requires-2
put_number-requires-2 c = (
  omega (arith, c.word-2.ensures.1),
  omega (
    arith,
    near (file_of c.args.allowed.now.law.bytes.now) c.args.words.now c.args.first c.requires.2 c.put_words.ensures.put,
    c.put_number.ensures.put.end,
    right_columns 10 (decimal c.word.result),
  ),
)

pub put_number-requires-3 : goal.put_number-requires-3
put_number-requires-3 c = (
  omega (arith, c.word-3.ensures.1),
  omega (
    arith,
    near (file_of c.args.allowed.now.law.bytes.now) c.args.words.now c.args.first c.requires.2 c.put_words.ensures.put,
    c.put_number.ensures.put.end,
    right_columns 10 (decimal c.word.result),
    c.put_number-2.ensures.put.end,
    right_columns 10 (decimal c.word-2.result),
  ),
)

pub put_byte-requires : goal.put_byte-requires
put_byte-requires c =
    omega (
      arith,
      near (file_of c.args.allowed.now.law.bytes.now) c.args.words.now c.args.first c.requires.2 c.put_words.ensures.put,
      c.put_number.ensures.put.end,
      right_columns 10 (decimal c.word.result),
      c.put_number-2.ensures.put.end,
      right_columns 10 (decimal c.word-2.result),
      c.put_number-3.ensures.put.end,
      right_columns 10 (decimal c.word-3.result),
    )

pub returns : goal.returns
returns c = record {
  same = (c.put_words.ensures next c.put_number.ensures next c.put_number-2.ensures next c.put_number-3.ensures next c.put_byte.ensures).same;
  put =
      line_put (file_of c.args.allowed.now.law.bytes.now) c.args.words.now c.args.first c.word.ensures.0 c.word-2.ensures.0 c.word-3.ensures.0
      c.put_words.ensures.put c.put_number.ensures.put c.put_number-2.ensures.put c.put_number-3.ensures.put c.put_byte.ensures.put;
}

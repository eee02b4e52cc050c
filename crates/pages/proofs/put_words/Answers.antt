-- Three fields, from what was read of the words.
use Rattle.std.proofs.Common.{ℕ, List, length, ap, arith}
use Rattle.file.specs.Sections.{file_of}
use Rattle.buffers.proofs.TextLaws.{◌next◌}
use Rattle.pages.specs.Page.{cut, severity_word}
use Rattle.pages.specs.Code.Lines.{lint_word_by}
use Rattle.pages.proofs.FieldLaws.{left_columns}
use Rattle.pages.proofs.LineLaws.{words_put}
use Rattle.pages.proofs.put_words.Goals as goal

pub put-requires : goal.put-requires
put-requires c =
    omega (
      arith,
      c.requires.2,
      c.put_name.ensures.put.end,
      left_columns 24 (cut c.function_name.result.now),
      ap (λ (l : List ℕ). length l) c.lint_field.ensures,
      left_columns 8 (lint_word_by c.word-2.result),
    )

pub put-requires-2 : goal.put-requires-2
put-requires-2 c =
    omega (
      arith,
      c.requires.2,
      c.put_name.ensures.put.end,
      left_columns 24 (cut c.function_name.result.now),
      c.put.ensures.put.end,
      ap (λ (l : List ℕ). length l) c.lint_field.ensures,
      left_columns 8 (lint_word_by c.word-2.result),
      ap (λ (l : List ℕ). length l) c.severity_field.ensures,
      left_columns 5 (severity_word c.word-3.result),
    )

pub returns : goal.returns
returns c = record {
  same = (c.put_name.ensures next c.put.ensures next c.put-2.ensures).same;
  put =
      words_put (file_of c.args.allowed.now.law.bytes.now) c.args.words.now c.args.first c.word.ensures.0 c.function_name.ensures
      c.word-2.ensures.0 c.word-3.ensures.0 c.put_name.ensures.put (rw c.lint_field.ensures at c.put.ensures).put
      (rw c.severity_field.ensures at c.put-2.ensures).put;
}

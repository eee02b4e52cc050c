use Rattle.std.proofs.Common.{◌≡◌, ◌+◌, length}
use Rattle.file.specs.Sections.{file_of}
use Rattle.shapes.specs.Words.{read_format}
use Rattle.formats.specs.Infer.{find}
use Rattle.formats.specs.Code.Slots.{file_names}
use Rattle.formats.specs.Code.Turns.{results_in}
use Rattle.formats.proofs.SentenceLaws.{RowsLeft}
use Rattle.formats.proofs.infer.join_sentences.Given as goal

abbrev pub invariant-loop-i : goal.invariant-loop-i
invariant-loop-i l =
    (length l.row ≡ l.placed.limit + 1)
    × RowsLeft l.placed.limit (file_of l.placed.law.bytes.now) l.side (find (results_in l.placed.limit (file_names (file_of l.placed.law.bytes.now)) l.store))
    (read_format l.fn.joined) l.first l.number l.i l.joined

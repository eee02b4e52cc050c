use Rattle.std.proofs.Common.{◌≡◌, ◌+◌, ◌*◌, ◌≤◌, List, drop}
use Rattle.tokens.specs.Token.{Placed}
use Rattle.encoding.specs.Code.FlatTerms.{inside}
use Rattle.encoding.specs.Code.FlatFile.{part_records}
use Rattle.writing.specs.Code.Held.{HeldIn, Stand}
use Rattle.writing.specs.Code.Found.{run_state}
use Rattle.writing.proofs.source.Source.part_records.Given as goal

abbrev pub invariant-loop-i : goal.invariant-loop-i
invariant-loop-i l =
    (l.n ≤ 4096 * l.i)
    × ((ts : List Placed) → HeldIn l.self.tokens.now ts → Stand l.self.text.now ts
    → part_records inside (drop l.from ts) ≡ l.n + part_records (run_state l.calling) (drop l.i ts))

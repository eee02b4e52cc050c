use Rattle.std.proofs.Common.{◌≡◌, List, drop}
use Rattle.tokens.specs.Token.{Placed}
use Rattle.encoding.specs.Code.FlatFile.{part_end}
use Rattle.writing.specs.Code.Held.{HeldIn}
use Rattle.writing.proofs.source.Source.part_end.Given as goal

abbrev pub invariant-loop-i : goal.invariant-loop-i
invariant-loop-i l = (ts : List Placed) → HeldIn l.self.tokens.now ts → part_end l.other (drop l.from ts) ≡ part_end l.end (drop l.i ts)

use Rattle.std.proofs.Common.{◌≡◌, ◌-◌, ◌*◌, ◌≤◌, List, length}
use Rattle.tokens.specs.Token.{Placed}
use Rattle.tokens.specs.Code.Arrays.{kinds_in}
use Rattle.writing.specs.Code.Held.{HeldIn, Stand}
use Rattle.writing.specs.Code.Closers.{closers_in, sums_in, ClosedFrom, sum_of, SummedFrom}
use Rattle.writing.proofs.source.Source.look_ahead.Given as goal

abbrev pub invariant-loop-passed : goal.invariant-loop-passed
invariant-loop-passed l =
    (l.records ≤ 4096 * l.passed)
    × ClosedFrom (length l.self.tokens.now - l.passed) (kinds_in l.self.tokens.now) (closers_in l.ahead)
    × ((ts : List Placed) → HeldIn l.self.tokens.now ts → Stand l.self.text.now ts
    → (l.records ≡ sum_of (kinds_in l.self.tokens.now) ts (length l.self.tokens.now - l.passed))
    × SummedFrom (length l.self.tokens.now - l.passed) (kinds_in l.self.tokens.now) (sums_in l.ahead) ts)

-- The sum of the records passed, and the table up to it.
use Rattle.std.proofs.Common.{ℕ, ◌≡◌, ◌+◌, ◌*◌, ◌≤◌, ◌<◌, length}
use Rattle.file.specs.Below.{total}
use Rattle.law.specs.Code.Filling.{Table, as_word}
use Rattle.law.proofs.index.fill_sums.Given as goal

abbrev pub invariant-loop-i : goal.invariant-loop-i
invariant-loop-i g l =
    (l.sum ≤ 8589934590 * l.i)
    × (length l.index ≡ 972)
    × ((f : ℕ → ℕ) → ((i n : ℕ) → i < l.count → goal.F-post g l.number i n → n ≡ f i)
    → (l.sum ≡ total l.i f) × Table l.fn.index l.index l.from (l.i + 1) (λ n. as_word (total n f)))

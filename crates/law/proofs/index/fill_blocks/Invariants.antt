-- As `fill_sums`, with a word written before its record is added.
use Rattle.std.proofs.Common.{◌≡◌, ◌+◌, ◌*◌, ◌≤◌, length}
use Rattle.law.specs.Code.Filling.{Table, block_sum, as_word}
use Rattle.law.proofs.index.fill_blocks.Given as goal

abbrev pub invariant-loop-t : goal.invariant-loop-t
invariant-loop-t l =
    (l.sum ≤ 4294967295 * l.t) × (length l.index ≡ 972) × (l.sum ≡ block_sum l.terms l.t)
    × Table l.fn.index l.index l.from l.t (λ n. as_word (l.first + block_sum l.terms n))

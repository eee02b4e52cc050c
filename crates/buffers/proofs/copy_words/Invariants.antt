-- The words before the i-th are copied, and the others as they were.
use Rattle.std.proofs.Common.{◌≡◌, ◌++◌, length, take, drop}
use Rattle.buffers.proofs.copy_words.Given as goal

abbrev pub invariant-loop-i : goal.invariant-loop-i
invariant-loop-i l = (length l.to ≡ length l.fn.to) × (l.to ≡ take l.i l.from ++ drop l.i l.fn.to)

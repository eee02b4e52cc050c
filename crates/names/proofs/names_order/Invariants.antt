-- The pairs so far are the same when folded, and what is left decides.
use Rattle.std.proofs.Common.{length}
use Rattle.names.specs.Name.{fold_byte}
use Rattle.names.proofs.Laws.{OrderFrom}
use Rattle.names.proofs.names_order.Given as goal

abbrev pub invariant-loop-x : goal.invariant-loop-x
invariant-loop-x l =
    (goal.iterator-loop-x).can_next l.x-iterator × (goal.iterator-loop-x).is_finite l.x-iterator × OrderFrom fold_byte l.a l.b (length l.yielded)

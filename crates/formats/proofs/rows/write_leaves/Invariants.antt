use Rattle.std.proofs.Common.{◌≡◌, length}
use Rattle.formats.specs.Code.Rows.{LeavesAre}
use Rattle.formats.proofs.rows.write_leaves.Given as goal

-- n records are written
abbrev pub invariant-loop-n : goal.invariant-loop-n
invariant-loop-n l = (length l.out ≡ length l.fn.out) × LeavesAre l.part l.fn.out l.out l.to (length l.fn.out) l.n

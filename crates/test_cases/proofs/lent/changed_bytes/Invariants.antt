-- The end of what was changed is no later than the position.
use Rattle.std.proofs.Common.{◌≤◌}
use Rattle.test_cases.proofs.lent.changed_bytes.Given as goal

abbrev pub invariant-loop-i : goal.invariant-loop-i
invariant-loop-i l = l.end ≤ l.i

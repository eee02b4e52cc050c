use Rattle.std.proofs.Common.{◌≡◌}
use Rattle.lints.specs.Code.Verdicts.{last_placed}
use Rattle.lints.proofs.recognition.last_placed.Given as goal

-- the search among all functions is the one among those that are left
abbrev pub invariant-loop-f : goal.invariant-loop-f
invariant-loop-f l = last_placed l.slots l.place l.count ≡ last_placed l.slots l.place l.f

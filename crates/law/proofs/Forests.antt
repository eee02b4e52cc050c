-- Runs of term records as the code goes through them.
use Prim.Native.Nat.{ℕ, ◌-◌, ◌≤◌, ◌<◌}
use mathlib.Core.List.{List}
use mathlib.Core.Path.{◌≡◌}
use lib.ListN.{length, take, drop}
use lib.Dec.{lit<}
use Rattle.file.proofs.Forest.{contents_falls, rest_falls}
use Rattle.law.specs.Runs.{end_of}
use Rattle.law.proofs.RunLaws as runs

-- what is inside the first record, and what is after it, is shorter than the run; e is where the contents end
pub inside_falls : (s : List ℕ) (e t : ℕ) → 24 ≤ length s → e ≡ end_of s → length s ≡ t → length (take (e - 24) (drop 24 s)) < t
inside_falls s e t h p q = rw (p, ← q) (contents_falls 24 end_of (lit< tt) runs.end_low runs.end_high s h)

pub after_falls : (s : List ℕ) (e t : ℕ) → 24 ≤ length s → e ≡ end_of s → length s ≡ t → length (take (length s - e) (drop e s)) < t
after_falls s e t h p q = rw (p, ← q) (rest_falls 24 end_of (lit< tt) runs.end_low runs.end_high s h)

use Rattle.std.proofs.Common.{ℕ, Bool, ◌+◌, ◌<◌, ◌≡◌, length, drop}
use Rattle.tokens.specs.Lex.{leading}
use Rattle.tokens.proofs.atoms.leading_end.Given as goal

-- the run is decided by the bytes from i on
abbrev pub invariant-loop-i : goal.invariant-loop-i
invariant-loop-i g l =
    (test : ℕ → Bool) → ((c : ℕ) (b : Bool) → c < 256 → goal.F-post g l.passes c b → b ≡ test c)
    → l.at + length (leading test (drop l.at l.text)) ≡ l.i + length (leading test (drop l.i l.text))

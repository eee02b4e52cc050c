-- A number as it is written in decimal digits.
-- docs/SPECIFICATION.md, 11.1 to 11.3.
use Rattle.std.specs.Prelude.{ℕ, zero, suc, ◌+◌, ◌/◌, ◌%◌, cond, List, [], ◌∷◌, ◌++◌, ltb}

-- the decimal digits of a number, at most so many of them
unfoldable pub digits_within : ℕ → ℕ → List ℕ
digits_within zero n = []
digits_within (suc most) n = let more = digits_within most (n / 10) ++ (48 + n % 10) ∷ [] in cond (ltb n 10) ((48 + n) ∷ []) more

-- all of them: n has no more than n + 1
abbrev pub decimal : ℕ → List ℕ
decimal n = digits_within (suc n) n

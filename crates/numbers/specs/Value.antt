-- The value of decimal digits, an unbounded number, and digits by which a value is told. Digits are the bytes of `0` to `9`.
-- Document 02, R-3: "Two number literals are now the same symbol when their values are equal."
-- docs/SPECIFICATION.md, 7.5, 8.7, 8.8, 15.1.
use Rattle.std.specs.Prelude.{ℕ, ◌+◌, ◌*◌, ◌-◌, ◌≤◌, Bool, true, cond, List, [], ◌∷◌, ◌≡◌, eqb, leb, length}
use Rattle.names.specs.Name.{digit_byte, every_byte}

-- a number is spelled by digits, one at least
abbrev pub Digits : List ℕ → Type 0
Digits ds = (1 ≤ length ds) × (every_byte digit_byte ds ≡ true)

-- the value of decimal digits, before which a value was read
abbrev pub value_after : ℕ → List ℕ → ℕ
value_after n [] = n
value_after n (d ∷ ds) = value_after (n * 10 + (d - 48)) ds

abbrev pub value_of : List ℕ → ℕ
value_of digits = value_after 0 digits

-- a number is a macrodigit by its value
abbrev pub is_macrodigit : ℕ → Bool
is_macrodigit n = leb n 4294967295

-- a number without its needless leading zeros: each `0` before another digit is taken off
abbrev pub stripped : List ℕ → List ℕ
stripped [] = []
stripped (d ∷ []) = d ∷ []
stripped (d ∷ e ∷ ds) = cond (eqb d 48) (stripped (e ∷ ds)) (d ∷ e ∷ ds)

-- What an editor relies on when a number is typed: the answer to each byte, and the state after it, by the value of the digits so far.
-- Document 02, R-2: "The editor marks a number past the macrodigits as it is typed."
-- docs/SPECIFICATION.md, 20.
use Rattle.std.specs.Prelude.{ℕ, ◌+◌, ◌*◌, ◌-◌, ◌≤◌, ◌<◌, true, false, ◌⊎◌, ◌≡◌}
use Rattle.names.specs.Name.{digit_byte}

-- a state stands for a value: it is that value, or both are past the macrodigits
abbrev pub StandsFor : ℕ → ℕ → Type 0
StandsFor state n = (state ≡ n) ⊎ ((4294967295 < state) × (4294967295 < n))

-- `n` is the value of the digits before the byte, and `n * 10 + (byte - 48)` that of all digits so far; `after` is the state after the call
pub record Marked (state byte number after : ℕ) : Type 0 where
  pub no_digit : digit_byte byte ≡ false → (number ≡ 2) × (after ≡ state)
  pub at_most : digit_byte byte ≡ true → (n : ℕ) → StandsFor state n → n * 10 + (byte - 48) ≤ 4294967295 → (number ≡ 1) × (after ≡ n * 10 + (byte - 48))
  pub past : digit_byte byte ≡ true → (n : ℕ) → StandsFor state n → 4294967295 < n * 10 + (byte - 48) → (number ≡ 0) × (after ≡ 4294967296)

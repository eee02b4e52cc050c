-- The test of digits in one pass: what is kept between digits, and what is answered after each.
-- Document 02, R-2: "A test is handed its digits one by one from the left, keeps a state of fixed size, and after each, up to 64, answers whether the value of
-- the digits so far is at most 4294967295."
-- docs/SPECIFICATION.md, 20.
use Rattle.std.specs.Prelude.{ℕ, min, cond, List, [], ◌∷◌}
use Rattle.names.specs.Name.{digit_byte}
use Rattle.numbers.specs.Value.{value_after, value_of, is_macrodigit}
use Rattle.numbers.specs.declared.Step.{Step}
use Rattle.numbers.specs.declared.Tested.{Tested}
use Rattle.numbers.specs.declared.Tested.TheVariants.{AtMost, Past, NoDigit}

-- a value, or 4294967296 where it is more: as much as is kept of it
abbrev pub capped : ℕ → ℕ
capped n = min n 4294967296

-- the state after digits; after none it is 0
abbrev pub state_of : List ℕ → ℕ
state_of digits = capped (value_of digits)

-- the answer by the value of the digits so far
abbrev pub tested : ℕ → Tested
tested n = cond (is_macrodigit n) AtMost Past

-- One step: the state and the answer after a byte. A digit is read after the state as a value, whether or not digits give that state; a byte that is no digit
-- leaves the state as it was.
abbrev pub step_of : ℕ → ℕ → Step
step_of state byte =
    let n : ℕ = value_after state (byte ∷ []) in
    cond (digit_byte byte) (record { state = capped n; answer = tested n }) (record { state = state; answer = NoDigit })

-- the state after bytes that are handed over one by one
abbrev pub state_after : ℕ → List ℕ → ℕ
state_after state [] = state
state_after state (b ∷ bs) = state_after (step_of state b).state bs

-- the digits among bytes
abbrev pub digits_in : List ℕ → List ℕ
digits_in [] = []
digits_in (b ∷ bs) = cond (digit_byte b) (b ∷ digits_in bs) (digits_in bs)

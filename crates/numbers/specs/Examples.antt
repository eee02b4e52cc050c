-- Examples of the definitions in `Value` and `OnePass`, each by computation. Digits stand as the list of their bytes.
use Rattle.std.specs.Prelude.{ℕ, ◌^◌, ◌-◌, List, [], ◌∷◌, ◌++◌, true, false, ◌≡◌, refl, replicate}
use Rattle.numbers.specs.Value.{value_of, is_macrodigit, stripped}
use Rattle.numbers.specs.OnePass.{state_of, step_of, state_after, digits_in}
use Rattle.numbers.specs.declared.Step.{Step}
use Rattle.numbers.specs.declared.Tested.{Tested}
use Rattle.numbers.specs.declared.Tested.TheVariants.{AtMost, Past, NoDigit}

-- `0`, and no digits
zero_value : value_of (48 ∷ []) ≡ 0
zero_value = refl

empty_value : value_of [] ≡ 0
empty_value = refl

-- `7` and `007` have one value
seven_value : value_of (55 ∷ []) ≡ 7
seven_value = refl

zeros_value : value_of (48 ∷ 48 ∷ 55 ∷ []) ≡ 7
zeros_value = refl

-- ---- without needless zeros

-- `007` is `7`, and `7` stays
zeros_stripped : stripped (48 ∷ 48 ∷ 55 ∷ []) ≡ 55 ∷ []
zeros_stripped = refl

seven_stripped : stripped (55 ∷ []) ≡ 55 ∷ []
seven_stripped = refl

-- of 64 zeros one is left, and `0` stays
many_stripped : stripped (replicate 64 48) ≡ 48 ∷ []
many_stripped = refl

zero_stripped : stripped (48 ∷ []) ≡ 48 ∷ []
zero_stripped = refl

-- zeros between digits and behind them stay: `0700` is `700`, `101` stays
behind_stripped : stripped (48 ∷ 55 ∷ 48 ∷ 48 ∷ []) ≡ 55 ∷ 48 ∷ 48 ∷ []
behind_stripped = refl

between_stripped : stripped (49 ∷ 48 ∷ 49 ∷ []) ≡ 49 ∷ 48 ∷ 49 ∷ []
between_stripped = refl

-- 64 digits stay
nines_stripped : stripped (replicate 64 57) ≡ replicate 64 57
nines_stripped = refl

-- ---- macrodigits

-- `4294967295` is the last macrodigit
last_value : value_of (52 ∷ 50 ∷ 57 ∷ 52 ∷ 57 ∷ 54 ∷ 55 ∷ 50 ∷ 57 ∷ 53 ∷ []) ≡ 4294967295
last_value = refl

last_macrodigit : is_macrodigit (value_of (52 ∷ 50 ∷ 57 ∷ 52 ∷ 57 ∷ 54 ∷ 55 ∷ 50 ∷ 57 ∷ 53 ∷ [])) ≡ true
last_macrodigit = refl

next_over : is_macrodigit (value_of (52 ∷ 50 ∷ 57 ∷ 52 ∷ 57 ∷ 54 ∷ 55 ∷ 50 ∷ 57 ∷ 54 ∷ [])) ≡ false
next_over = refl

-- 64 zeros and 64 nines: nothing is lost past a machine word
many_zeros : value_of (replicate 64 48) ≡ 0
many_zeros = refl

many_nines : value_of (replicate 64 57) ≡ 10 ^ 64 - 1
many_nines = refl

nines_over : is_macrodigit (value_of (replicate 64 57)) ≡ false
nines_over = refl

-- ---- digits in one pass

abbrev step : ℕ → Tested → Step
step state answer = record { state = state; answer = answer }

-- the digits of `429496729`, after which `5` gives the last macrodigit
abbrev nine_digits : List ℕ
nine_digits = 52 ∷ 50 ∷ 57 ∷ 52 ∷ 57 ∷ 54 ∷ 55 ∷ 50 ∷ 57 ∷ []

-- `5` and `6` after them: the edge of the macrodigits
last_step : step_of (state_after 0 nine_digits) 53 ≡ step 4294967295 AtMost
last_step = refl

next_step : step_of (state_after 0 nine_digits) 54 ≡ step 4294967296 Past
next_step = refl

-- an eleventh digit: what is past stays past, with a zero too
eleventh_step : step_of (state_after 0 (nine_digits ++ 53 ∷ [])) 48 ≡ step 4294967296 Past
eleventh_step = refl

past_step : step_of 4294967296 48 ≡ step 4294967296 Past
past_step = refl

-- it is not the number of digits: 64 zeros before the last macrodigit, and before the number after it
zeros_last : step_of (state_after 0 (replicate 64 48 ++ nine_digits)) 53 ≡ step 4294967295 AtMost
zeros_last = refl

zeros_next : step_of (state_after 0 (replicate 64 48 ++ nine_digits)) 54 ≡ step 4294967296 Past
zeros_next = refl

zeros_step : step_of (state_after 0 (replicate 63 48)) 48 ≡ step 0 AtMost
zeros_step = refl

nines_step : step_of (state_after 0 (replicate 63 57)) 57 ≡ step 4294967296 Past
nines_step = refl

-- a letter, and the bytes before `0` and after `9`, leave any state as it was
letter_step : step_of 42 65 ≡ step 42 NoDigit
letter_step = refl

before_digits : step_of 18446744073709551615 47 ≡ step 18446744073709551615 NoDigit
before_digits = refl

after_digits : step_of 0 58 ≡ step 0 NoDigit
after_digits = refl

-- a letter between digits: `4A2`
letter_between : state_after 0 (52 ∷ 65 ∷ 50 ∷ []) ≡ 42
letter_between = refl

digits_alone : digits_in (52 ∷ 65 ∷ 50 ∷ []) ≡ 52 ∷ 50 ∷ []
digits_alone = refl

-- states that no digits give are past the macrodigits, the greatest word too: its value times ten is no word
over_step : step_of 4294967297 48 ≡ step 4294967296 Past
over_step = refl

greatest_step : step_of 18446744073709551615 57 ≡ step 4294967296 Past
greatest_step = refl

-- the state after digits is their value, or 4294967296
start_state : state_of [] ≡ 0
start_state = refl

nine_state : state_of nine_digits ≡ 429496729
nine_state = refl

nines_state : state_of (replicate 64 57) ≡ 4294967296
nines_state = refl

-- The test of digits in one pass is the value's test: after any bytes from the start the state is what is kept of the value of the digits among them, and the
-- answer after a digit is that of the value of all digits so far, as the builtin lint asks it of a number (`is_macrodigit` of `value_of`).
use Prim.Native.Nat.{ℕ, ◌+◌, ◌*◌, ◌-◌}
use mathlib.Core.Bool.{Bool, true, false}
use mathlib.Core.List.{List, [], ◌∷◌, ◌++◌}
use mathlib.Core.Path.{◌≡◌, refl, ap, sym, ◌∙◌}
use Rattle.names.specs.Name.{digit_byte, every_byte}
use Rattle.names.proofs.Laws.{both_hold}
use Rattle.numbers.specs.Value.{value_after, value_of}
use Rattle.numbers.specs.OnePass.{capped, state_of, tested, step_of, state_after, digits_in}
use Rattle.numbers.proofs.CapLaws.{capped_after, tested_after}

-- digits are read one part after the other
value_parts : (n : ℕ) (xs ys : List ℕ) → value_after n (xs ++ ys) ≡ value_after (value_after n xs) ys
value_parts n [] ys = refl
value_parts n (x ∷ xs) ys = value_parts (n * 10 + (x - 48)) xs ys

-- the digits among digits are all of them
digits_in_digits : (ds : List ℕ) → every_byte digit_byte ds ≡ true → digits_in ds ≡ ds
unfolding every_byte
digits_in_digits [] h = refl
digits_in_digits (d ∷ ds) h =
    let (e, q) = both_hold (digit_byte d) (every_byte digit_byte ds) h in
    rw (e, digits_in_digits ds q)

-- the state after bytes that are handed over after a value
state_after_lem : (n : ℕ) (bs : List ℕ) → state_after (capped n) bs ≡ capped (value_after n (digits_in bs))
state_after_lem n [] = refl
state_after_lem n (b ∷ bs) = go (digit_byte b) refl (λ m. state_after_lem m bs) where
  go : (is : Bool) → digit_byte b ≡ is → ((m : ℕ) → state_after (capped m) bs ≡ capped (value_after m (digits_in bs)))
      → state_after (step_of (capped n) b).state bs ≡ capped (value_after n (digits_in (b ∷ bs)))
  go true e rest = rw e (ap (λ s. state_after s bs) (capped_after n (b ∷ [])) ∙ rest (n * 10 + (b - 48)))
  go false e rest = rw e (rest n)

-- after any bytes from the start
pub state_of_bytes : (bs : List ℕ) → state_after 0 bs ≡ state_of (digits_in bs)
state_of_bytes bs = state_after_lem 0 bs

-- after any digits from the start
pub state_of_digits : (ds : List ℕ) → every_byte digit_byte ds ≡ true → state_after 0 ds ≡ state_of ds
state_of_digits ds h = state_of_bytes ds ∙ ap state_of (digits_in_digits ds h)

-- the answer after a digit
pub answer_after_lem : (bs : List ℕ) (d : ℕ) → digit_byte d ≡ true → (step_of (state_after 0 bs) d).answer ≡ tested (value_of (digits_in bs ++ d ∷ []))
answer_after_lem bs d h =
    let read : (step_of (state_after 0 bs) d).answer ≡ tested (value_after (state_of (digits_in bs)) (d ∷ [])) = rw (state_of_bytes bs, h) refl in
    read ∙ (tested_after (value_of (digits_in bs)) (d ∷ []) ∙ ap tested (sym (value_parts 0 (digits_in bs) (d ∷ []))))

-- the answer after the last of some digits
pub answer_of_digits : (ds : List ℕ) (d : ℕ) → every_byte digit_byte ds ≡ true → digit_byte d ≡ true
    → (step_of (state_after 0 ds) d).answer ≡ tested (value_of (ds ++ d ∷ []))
answer_of_digits ds d h e = answer_after_lem ds d e ∙ ap (λ xs. tested (value_of (xs ++ d ∷ []))) (digits_in_digits ds h)

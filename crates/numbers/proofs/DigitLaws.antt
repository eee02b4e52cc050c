-- A value has one spelling without needless zeros, and every number of that value is so spelled once its needless zeros are taken off. So two numbers,
-- of any digits, are the same without them exactly when their values are equal.
use Prim.Native.Nat.{ℕ, zero, suc, ◌+◌, ◌*◌, ◌-◌, ◌/◌, ◌%◌, ◌≤◌, ◌<◌}
use mathlib.Core.Bool.{Bool, true, false, cond}
use mathlib.Core.List.{List, [], ◌∷◌, ◌++◌, append-nil}
use mathlib.Core.Path.{◌≡◌, refl, ap, sym, ◌∙◌}
use native.Mathlib.Omega.{arith}
use lib.Dec.{ltb, leb, eqb}
use lib.ListN.{length}
use borrow.Author.Tests.{leb-true, lt-ltb, le-ltb, eqb-true, eqb-false, eq-eqb, ne_eqb}
use Rattle.names.specs.Name.{digit_byte, every_byte, same_bytes, length_allowed, number_allowed}
use Rattle.names.proofs.Laws.{both_hold, between_low, same_sound, same_refl}
use Rattle.numbers.specs.Value.{Digits, value_after, value_of, stripped}

-- the digits of a value before others, at most so many
digits_before : ℕ → ℕ → List ℕ → List ℕ
digits_before zero n more = more
digits_before (suc left) n more = cond (ltb n 10) ((48 + n) ∷ more) (digits_before left (n / 10) ((48 + n % 10) ∷ more))

-- the digits of a value: it has no more than one more than its value
pub digits_of : ℕ → List ℕ
digits_of n = digits_before (suc n) n []

-- a digit is one of ten
digit_range : (d : ℕ) → digit_byte d ≡ true → (48 ≤ d) × (d ≤ 57)
digit_range d h = let (low, high) = both_hold (leb 48 d) (leb d 57) h in (leb-true 48 d low, leb-true d 57 high)

-- the first of some digits, and the others
first_digit : (d : ℕ) (ds : List ℕ) → every_byte digit_byte (d ∷ ds) ≡ true → ((48 ≤ d) × (d ≤ 57)) × (every_byte digit_byte ds ≡ true)
unfolding every_byte
first_digit d ds h = let (e, q) = both_hold (digit_byte d) (every_byte digit_byte ds) h in (digit_range d e, q)

-- a value of one digit
last_digit : (left n : ℕ) (more : List ℕ) → n < 10 → digits_before (suc left) n more ≡ (48 + n) ∷ more
unfolding digits_before
last_digit left n more h = rw (lt-ltb n 10 h)

-- one digit more is taken off
next_digit : (left n d : ℕ) (more : List ℕ) → 1 ≤ n → 48 ≤ d → d ≤ 57
    → digits_before (suc left) (n * 10 + (d - 48)) more ≡ digits_before left n (d ∷ more)
unfolding digits_before
next_digit left n d more h l u =
    let quotient : (n * 10 + (d - 48)) / 10 ≡ n = omega arith in
    let digit : 48 + (n * 10 + (d - 48)) % 10 ≡ d = omega arith in
    rw (le-ltb (n * 10 + (d - 48)) 10 (omega arith), quotient, digit)

-- all digits read after a value that is not zero are taken off again
digits_after : (ds more : List ℕ) (n left all : ℕ) → every_byte digit_byte ds ≡ true → 1 ≤ n → all ≡ length ds + left
    → digits_before all (value_after n ds) more ≡ digits_before left n (ds ++ more)
digits_after [] more n left all h p e = let same : all ≡ left = omega arith in rw same
digits_after (d ∷ ds) more n left all h p e =
    let ((l, u), q) = first_digit d ds h in
    digits_after ds more (n * 10 + (d - 48)) (suc left) all q (omega arith) (omega arith) ∙ next_digit left n d (ds ++ more) p l u

-- each digit read after a value that is not zero adds one at least
value_after_grows : (ds : List ℕ) (n : ℕ) → 1 ≤ n → n + length ds ≤ value_after n ds
value_after_grows [] n p = omega arith
value_after_grows (d ∷ ds) n p = omega (arith, value_after_grows ds (n * 10 + (d - 48)) (omega arith))

-- a zero before digits adds nothing
zero_before : (d : ℕ) (ds : List ℕ) → eqb d 48 ≡ true → value_of (d ∷ ds) ≡ value_of ds
zero_before d ds h = let nothing_yet : 0 * 10 + (d - 48) ≡ 0 = omega (arith, eqb-true d 48 h) in rw nothing_yet

-- a first digit that is no zero, and all after it, are the digits of their value
plain_digits : (d : ℕ) (ds : List ℕ) → every_byte digit_byte (d ∷ ds) ≡ true → (d ≡ 48 → ⊥) → digits_of (value_of (d ∷ ds)) ≡ d ∷ ds
unfolding digits_of
plain_digits d ds h nonzero =
    let ((l, u), q) = first_digit d ds h in
    let first : 1 ≤ 0 * 10 + (d - 48) = omega (arith, nonzero) in
    let digit : 48 + (0 * 10 + (d - 48)) ≡ d = omega arith in
    let left : ℕ = value_of (d ∷ ds) - length ds in
    digits_after ds [] (0 * 10 + (d - 48)) (suc left) (suc (value_of (d ∷ ds))) q first
    (omega (arith, value_after_grows ds (0 * 10 + (d - 48)) first))
    ∙ (last_digit left (0 * 10 + (d - 48)) (ds ++ []) (omega arith) ∙ rw (digit, append-nil))

-- one digit is that of its value
one_digit : (d : ℕ) → every_byte digit_byte (d ∷ []) ≡ true → digits_of (value_of (d ∷ [])) ≡ d ∷ []
unfolding digits_of
one_digit d h =
    let ((l, u), q) = first_digit d [] h in
    let digit : 48 + (0 * 10 + (d - 48)) ≡ d = omega arith in
    last_digit (0 * 10 + (d - 48)) (0 * 10 + (d - 48)) [] (omega arith) ∙ rw digit

-- a number that a law may spell
pub allowed_digits : (ds : List ℕ) → number_allowed ds ≡ true → Digits ds
allowed_digits ds h =
    let (size, digits) = both_hold (length_allowed (length ds)) (every_byte digit_byte ds) h in
    (between_low 1 64 (length ds) size, digits)

-- the digits of the value of any digits are these without needless zeros
pub digits_of_value : (ds : List ℕ) → Digits ds → digits_of (value_of ds) ≡ stripped ds
digits_of_value [] (some-digit, h) = absurd (omega arith)
digits_of_value (d ∷ []) (some-digit, h) = one_digit d h
digits_of_value (d ∷ e ∷ ds) (some-digit, h) = go (eqb d 48) refl (digits_of_value (e ∷ ds) (omega arith, (first_digit d (e ∷ ds) h).1))
  where
    go : (b : Bool) → eqb d 48 ≡ b → digits_of (value_of (e ∷ ds)) ≡ stripped (e ∷ ds)
        → digits_of (value_of (d ∷ e ∷ ds)) ≡ cond b (stripped (e ∷ ds)) (d ∷ e ∷ ds)
    go true q below = rw (zero_before d (e ∷ ds) q) below
    go false q below = plain_digits d (e ∷ ds) h (eqb-false d 48 q)

-- without needless zeros the value stays
pub stripped_value : (ds : List ℕ) → value_of (stripped ds) ≡ value_of ds
stripped_value [] = refl
stripped_value (d ∷ []) = refl
stripped_value (d ∷ e ∷ ds) = go (eqb d 48) refl (stripped_value (e ∷ ds))
  where
    go : (b : Bool) → eqb d 48 ≡ b → value_of (stripped (e ∷ ds)) ≡ value_of (e ∷ ds)
        → value_of (cond b (stripped (e ∷ ds)) (d ∷ e ∷ ds)) ≡ value_of (d ∷ e ∷ ds)
    go true q below = below ∙ sym (zero_before d (e ∷ ds) q)
    go false q below = refl

-- numbers of any digits are the same without needless zeros exactly when their values are equal
pub same_value : (x y : List ℕ) → Digits x → Digits y → same_bytes (stripped x) (stripped y) ≡ eqb (value_of x) (value_of y)
same_value x y h k = go (same_bytes (stripped x) (stripped y)) refl
  where
    go : (b : Bool) → same_bytes (stripped x) (stripped y) ≡ b → b ≡ eqb (value_of x) (value_of y)
    go true q =
        let alike : stripped x ≡ stripped y = same_sound (stripped x) (stripped y) q in
        sym (eq-eqb (value_of x) (value_of y) (sym (stripped_value x) ∙ (ap value_of alike ∙ stripped_value y)))
    go false q = sym (ne_eqb (value_of x) (value_of y) differ)
      where
        differ : value_of x ≡ value_of y → ⊥
        differ v =
            let alike : stripped x ≡ stripped y = sym (digits_of_value x h) ∙ (ap digits_of v ∙ digits_of_value y k) in
            let same : same_bytes (stripped x) (stripped y) ≡ true = rw alike (same_refl (stripped y)) in
            let z : ◌≡◌ {A = ℕ} 0 1 = cc in
            absurd (omega arith)

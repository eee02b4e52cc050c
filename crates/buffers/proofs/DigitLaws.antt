-- Laws of a number in decimal digits: one digit alone, a last digit after those before it, and how many there are.
use Prim.Native.Nat.{ℕ, zero, suc, ◌+◌, ◌*◌, ◌/◌, ◌%◌, ◌≤◌, ◌<◌}
use mathlib.Core.List.{[], ◌∷◌, ◌++◌}
use mathlib.Core.Path.{◌≡◌}
use native.Mathlib.Omega.{arith}
use native.Mathlib.Decide.{dec_lt}
use lib.ListN.{length, length-append}
use borrow.Author.Tests.{lt-ltb, le-ltb}
use Rattle.buffers.specs.Code.Put.{largest}
use Rattle.buffers.specs.Decimal.{digits_within, decimal}

-- a number below ten, and one of ten or more
digit_alone : (most n : ℕ) → n < 10 → digits_within (suc most) n ≡ (48 + n) ∷ []
unfolding digits_within
digit_alone most n h = rw (lt-ltb n 10 h)

digit_last : (most n : ℕ) → 10 ≤ n → digits_within (suc most) n ≡ digits_within most (n / 10) ++ (48 + n % 10) ∷ []
unfolding digits_within
digit_last most n h = rw (le-ltb n 10 h)

-- more digits allowed than there are change nothing
enough : (j k n : ℕ) → n < j → n < k → digits_within j n ≡ digits_within k n
enough zero k n p q = absurd (omega arith)
enough (suc j) zero n p q = absurd (omega arith)
enough (suc j) (suc k) n p q = go (dec_lt n 10) (λ h. enough j k (n / 10) (omega arith) (omega arith))
  where
    go : Dec (n < 10) → (10 ≤ n → digits_within j (n / 10) ≡ digits_within k (n / 10)) → digits_within (suc j) n ≡ digits_within (suc k) n
    go (yes h) ih = rw (digit_alone j n h, digit_alone k n h)
    go (no h) ih = rw (digit_last j n (omega arith), digit_last k n (omega arith), ih (omega arith))

pub decimal_alone : (n : ℕ) → n < 10 → decimal n ≡ (48 + n) ∷ []
decimal_alone n h = digit_alone n n h

pub decimal_last : (n : ℕ) → 10 ≤ n → decimal n ≡ decimal (n / 10) ++ (48 + n % 10) ∷ []
decimal_last n h = rw (digit_last n n h, enough n (suc (n / 10)) (n / 10) (omega arith) (omega arith))

-- ten to a power
tens : ℕ → ℕ
tens zero = 1
tens (suc k) = 10 * tens k

-- a number below such a power has no more digits
few : (k most n : ℕ) → n < tens (suc k) → length (digits_within most n) ≤ suc k
unfolding tens digits_within
few k zero n h = omega arith
few k (suc most) n h = go k h (dec_lt n 10) (λ j l. few j most (n / 10) l)
  where
    go : (k : ℕ) → n < tens (suc k) → Dec (n < 10) → ((j : ℕ) → n / 10 < tens (suc j) → length (digits_within most (n / 10)) ≤ suc j)
        → length (digits_within (suc most) n) ≤ suc k
    go k h (yes p) ih = rw (digit_alone most n p) (omega arith)
    go zero h (no p) ih = absurd (omega arith)
    go (suc k) h (no p) ih =
        rw (digit_last most n (omega arith)) (omega (arith, length-append (digits_within most (n / 10)) ((48 + n % 10) ∷ []), ih k (omega arith)))

-- a machine's number has nineteen digits at most before its last
pub decimal_few : (n : ℕ) → n ≤ largest → length (decimal (n / 10)) ≤ 19
unfolding tens
decimal_few n h = few 18 (suc (n / 10)) (n / 10) (omega arith)

-- a number below ten to the tenth has ten digits at most
pub decimal_ten : (n : ℕ) → n < 10000000000 → length (decimal n) ≤ 10
unfolding tens
decimal_ten n h = few 9 (suc n) n (omega arith)

-- The words of a record among others are those that were written.
use Prim.Native.Nat.{ℕ, zero, suc, ◌+◌, ◌*◌, ◌/◌, ◌%◌, ◌<◌}
use mathlib.Core.List.{List, [], ◌∷◌, ◌++◌, flat_map}
use mathlib.Core.Path.{◌≡◌, sym, ap, ◌∙◌}
use native.Mathlib.Omega.{arith}
use native.Mathlib.Nat.{mul-suc, mul-zero}
use lib.ListN.{length, drop, get_or, length-append}
use lib.Seq.{drop_at}
use Rattle.file.specs.Word.{word_at}
use Rattle.file.proofs.Words.{word_drop}
use Rattle.encoding.specs.Encode.{Record, word_bytes, record_bytes, records_bytes}
use Rattle.encoding.proofs.Lists.{All, flatMap-append}

-- a number below 2^32 from its four bytes
word_value : (n : ℕ) → n < 4294967296 → n % 256 + n / 256 % 256 * 256 + n / 65536 % 256 * 65536 + n / 16777216 % 256 * 16777216 ≡ n
word_value n h =
    let p : n / 65536 ≡ n / 256 / 256 = omega arith in
    let q : n / 16777216 ≡ n / 65536 / 256 = omega arith in
    let d : n / 16777216 % 256 ≡ n / 16777216 = omega arith in
    let e : n / 65536 ≡ n / 16777216 * 256 + n / 65536 % 256 = rw q (omega arith) in
    let f : n / 256 ≡ n / 65536 * 256 + n / 256 % 256 = rw p (omega arith) in
    let g : n ≡ n / 256 * 256 + n % 256 = omega arith in
    rw d (sums (n / 16777216) (n / 65536) (n / 256) n (n / 65536 % 256) (n / 256 % 256) (n % 256) e f g)
  where
    sums : (x y z w a b c : ℕ) → y ≡ x * 256 + a → z ≡ y * 256 + b → w ≡ z * 256 + c → c + b * 256 + a * 65536 + x * 16777216 ≡ w
    sums x y z w a b c e f g = omega arith

pub word_encoded : (n : ℕ) (s : List ℕ) → n < 4294967296 → word_at (word_bytes n ++ s) 0 ≡ n
unfolding word_at
word_encoded n s h = word_value n h

-- the six words of a record, by their places
module _ (a : ℕ) (s : List ℕ) where
  pub word_0 : (r : Record) → a < 4294967296 → word_at (record_bytes (a ∷ r) ++ s) 0 ≡ a
  unfolding flat_map word_at
  word_0 r h = word_value a h

  pub word_4 : (b : ℕ) (r : Record) → a < 4294967296 → word_at (record_bytes (b ∷ a ∷ r) ++ s) 4 ≡ a
  unfolding flat_map word_at
  word_4 b r h = word_value a h

  pub word_8 : (b c : ℕ) (r : Record) → a < 4294967296 → word_at (record_bytes (b ∷ c ∷ a ∷ r) ++ s) 8 ≡ a
  unfolding flat_map word_at
  word_8 b c r h = word_value a h

  pub word_12 : (b c d : ℕ) (r : Record) → a < 4294967296 → word_at (record_bytes (b ∷ c ∷ d ∷ a ∷ r) ++ s) 12 ≡ a
  unfolding flat_map word_at
  word_12 b c d r h = word_value a h

  pub word_16 : (b c d e : ℕ) (r : Record) → a < 4294967296 → word_at (record_bytes (b ∷ c ∷ d ∷ e ∷ a ∷ r) ++ s) 16 ≡ a
  unfolding flat_map word_at
  word_16 b c d e r h = word_value a h

  pub word_20 : (b c d e f : ℕ) (r : Record) → a < 4294967296 → word_at (record_bytes (b ∷ c ∷ d ∷ e ∷ f ∷ a ∷ r) ++ s) 20 ≡ a
  unfolding flat_map word_at
  word_20 b c d e f r h = word_value a h

-- ---- records of so many bytes

abbrev pub Sized : ℕ → Record → Type 0
Sized n r = length (record_bytes r) ≡ n

pub records_append : (x y : List Record) → records_bytes (x ++ y) ≡ records_bytes x ++ records_bytes y
records_append x y = flatMap-append record_bytes x y

pub records_length : (n : ℕ) (rs : List Record) → All (Sized n) rs → length (records_bytes rs) ≡ n * length rs
unfolding flat_map
records_length n [] h = sym (mul-zero n)
records_length n (r ∷ rs) h = rw (length-append (record_bytes r) (records_bytes rs), h.0, records_length n rs h.1, mul-suc n (length rs)) (omega arith)

word_past : (x s : List ℕ) (k n : ℕ) → length x ≡ n → word_at (x ++ s) (n + k) ≡ word_at s k
word_past x s k n h = sym (word_drop (x ++ s) n k) ∙ ap (λ z. word_at z k) (drop_at x s n h)

-- a word of record i
pub word_of : (n : ℕ) (rs : List Record) (i k : ℕ) → All (Sized n) rs → i < length rs
    → word_at (records_bytes rs) (n * i + k) ≡ word_at (record_bytes (get_or rs i []) ++ records_bytes (drop (suc i) rs)) k
unfolding flat_map
word_of n [] i k h l = let z : ⊥ = omega arith in absurd z
word_of n (r ∷ rs) zero k h l = let e : n * 0 + k ≡ k = omega arith in rw e
word_of n (r ∷ rs) (suc i) k h l =
    let e : n * suc i + k ≡ n + (n * i + k) = rw (mul-suc n i) (omega arith) in
    rw e (word_past (record_bytes r) (records_bytes rs) (n * i + k) n h.0 ∙ word_of n rs i k h.1 (omega arith))

-- Records of one size that are gone through from the front on: those before the i-th pass a test, and the others are left.
use Prim.Native.Nat.{ℕ, suc, ◌+◌, ◌*◌, ◌≤◌, ◌<◌}
use mathlib.Core.List.{List, ◌++◌}
use mathlib.Core.Bool.{Bool, true, false}
use mathlib.Core.Path.{◌≡◌, sym, ◌∙◌, ap}
use native.Mathlib.Omega.{arith}
use native.Mathlib.Decide.{dec_lt}
use native.Mathlib.Nat.{mul-zero, mul-le-mul_left, le_of_mul-le-mul_left}
use lib.ListN.{length, take, drop, length-drop, length-append}
use lib.Seq.{take_at, drop_at, drop-drop}
use Rattle.file.specs.Below.{every}
use Rattle.file.proofs.Below.{every_none, every_next, every_fails}

-- `size` is that of the iterator, and `rest` what it has left
pub record PassedTo (bytes : ℕ) (p : ℕ → Bool) (s rest : List ℕ) (size i : ℕ) : Type 0 where
  pub whole : size ≡ bytes
  pub inside : bytes * i ≤ length s
  pub passed : every i p ≡ true
  pub left : rest ≡ drop (bytes * i) s

-- none was gone through yet
pub passed_none : (bytes : ℕ) (p : ℕ → Bool) (s rest : List ℕ) (size : ℕ) → rest ≡ s → size ≡ bytes → PassedTo bytes p s rest size 0
passed_none bytes p s rest size e w = record { whole = w; inside = omega arith; passed = every_none p; left = e ∙ rw (mul-zero bytes) }

module _ {bytes : ℕ} {p : ℕ → Bool} {s rest : List ℕ} {size i : ℕ} (h : PassedTo bytes p s rest size i) where
  -- the i-th stands first in what is left
  module _ (fields after : List ℕ) (cut : rest ≡ fields ++ after) (whole : length fields ≡ size) where
    record_inside : 0 < bytes → bytes * i + bytes ≤ length s
    record_inside some =
        omega (arith, h.whole, whole, ap length cut ∙ length-append fields after, ap length h.left ∙ length-drop (bytes * i) s)

    pub record_here : fields ≡ take bytes (drop (bytes * i) s)
    record_here = sym (rw (← h.left, cut) (take_at fields after bytes (whole ∙ h.whole)))

    -- it passes
    pub passed_next : 0 < bytes → {t : Bool} → t ≡ p i → t ≡ true → {next : ℕ} → next ≡ size → PassedTo bytes p s after next (i + 1)
    passed_next some e q n =
        let past : bytes * (i + 1) ≡ bytes * i + bytes = omega arith in
        record {
          whole = n ∙ h.whole;
          inside = rw past (record_inside some);
          passed = every_next i p h.passed (sym e ∙ q);
          left = rw past (sym (rw (← drop-drop bytes (bytes * i) s, ← h.left, cut) (drop_at fields after bytes (whole ∙ h.whole))));
        }

    -- it does not
    pub passed_fails : 0 < bytes → {t : Bool} → t ≡ p i → t ≡ false → (count : ℕ) → length s ≡ bytes * count → false ≡ every count p
    passed_fails some e q count all =
        let most : bytes * suc i ≤ bytes * count = omega (arith, record_inside some) in
        sym (every_fails count p i (le_of_mul-le-mul_left most some) (sym e ∙ q))

  -- none is left
  pub passed_end : 0 < bytes → length rest < size → (count : ℕ) → length s ≡ bytes * count → true ≡ every count p
  passed_end some none count all = go (dec_lt i count)
    where
      go : Dec (i < count) → true ≡ every count p
      go (yes l) = absurd (omega (arith, h.whole, mul-le-mul_left bytes l, ap length h.left ∙ length-drop (bytes * i) s))
      go (no m) =
          let most : bytes * i ≤ bytes * count = omega (arith, h.inside) in
          let least : i ≤ count = le_of_mul-le-mul_left most some in
          let same : i ≡ count = omega arith in
          sym (rw same at h.passed)

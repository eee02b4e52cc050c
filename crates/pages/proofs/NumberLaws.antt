-- A number in its field, digit by digit from the last one on.
use Prim.Native.Nat.{ℕ, suc, ◌+◌, ◌-◌, ◌/◌, ◌%◌, ◌≤◌, ◌<◌}
use mathlib.Core.List.{List, [], ◌∷◌, ◌++◌, append_assoc, append-nil}
use mathlib.Core.Path.{◌≡◌, refl, sym, ap, ◌∙◌}
use native.Mathlib.Omega.{arith}
use lib.ListN.{length, set, replicate, length-append, length-replicate}
use lib.Seq.{take-append-le, drop_at, set_split}
use Rattle.buffers.specs.Decimal.{decimal}
use Rattle.buffers.proofs.DigitLaws.{decimal_alone, decimal_last, decimal_ten}
use Rattle.pages.specs.Page.{space, right, next_field}
use Rattle.pages.proofs.FieldLaws.{take_equal, next_number}

-- so far: the last digits stand at the right, those of the rest are still to be found, and the place for the next one is `i`
pub record Digits (n rest i : ℕ) (field : List ℕ) : Type 0 where
  last : List ℕ
  digits : decimal n ≡ decimal rest ++ last
  pub size : i + length last ≡ 10
  is : field ≡ replicate (suc i) space ++ last

pub none_found : (n : ℕ) → Digits n n 10 (replicate 11 space)
none_found n = record { last = []; digits = sym (append-nil (decimal n)); size = refl; is = refl }

-- a digit in the last place of those that are free
set_last : (i : ℕ) (last : List ℕ) (digit : ℕ) → set (replicate (suc i) space ++ last) i digit ≡ replicate i space ++ digit ∷ last
set_last i last digit =
    let spaces : List ℕ = replicate (suc i) space in
    let size = length-replicate (suc i) space in
    set_split (spaces ++ last) i digit (omega (arith, size, length-append spaces last))
    ∙ rw (
      take-append-le i spaces last (omega (arith, size)),
      take_equal i (suc i) space (omega arith),
      drop_at spaces last (suc i) size,
    )

module _ (n : ℕ) (small : n < 10000000000) (rest i : ℕ) (field : List ℕ) (h : Digits n rest i field) where
  -- there is a place for one more
  pub place_left : 10 ≤ rest → 1 ≤ i
  place_left many =
      omega (
        arith,
        h.size,
        decimal_ten n small,
        ap (λ (l : List ℕ). length l) h.digits,
        length-append (decimal rest) h.last,
        ap (λ (l : List ℕ). length l) (decimal_last rest many),
        length-append (decimal (rest / 10)) ((48 + rest % 10) ∷ []),
      )

  pub inside : i < length field
  inside = rw h.is (omega (arith, length-append (replicate (suc i) space) h.last, length-replicate (suc i) space))

  pub one_more : 10 ≤ rest → Digits n (rest / 10) (i - 1) (set field i (48 + rest % 10))
  one_more many =
      let some = place_left many in
      let digit : ℕ = 48 + rest % 10 in
      let places : suc (i - 1) ≡ i = omega (arith, some) in
      record {
        last = digit ∷ h.last;
        digits = h.digits ∙ ap (λ d. d ++ h.last) (decimal_last rest many) ∙ append_assoc (decimal (rest / 10)) (digit ∷ []) h.last;
        size = omega (arith, h.size, some);
        is = ap (λ f. set f i digit) h.is ∙ set_last i h.last digit ∙ ap (λ k. replicate k space ++ digit ∷ h.last) (sym places);
      }

  -- the first digit
  pub all_found_lem : rest < 10 → set field i (48 + rest) ≡ next_field (right 10 (decimal n))
  all_found_lem one =
      let digits : decimal n ≡ (48 + rest) ∷ h.last = h.digits ∙ ap (λ d. d ++ h.last) (decimal_alone rest one) in
      let number : length (decimal n) ≡ suc (length h.last) = ap (λ (l : List ℕ). length l) digits in
      let spaces : i ≡ 11 - length (decimal n) = omega (arith, h.size, number) in
      ap (λ f. set f i (48 + rest)) h.is ∙ set_last i h.last (48 + rest) ∙ ap (λ d. replicate i space ++ d) (sym digits)
      ∙ ap (λ k. replicate k space ++ decimal n) spaces ∙ next_number n small

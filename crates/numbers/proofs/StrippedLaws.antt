-- Numbers without needless zeros, told by their bytes: of one length by all of them, else by the zeros that the longer one has before the shorter.
use Prim.Native.Nat.{ℕ, zero, suc, ◌+◌, ◌-◌, ◌≤◌, ◌<◌}
use mathlib.Core.Bool.{Bool, true, false, cond, ◌&&◌}
use mathlib.Core.List.{List, [], ◌∷◌}
use mathlib.Core.Path.{◌≡◌, refl, sym, ap, ◌∙◌}
use native.Mathlib.Omega.{arith}
use lib.Dec.{eqb}
use native.Mathlib.Decide.{dec_lt}
use lib.ListN.{length, take, drop, get_or, length-drop}
use lib.Seq.{take_all, ext_get_or}
use borrow.Author.Tests.{eqb-true, eqb-false, eq-eqb, ne_eqb}
use Rattle.names.specs.Name.{same_bytes, every_byte}
use Rattle.names.proofs.Laws.{both_hold, same_longer, same_plain, same_sound, same_refl}
use Rattle.numbers.specs.Value.{stripped}
use Rattle.numbers.specs.Code.Zero.{zero_byte}

true_not_false : true ≡ false → ⊥
true_not_false e = let z : ◌≡◌ {A = ℕ} 0 1 = cc in omega arith

-- ---- how long a number is without needless zeros

-- not longer
stripped_shorter : (x : List ℕ) → length (stripped x) ≤ length x
stripped_shorter [] = omega arith
stripped_shorter (d ∷ []) = omega arith
stripped_shorter (d ∷ e ∷ ds) = go (zero_byte d) (stripped_shorter (e ∷ ds))
  where
    go : (b : Bool) → length (stripped (e ∷ ds)) ≤ length (e ∷ ds) → length (cond b (stripped (e ∷ ds)) (d ∷ e ∷ ds)) ≤ length (d ∷ e ∷ ds)
    go true h = omega arith
    go false h = omega arith

-- not empty
stripped_some : (x : List ℕ) → 1 ≤ length x → 1 ≤ length (stripped x)
stripped_some [] h = absurd (omega arith)
stripped_some (d ∷ []) h = omega arith
stripped_some (d ∷ e ∷ ds) h = go (zero_byte d) (stripped_some (e ∷ ds) (omega arith))
  where
    go : (b : Bool) → 1 ≤ length (stripped (e ∷ ds)) → 1 ≤ length (cond b (stripped (e ∷ ds)) (d ∷ e ∷ ds))
    go true h = h
    go false h = omega arith

-- not shorter than from its first digit on that is no zero, where there is one among the first `n`
digit_met : (n : ℕ) (x : List ℕ) → n ≤ length x → every_byte zero_byte (take n x) ≡ false → length x < length (stripped x) + n
unfolding every_byte
digit_met zero x l h = absurd (true_not_false h)
digit_met (suc n) [] l h = absurd (omega arith)
digit_met (suc n) (d ∷ []) l h = omega arith
digit_met (suc n) (d ∷ e ∷ ds) l h = go (zero_byte d) h (digit_met n (e ∷ ds) (omega arith))
  where
    go : (b : Bool) → (b && every_byte zero_byte (take n (e ∷ ds))) ≡ false
        → (every_byte zero_byte (take n (e ∷ ds)) ≡ false → length (e ∷ ds) < length (stripped (e ∷ ds)) + n)
        → length (d ∷ e ∷ ds) < length (cond b (stripped (e ∷ ds)) (d ∷ e ∷ ds)) + suc n
    go true q below = omega (arith, below q)
    go false q below = omega arith

-- the first `n` digits are zeros, and another digit follows them
zeros_passed : (n : ℕ) (x : List ℕ) → n < length x → every_byte zero_byte (take n x) ≡ true → stripped x ≡ stripped (drop n x)
unfolding every_byte
zeros_passed zero x l h = refl
zeros_passed (suc n) [] l h = absurd (omega arith)
zeros_passed (suc n) (d ∷ []) l h = absurd (omega arith)
zeros_passed (suc n) (d ∷ e ∷ ds) l h =
    let (first, after) = both_hold (zero_byte d) (every_byte zero_byte (take n (e ∷ ds))) h in
    rw first (zeros_passed n (e ∷ ds) (omega arith) after)

-- ---- the same without needless zeros

-- numbers that differ in length then
lengths_differ : (x y : List ℕ) → (length x ≡ length y → ⊥) → same_bytes x y ≡ false
lengths_differ x y h = sym (same_longer (λ c. c) x y h ∙ same_plain x y)

-- numbers of one length: as they are spelled
pub same_length : (x y : List ℕ) → length x ≡ length y → same_bytes (stripped x) (stripped y) ≡ same_bytes x y
unfolding same_bytes
same_length [] [] l = refl
same_length [] (e ∷ es) l = absurd (omega arith)
same_length (d ∷ ds) [] l = absurd (omega arith)
same_length (d ∷ []) (e ∷ []) l = refl
same_length (d ∷ []) (e ∷ f ∷ es) l = absurd (omega arith)
same_length (d ∷ f ∷ ds) (e ∷ []) l = absurd (omega arith)
same_length (d ∷ f ∷ ds) (e ∷ g ∷ es) l = go (zero_byte d) refl (zero_byte e) refl (same_length (f ∷ ds) (g ∷ es) (omega arith))
  where
    go : (b : Bool) → eqb d 48 ≡ b → (c : Bool) → eqb e 48 ≡ c → same_bytes (stripped (f ∷ ds)) (stripped (g ∷ es)) ≡ same_bytes (f ∷ ds) (g ∷ es)
        → same_bytes (cond b (stripped (f ∷ ds)) (d ∷ f ∷ ds)) (cond c (stripped (g ∷ es)) (e ∷ g ∷ es)) ≡ same_bytes (d ∷ f ∷ ds) (e ∷ g ∷ es)
    go true p true q below = rw (eq-eqb d e (eqb-true d 48 p ∙ sym (eqb-true e 48 q))) below
    go true p false q below =
        rw (ne_eqb d e (λ r. eqb-false e 48 q (sym r ∙ eqb-true d 48 p)))
        (lengths_differ (stripped (f ∷ ds)) (e ∷ g ∷ es) (λ r. omega (arith, stripped_shorter (f ∷ ds))))
    go false p true q below =
        rw (ne_eqb d e (λ r. eqb-false d 48 p (r ∙ eqb-true e 48 q)))
        (lengths_differ (d ∷ f ∷ ds) (stripped (g ∷ es)) (λ r. omega (arith, stripped_shorter (g ∷ es))))
    go false p false q below = refl

module _ (long short : List ℕ) (longer : length short < length long) where
  -- how many digits the longer number has before as many as the shorter one has
  abbrev more : ℕ
  more = length long - length short

  -- the shorter has none at all
  pub padded_none : length short ≡ 0 → false ≡ same_bytes (stripped long) (stripped short)
  padded_none e =
      sym (lengths_differ (stripped long) (stripped short) (λ q. omega (arith, q, stripped_some long (omega arith), stripped_shorter short)))

  -- not all of them are zeros
  pub padded_digit : {r : Bool} → r ≡ every_byte zero_byte (take more long) → r ≡ false → false ≡ same_bytes (stripped long) (stripped short)
  padded_digit e h =
      sym (lengths_differ (stripped long) (stripped short) (λ q.
      omega (arith, q, digit_met more long (omega arith) (sym e ∙ h), stripped_shorter short)))

  -- they are zeros
  pub padded_rest : {r t : Bool} → r ≡ every_byte zero_byte (take more long) → r ≡ true → (length short ≡ 0 → ⊥)
      → t ≡ same_bytes (drop more long) short → t ≡ same_bytes (stripped long) (stripped short)
  padded_rest e h some same =
      let left : length (drop more long) ≡ length long - more = length-drop more long in
      same
      ∙ (sym (same_length (drop more long) short (omega (arith, left)))
      ∙ ap (λ x. same_bytes x (stripped short)) (sym (zeros_passed more long (omega (arith, some)) (sym e ∙ h))))

  pub padded_zeros : {r t : Bool} → r ≡ every_byte zero_byte (take more long) → r ≡ true → (length short ≡ 0 → ⊥)
      → t ≡ same_bytes (take (length long - more) (drop more long)) short → t ≡ same_bytes (stripped long) (stripped short)
  padded_zeros e h some same =
      let left : length (drop more long) ≡ length long - more = length-drop more long in
      padded_rest e h some (same ∙ ap (λ x. same_bytes x short) (take_all (length long - more) (drop more long) (omega (arith, left))))

-- ---- digits from the last one on

-- the digits of two numbers agree from a place on
abbrev pub AgreeFrom : List ℕ → List ℕ → ℕ → Type 0
AgreeFrom a b n = (k : ℕ) → n ≤ k → k < length a → get_or a k 0 ≡ get_or b k 0

module _ (a b : List ℕ) where
  pub agree_end : AgreeFrom a b (length a)
  agree_end k l m = absurd (omega arith)

  pub agree_before : {n : ℕ} → AgreeFrom a b n → 0 < n → get_or a (n - 1) 0 ≡ get_or b (n - 1) 0 → AgreeFrom a b (n - 1)
  agree_before {n} h some e k l m = go (dec_lt k n)
    where
      go : Dec (k < n) → get_or a k 0 ≡ get_or b k 0
      go (yes p) = let here : k ≡ n - 1 = omega arith in rw here e
      go (no p) = h k (omega arith) m

  -- two digits differ
  pub digits_differ : (n : ℕ) → (get_or a n 0 ≡ get_or b n 0 → ⊥) → false ≡ same_bytes a b
  digits_differ n d = go (same_bytes a b) refl
    where
      go : (t : Bool) → same_bytes a b ≡ t → false ≡ t
      go false e = refl
      go true e = absurd (d (ap (λ x. get_or x n 0) (same_sound a b e)))

  -- all digits agree
  pub digits_agree : {n : ℕ} → length a ≡ length b → AgreeFrom a b n → n ≡ 0 → true ≡ same_bytes a b
  digits_agree l h none = sym (rw (ext_get_or 0 a b l (λ k m. h k (omega arith) m)) (same_refl b))

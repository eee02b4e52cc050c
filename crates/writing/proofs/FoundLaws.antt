-- Laws for the loops over kinds of tokens: those of a kind are counted, and the first of a kind is found.
use Prim.Native.Nat.{ℕ, ◌+◌, ◌≤◌, ◌<◌}
use mathlib.Core.List.{List}
use mathlib.Core.Bool.{true, false, cond}
use mathlib.Core.Path.{◌≡◌, sym, ◌∙◌}
use native.Mathlib.Omega.{arith}
use native.Mathlib.Numerals.{add-one}
use native.Mathlib.Nat.{add-zero}
use lib.ListN.{length, drop, get_or, drop_of_length-le}
use lib.Seq.{drop-cons}
use lib.Dec.{eqb}
use borrow.Author.Tests.{eq-eqb, ne_eqb}
use Rattle.tokens.specs.Lex.{leading}
use Rattle.tokens.proofs.AtomLaws.{leading_here, leading_past}
use Rattle.writing.specs.Code.Found.{not_kind, place_of, count_kinds}

-- n are counted before place i
pub record Counting (k stop : ℕ) (ks : List ℕ) (from i n : ℕ) : Type 0 where
  pub inside : i ≤ length ks
  pub few : n ≤ i
  pub left : count_kinds k stop (drop from ks) ≡ n + count_kinds k stop (drop i ks)

pub counting_start : (k stop : ℕ) (ks : List ℕ) (from : ℕ) → from ≤ length ks → Counting k stop ks from from 0
counting_start k stop ks from h = record { inside = h; few = omega arith; left = omega arith }

module _ {k stop : ℕ} {ks : List ℕ} {from i n : ℕ} (h : Counting k stop ks from i n) where
  pub counting_stop : i < length ks → get_or ks i 0 ≡ stop → n ≡ count_kinds k stop (drop from ks)
  unfolding count_kinds
  counting_stop l e =
      let none : count_kinds k stop (drop i ks) ≡ 0 = rw (drop-cons ks i 0 l, eq-eqb (get_or ks i 0) stop e) in
      omega (arith, h.left)

  pub counting_end : length ks ≤ i → n ≡ count_kinds k stop (drop from ks)
  unfolding count_kinds
  counting_end l =
      let none : count_kinds k stop (drop i ks) ≡ 0 = rw (drop_of_length-le ks {i = i} l) in
      omega (arith, h.left)

  counting_next : {t : ℕ} → i < length ks → (get_or ks i 0 ≡ stop → ⊥) → t ≡ cond (eqb (get_or ks i 0) k) 1 0 → t ≤ 1 → Counting k stop ks from (i + 1) (n + t)
  unfolding count_kinds
  counting_next {t = t} l e f g =
      let next : count_kinds k stop (drop i ks) ≡ t + count_kinds k stop (drop (i + 1) ks) = rw (drop-cons ks i 0 l, ne_eqb (get_or ks i 0) stop e, ← f, add-one i) in
      record { inside = omega arith; few = omega (arith, h.few); left = omega (arith, h.left) }

  pub counting_one : i < length ks → (get_or ks i 0 ≡ stop → ⊥) → eqb (get_or ks i 0) k ≡ true → Counting k stop ks from (i + 1) (n + 1)
  counting_one l e f = counting_next l e (rw f) (omega arith)

  pub counting_other : i < length ks → (get_or ks i 0 ≡ stop → ⊥) → eqb (get_or ks i 0) k ≡ false → Counting k stop ks from (i + 1) n
  counting_other l e f = rw (add-zero n) at (counting_next {t = 0} l e (rw f) (omega arith))

-- ---- the place of a kind

-- none stands before place i
abbrev pub Seeking : (k from i : ℕ) (ks : List ℕ) → Type 0
Seeking k from i ks = from + length (leading (not_kind k) (drop from ks)) ≡ i + length (leading (not_kind k) (drop i ks))

pub place_next : (k from i : ℕ) (ks : List ℕ) → Seeking k from i ks → i < length ks → (get_or ks i 0 ≡ k → ⊥) → Seeking k from (i + 1) ks
place_next k from i ks h l e = h ∙ rw (leading_here (not_kind k) ks i l, ne_eqb (get_or ks i 0) k e) (omega arith)

pub place_here : (k from i : ℕ) (ks : List ℕ) → Seeking k from i ks → i < length ks → get_or ks i 0 ≡ k → i ≡ place_of k from ks
place_here k from i ks h l e = sym (h ∙ rw (leading_here (not_kind k) ks i l, eq-eqb (get_or ks i 0) k e) (omega arith))

pub place_none : (k from i : ℕ) (ks : List ℕ) → Seeking k from i ks → length ks ≤ i → i ≡ place_of k from ks
place_none k from i ks h l = omega (arith, h, leading_past (not_kind k) ks i l)

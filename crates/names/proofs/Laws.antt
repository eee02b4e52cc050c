-- Laws of the definitions in `specs/Name.antt`.
-- First what the functions use, over any fold `f` of bytes or any test `p` of a byte. Then what the layers above use: equality and order of lists
-- of bytes.
use Prim.Native.Nat.{ℕ, min, ◌-◌, zero, suc, ◌+◌, ◌<◌, ◌≤◌}
use mathlib.Core.List.{List, [], ◌∷◌, map}
use mathlib.Core.Bool.{Bool, true, false, cond, ◌&&◌, ◌||◌}
use mathlib.Core.Logic.{◌⊎◌, inl, inr}
use mathlib.Core.Path.{◌≡◌, refl, ap, sym, ◌∙◌}
use native.Mathlib.Numerals.{add-one}
use native.Mathlib.Omega.{arith}
use lib.ListN.{length, take, drop, get_or, length-drop}
use lib.Seq.{drop-cons}
use lib.Dec.{eqb, leb}
use borrow.Author.Tests.{eqb-true, eqb-false, leb-true, leb-false, eq-eqb, ne_eqb, le-leb, lt-leb}
use Rattle.std.proofs.lemmas.Bool.Decides.{nat_tests}
use Rattle.std.specs.List.{list_all, zip}
use Rattle.std.specs.Ordering.{nat_cmp, ordering_reverse, is_ne}
use Rattle.names.specs.Name.{between, same_bytes, order_bytes, every_byte}
use Rattle.std.specs.declared.cmp.Ordering.{Ordering}
use Rattle.std.specs.declared.cmp.Ordering.TheVariants.{Less, Equal, Greater}

-- ---- one byte

-- two tests both hold
pub both_hold : (a b : Bool) → (a && b) ≡ true → (a ≡ true) × (b ≡ true)
both_hold true b h = (refl, h)
both_hold false b h = let z : ◌≡◌ {A = ℕ} 0 1 = cc in absurd (omega arith)

-- a byte of a range is not below its start
pub between_low : (low high c : ℕ) → between low high c ≡ true → low ≤ c
between_low low high c h = leb-true low c (both_hold (leb low c) (leb c high) h).0

-- ---- comparison, folded by any `f`

-- lists of different length are not the same
pub same_longer : (f : ℕ → ℕ) (a b : List ℕ) → (length a ≡ length b → ⊥) → false ≡ same_bytes (map f a) (map f b)
unfolding same_bytes
same_longer f [] [] h = absurd (h refl)
same_longer f [] (y ∷ ys) h = refl
same_longer f (x ∷ xs) [] h = refl
same_longer f (x ∷ xs) (y ∷ ys) h = rw (← same_longer f xs ys (λ e. h (ap suc e))) (either (eqb (f x) (f y)))
  where
    either : (t : Bool) → false ≡ (t && false)
    either true = refl
    either false = refl

-- the fold that changes nothing
map_same : (x : List ℕ) → map (λ c. c) x ≡ x
map_same [] = refl
map_same (x ∷ xs) = rw (map_same xs)

-- bytes that are not folded
pub same_plain : (a b : List ℕ) → same_bytes (map (λ c. c) a) (map (λ c. c) b) ≡ same_bytes a b
same_plain a b = rw (map_same a, map_same b)

-- ---- the loop that orders, folded by any `f`

-- two bytes that are not ordered are equal
pub cmp_equal : (x y : ℕ) → is_ne (nat_cmp x y) ≡ false → x ≡ y
cmp_equal x y e = grind (arith, nat_tests)

-- the order of two others is that of lists that begin with them
cmp_differs : (x y : ℕ) (after : Ordering) → is_ne (nat_cmp x y) ≡ true → nat_cmp x y ≡ cond (eqb x y) after (cond (leb x y) Less Greater)
cmp_differs x y after e = grind (arith, nat_tests)

-- what is left after `i` bytes
left_over : (i : ℕ) (s t : List ℕ) → drop i s ≡ t → length s - i ≡ length t
left_over i s t e = sym (length-drop i s) ∙ ap length e

-- the order of two lengths, by what is left of each after `i` bytes
ends_equal : (m n i : ℕ) → i ≡ min m n → m - i ≡ 0 → n - i ≡ 0 → nat_cmp m n ≡ Equal
ends_equal m n i e p q = grind (arith, nat_tests)

ends_less : (m n i k : ℕ) → m - i ≡ 0 → n - i ≡ suc k → nat_cmp m n ≡ Less
ends_less m n i k p q = grind (arith, nat_tests)

ends_greater : (m n i k : ℕ) → m - i ≡ suc k → n - i ≡ 0 → nat_cmp m n ≡ Greater
ends_greater m n i k p q = grind (arith, nat_tests)

-- `i` bytes are compared, and what is left decides
pub record OrderFrom (f : ℕ → ℕ) (a b : List ℕ) (i : ℕ) : Type 0 where
  pub left : order_bytes (map f a) (map f b) ≡ order_bytes (map f (drop i a)) (map f (drop i b))

-- no byte is compared yet
pub order_start : (f : ℕ → ℕ) (a b : List ℕ) → OrderFrom f a b 0
order_start f a b = record { left = refl }

module _ {f : ℕ → ℕ} {a b : List ℕ} {i : ℕ} (h : OrderFrom f a b i) where
  -- the bytes at `i` agree when folded
  pub order_next : (x y : ℕ) → i < length a → i < length b → x ≡ get_or a i 0 → y ≡ get_or b i 0 → f x ≡ f y → OrderFrom f a b (i + 1)
  unfolding order_bytes
  order_next x y l lb ex ey e =
      record { left = h.left ∙ rw (drop-cons a i 0 l, drop-cons b i 0 lb, add-one, ← ex, ← ey, eq-eqb (f x) (f y) e) }

  -- they differ when folded, and decide: `r` is their order
  pub order_differs : (x y : ℕ) (r : Ordering) → i < length a → i < length b → x ≡ get_or a i 0 → y ≡ get_or b i 0 → r ≡ nat_cmp (f x) (f y) → is_ne r ≡ true
      → r ≡ order_bytes (map f a) (map f b)
  unfolding order_bytes
  order_differs x y r l lb ex ey e n = e ∙ rw (h.left, drop-cons a i 0 l, drop-cons b i 0 lb, ← ex, ← ey) (cmp_differs (f x) (f y) _ (rw e at n))

  -- one of them has no byte left
  pub order_end : i ≡ min (length a) (length b) → nat_cmp (length a) (length b) ≡ order_bytes (map f a) (map f b)
  unfolding order_bytes
  order_end e = go (drop i a) refl (drop i b) refl
    where
      go : (x : List ℕ) → drop i a ≡ x → (y : List ℕ) → drop i b ≡ y → nat_cmp (length a) (length b) ≡ order_bytes (map f a) (map f b)
      go [] p [] q = rw (h.left, p, q) (ends_equal _ _ i e (left_over i a [] p) (left_over i b [] q))
      go [] p (y ∷ ys) q = rw (h.left, p, q) (ends_less _ _ i (length ys) (left_over i a [] p) (left_over i b (y ∷ ys) q))
      go (x ∷ xs) p [] q = rw (h.left, p, q) (ends_greater _ _ i (length xs) (left_over i a (x ∷ xs) p) (left_over i b [] q))
      go (x ∷ xs) p (y ∷ ys) q = absurd (omega (arith, left_over i a (x ∷ xs) p, left_over i b (y ∷ ys) q))

-- ---- tests of each byte, by any `p`

-- a part of bytes that pass
every_drop : (p : ℕ → Bool) (n : ℕ) (s : List ℕ) → every_byte p s ≡ true → every_byte p (drop n s) ≡ true
unfolding every_byte
every_drop p zero s h = h
every_drop p (suc n) [] h = refl
every_drop p (suc n) (x ∷ xs) h = every_drop p n xs (both_hold (p x) (every_byte p xs) h).1

every_take : (p : ℕ → Bool) (n : ℕ) (s : List ℕ) → every_byte p s ≡ true → every_byte p (take n s) ≡ true
unfolding every_byte
every_take p zero s h = refl
every_take p (suc n) [] h = refl
every_take p (suc n) (x ∷ xs) h = let (first, after) = both_hold (p x) (every_byte p xs) h in rw (first, every_take p n xs after)

pub every_part : (p : ℕ → Bool) (start len : ℕ) (s : List ℕ) → every_byte p s ≡ true → every_byte p (take len (drop start s)) ≡ true
every_part p start len s h = every_take p len (drop start s) (every_drop p start s h)

-- ---- what a chain of iterators answers

-- `all` over the bytes
pub all_every : (p : ℕ → Bool) (s : List ℕ) → list_all p s ≡ every_byte p s
unfolding every_byte
all_every p [] = refl
all_every p (x ∷ xs) = rw (all_every p xs)

-- `all` over the pairs of two lists of one length: `t` says whether the bytes of a pair are the same when folded
pub all_same : (f : ℕ → ℕ) (t : ℕ × ℕ → Bool) → ((x y : ℕ) → t (x, y) ≡ eqb (f x) (f y)) → (a b : List ℕ) → length a ≡ length b
    → list_all t (zip a b) ≡ same_bytes (map f a) (map f b)
unfolding same_bytes
all_same f t h [] [] e = refl
all_same f t h [] (y ∷ ys) e = absurd (omega arith)
all_same f t h (x ∷ xs) [] e = absurd (omega arith)
all_same f t h (x ∷ xs) (y ∷ ys) e = rw (h x y, all_same f t h xs ys (omega arith))

-- bytes that are the same, or are when folded
pub same_or_folded : (f : ℕ → ℕ) (x y : ℕ) → eqb x y || eqb (f x) (f y) ≡ eqb (f x) (f y)
same_or_folded f x y = go (eqb x y) refl
  where
    go : (t : Bool) → eqb x y ≡ t → t || eqb (f x) (f y) ≡ eqb (f x) (f y)
    go true e = sym (eq-eqb (f x) (f y) (ap f (eqb-true x y e)))
    go false e = refl

-- ---- equality of lists of bytes, for the layers above

-- what is the same is equal
pub same_sound : (x y : List ℕ) → same_bytes x y ≡ true → x ≡ y
unfolding same_bytes
same_sound [] [] h = refl
same_sound [] (y ∷ ys) h = let z : ◌≡◌ {A = ℕ} 0 1 = cc in absurd (omega arith)
same_sound (x ∷ xs) [] h = let z : ◌≡◌ {A = ℕ} 0 1 = cc in absurd (omega arith)
same_sound (x ∷ xs) (y ∷ ys) h = go (eqb x y) refl h (same_sound xs ys)
  where
    go : (t : Bool) → eqb x y ≡ t → (t && same_bytes xs ys) ≡ true → (same_bytes xs ys ≡ true → xs ≡ ys) → ◌≡◌ {A = List ℕ} (x ∷ xs) (y ∷ ys)
    go true e q ih = cc (ih q, eqb-true x y e)
    go false e q ih = let z : ◌≡◌ {A = ℕ} 0 1 = cc in absurd (omega arith)

-- a list is the same as itself
pub same_refl : (x : List ℕ) → same_bytes x x ≡ true
unfolding same_bytes
same_refl [] = refl
same_refl (x ∷ xs) = rw (eq-eqb x x refl, same_refl xs)

-- either way round
pub same_flip : (x y : List ℕ) → same_bytes x y ≡ same_bytes y x
same_flip x y = go (same_bytes x y) refl (same_bytes y x) refl
  where
    go : (b : Bool) → same_bytes x y ≡ b → (c : Bool) → same_bytes y x ≡ c → b ≡ c
    go true p c q = sym (rw (same_sound x y p) (same_refl y)) ∙ q
    go false p true q = sym p ∙ rw (same_sound y x q) (same_refl x)
    go false p false q = refl

-- ---- the order of lists of bytes, for the layers above

-- a list stands equal to itself
pub order_refl : (x : List ℕ) → order_bytes x x ≡ Equal
unfolding order_bytes
order_refl [] = refl
order_refl (x ∷ xs) = rw (eq-eqb x x refl, order_refl xs)

-- the second stands to the first the other way round
pub order_flip : (x y : List ℕ) → order_bytes y x ≡ ordering_reverse (order_bytes x y)
unfolding order_bytes
order_flip [] [] = refl
order_flip [] (y ∷ ys) = refl
order_flip (x ∷ xs) [] = refl
order_flip (x ∷ xs) (y ∷ ys) = go (eqb x y) refl (leb x y) refl (order_flip xs ys)
  where
    go : (t : Bool) → eqb x y ≡ t → (u : Bool) → leb x y ≡ u → order_bytes ys xs ≡ ordering_reverse (order_bytes xs ys)
        → order_bytes (y ∷ ys) (x ∷ xs) ≡ ordering_reverse (order_bytes (x ∷ xs) (y ∷ ys))
    go true e u d ih = rw (e, eq-eqb y x (sym (eqb-true x y e))) ih
    go false e true d ih = rw (e, d, ne_eqb y x (λ q. eqb-false x y e (sym q)), lt-leb y x (less e d))
      where
        less : eqb x y ≡ false → leb x y ≡ true → x < y
        less p q = omega (arith, eqb-false x y p, leb-true x y q)
    go false e false d ih = rw (e, d, ne_eqb y x (λ q. eqb-false x y e (sym q)), le-leb y x (omega (arith, leb-false x y d)))

-- what stands equal is equal
pub order_equal : (x y : List ℕ) → order_bytes x y ≡ Equal → x ≡ y
unfolding order_bytes
order_equal [] [] h = refl
order_equal [] (y ∷ ys) h = let z : ◌≡◌ {A = ℕ} 0 1 = cc in absurd (omega arith)
order_equal (x ∷ xs) [] h = let z : ◌≡◌ {A = ℕ} 0 1 = cc in absurd (omega arith)
order_equal (x ∷ xs) (y ∷ ys) h = go (eqb x y) refl (leb x y) h (order_equal xs ys)
  where
    go : (t : Bool) → eqb x y ≡ t → (u : Bool) → cond t (order_bytes xs ys) (cond u Less Greater) ≡ Equal → (order_bytes xs ys ≡ Equal → xs ≡ ys)
        → ◌≡◌ {A = List ℕ} (x ∷ xs) (y ∷ ys)
    go true e u q ih = cc (ih q, eqb-true x y e)
    go false e true q ih = let z : ◌≡◌ {A = ℕ} 0 1 = cc in absurd (omega arith)
    go false e false q ih = let z : ◌≡◌ {A = ℕ} 0 1 = cc in absurd (omega arith)

-- what stands less one way stands greater the other way
pub less_greater : (x y : List ℕ) → order_bytes x y ≡ Less → order_bytes y x ≡ Greater
less_greater x y h = order_flip x y ∙ ap ordering_reverse h

-- and back
pub greater_less : (x y : List ℕ) → order_bytes x y ≡ Greater → order_bytes y x ≡ Less
greater_less x y h = order_flip x y ∙ ap ordering_reverse h

-- a list is less by its first byte, or by what follows an equal one
less_cases : (x y : ℕ) (xs ys : List ℕ) → order_bytes (x ∷ xs) (y ∷ ys) ≡ Less → (x < y) ⊎ ((x ≡ y) × (order_bytes xs ys ≡ Less))
unfolding order_bytes
less_cases x y xs ys h = go (eqb x y) refl (leb x y) refl h
  where
    go : (t : Bool) → eqb x y ≡ t → (u : Bool) → leb x y ≡ u → cond t (order_bytes xs ys) (cond u Less Greater) ≡ Less
        → (x < y) ⊎ ((x ≡ y) × (order_bytes xs ys ≡ Less))
    go true e u d q = inr (eqb-true x y e, q)
    go false e true d q = inl (omega (arith, eqb-false x y e, leb-true x y d))
    go false e false d q = let z : ◌≡◌ {A = ℕ} 0 1 = cc in absurd (omega arith)

-- a first byte that is less decides
less_first : (x y : ℕ) (xs ys : List ℕ) → x < y → order_bytes (x ∷ xs) (y ∷ ys) ≡ Less
unfolding order_bytes
less_first x y xs ys h = rw (ne_eqb x y (λ e. omega arith), le-leb x y (omega arith))

-- after an equal first byte the rest decides
less_rest : (x y : ℕ) (xs ys : List ℕ) → x ≡ y → order_bytes xs ys ≡ Less → order_bytes (x ∷ xs) (y ∷ ys) ≡ Less
unfolding order_bytes
less_rest x y xs ys e h = rw (eq-eqb x y e, h)

-- less is transitive
pub less_trans : (x y z : List ℕ) → order_bytes x y ≡ Less → order_bytes y z ≡ Less → order_bytes x z ≡ Less
unfolding order_bytes
less_trans [] [] z h k = k
less_trans [] (y ∷ ys) [] h k = let n : ◌≡◌ {A = ℕ} 0 1 = cc in absurd (omega arith)
less_trans [] (y ∷ ys) (z ∷ zs) h k = refl
less_trans (x ∷ xs) [] z h k = let n : ◌≡◌ {A = ℕ} 0 1 = cc in absurd (omega arith)
less_trans (x ∷ xs) (y ∷ ys) [] h k = let n : ◌≡◌ {A = ℕ} 0 1 = cc in absurd (omega arith)
less_trans (x ∷ xs) (y ∷ ys) (z ∷ zs) h k = go (less_cases x y xs ys h) (less_cases y z ys zs k) (less_trans xs ys zs)
  where
    go : (x < y) ⊎ ((x ≡ y) × (order_bytes xs ys ≡ Less)) → (y < z) ⊎ ((y ≡ z) × (order_bytes ys zs ≡ Less))
        → (order_bytes xs ys ≡ Less → order_bytes ys zs ≡ Less → order_bytes xs zs ≡ Less) → order_bytes (x ∷ xs) (z ∷ zs) ≡ Less
    go (inl a) (inl b) ih = less_first x z xs zs (omega arith)
    go (inl a) (inr b) ih = less_first x z xs zs (omega (arith, b.0))
    go (inr a) (inl b) ih = less_first x z xs zs (omega (arith, a.0))
    go (inr a) (inr b) ih = less_rest x z xs zs (a.0 ∙ b.0) (ih a.1 b.1)

-- Laws of `every` and `total` (specs/Below.antt), in the form that loops which count up use.
use Prim.Native.Nat.{ℕ, zero, suc, ◌+◌, ◌*◌, ◌≤◌, ◌<◌}
use mathlib.Core.Bool.{Bool, true, false, ◌&&◌, and-true}
use mathlib.Core.Path.{◌≡◌, refl, sym, ap, ◌∙◌}
use native.Mathlib.Numerals.{add-one}
use native.Mathlib.Omega.{arith}
use native.Mathlib.Decide.{dec_lt}
use native.Mathlib.Nat.{suc-mul, add-zero, add-suc}
use denote.Param.Members.{Mut}
use mathlib.Core.List.{List}
use Rattle.std.specs.Fn.{Called}
use Rattle.std.specs.Iterator.{YieldsThen}
use Rattle.std.specs.List.{FoldsTo, list_all, range_with_len}
use Rattle.std.specs.Option.{MatchOption}
use Rattle.std.specs.declared.option.Option.{Option}
use Rattle.std.specs.declared.ops.Range.{Range}
use Rattle.std.proofs.iter.Yields.{nat_range_steps}
use Rattle.std.proofs.lemmas.Iterator.{YieldsList-from_range}
use Rattle.std.proofs.lemmas.Iterator.Search.{all_from_yields_List}
use Rattle.file.specs.Below.{every, total}

-- two tests that both hold
pub both : (a b : Bool) → a ≡ true → b ≡ true → a && b ≡ true
both a b p q = rw (p, q)

-- the first of two tests that both hold
pub both_first : (a b : Bool) → a && b ≡ true → a ≡ true
both_first true b h = refl
both_first false b h = h

-- the second of two tests that both hold
pub both_second : (a b : Bool) → a && b ≡ true → b ≡ true
both_second true b h = h
both_second false b h = let z : true ≡ false = cc in cc

-- a conjunction whose first test fails
pub first_fails_lem : (a b : Bool) → a ≡ false → a && b ≡ false
first_fails_lem a b p = rw p

-- a conjunction whose second test fails
pub second_fails_lem : (a b : Bool) → b ≡ false → a && b ≡ false
second_fails_lem true b p = p
second_fails_lem false b p = refl

-- none is looked at
pub every_none : (p : ℕ → Bool) → every 0 p ≡ true
unfolding every
every_none p = refl

-- one more that holds
pub every_next : (n : ℕ) (p : ℕ → Bool) → every n p ≡ true → p n ≡ true → every (n + 1) p ≡ true
unfolding every
every_next n p h q = rw (add-one n) (both _ _ h q)

-- a number below n at which the test holds, where it holds of every number below n
pub every_at : (n : ℕ) (p : ℕ → Bool) (i : ℕ) → every n p ≡ true → i < n → p i ≡ true
unfolding every
every_at zero p i h l = absurd (omega arith)
every_at (suc n) p i h l = go (dec_lt i n) (every_at n p i (both_first _ _ h))
  where
    go : Dec (i < n) → (i < n → p i ≡ true) → p i ≡ true
    go (yes m) below = below m
    go (no m) below =
        let e : i ≡ n = omega arith in
        rw e (both_second (every n p) (p n) h)

-- one that fails makes all fail
pub every_fails : (n : ℕ) (p : ℕ → Bool) (i : ℕ) → i < n → p i ≡ false → every n p ≡ false
unfolding every
every_fails zero p i l q = absurd (omega arith)
every_fails (suc n) p i l q = go (dec_lt i n) (λ m. every_fails n p i m q)
  where
    go : Dec (i < n) → (i < n → every n p ≡ false) → every n p && p n ≡ false
    go (yes m) below = first_fails_lem _ _ (below m)
    go (no m) below =
        let e : i ≡ n = omega arith in
        second_fails_lem (every n p) (p n) (rw e at q)

-- tests that agree below n
pub every_same : (n : ℕ) (p q : ℕ → Bool) → ((i : ℕ) → i < n → p i ≡ q i) → every n p ≡ every n q
unfolding every
every_same zero p q h = refl
every_same (suc n) p q h = rw (every_same n p q (λ i l. h i (omega arith)), h n (omega arith))

-- all below one more: the first, and those after it
both_again : (a b c : Bool) → (a && b) && c ≡ a && (b && c)
both_again true b c = refl
both_again false b c = refl

every_front : (n : ℕ) (p : ℕ → Bool) → every (suc n) p ≡ p 0 && every n (λ i. p (suc i))
unfolding every
every_front zero p = sym (and-true (p 0))
every_front (suc n) p = rw (every_front n p) (both_again (p 0) (every n (λ i. p (suc i))) (p (suc n)))

every_in : (from n : ℕ) (p : ℕ → Bool) → list_all p (range_with_len from n) ≡ every n (λ i. p (from + i))
unfolding every
every_in from zero p = refl
every_in from (suc n) p =
    let after : every n (λ i. p (from + 1 + i)) ≡ every n (λ i. p (from + suc i)) = every_same n _ _ (λ i l. ap p (omega arith)) in
    rw (every_in (from + 1) n p, after, every_front n (λ i. p (from + i)), add-zero from) refl

-- what `all` answers over a range of numbers, by a test that the closure computes
module _ {F : Type 0} {g : Mut F (ℕ × Unit {0}) Bool} {f : F} {after : Range ℕ} (test : ℕ → Bool) (r : Bool) where
  pub all_in : (from n end : ℕ) → end ≡ from + n
      → (xs : List ℕ) × (o : Option ℕ) × (j : F) × YieldsThen nat_range_steps (record { start = from; end = end }) xs o after
      × FoldsTo (λ p x q. Called g p (x, tt) true q) f xs j × MatchOption o (r ≡ true) (λ x. (r ≡ false) × ((h : F) × Called g j (x, tt) false h))
      → ((x : ℕ) (b : Bool) (q : F) → Called g f (x, tt) b q → (q ≡ f) × (b ≡ test x))
      → r ≡ every n (λ i. test (from + i))
  all_in from n end e ran tests = all_from_yields_List test after f r ran (YieldsList-from_range from end n refl (omega arith)) tests ∙ every_in from n test

  pub all_below : (n : ℕ)
      → (xs : List ℕ) × (o : Option ℕ) × (j : F) × YieldsThen nat_range_steps (record { start = 0; end = n }) xs o after
      × FoldsTo (λ p x q. Called g p (x, tt) true q) f xs j × MatchOption o (r ≡ true) (λ x. (r ≡ false) × ((h : F) × Called g j (x, tt) false h))
      → ((x : ℕ) (b : Bool) (q : F) → Called g f (x, tt) b q → (q ≡ f) × (b ≡ test x))
      → r ≡ every n test
  all_below n ran tests = all_in 0 n n (omega arith) ran tests ∙ every_same n _ _ (λ i l. ap test (omega arith))

-- nothing is added
pub total_none : (f : ℕ → ℕ) → total 0 f ≡ 0
unfolding total
total_none f = refl

-- one more is added
pub total_next : (n : ℕ) (f : ℕ → ℕ) → total (n + 1) f ≡ total n f + f n
unfolding total
total_next n f = rw (add-one n)

-- functions that agree below n
pub total_same : (n : ℕ) (f g : ℕ → ℕ) → ((i : ℕ) → i < n → f i ≡ g i) → total n f ≡ total n g
unfolding total
total_same zero f g h = refl
total_same (suc n) f g h = rw (total_same n f g (λ i l. h i (omega arith)), h n (omega arith))

-- the sum over the numbers below m, and the sum over the n numbers after them
pub total_split : (m n : ℕ) (f : ℕ → ℕ) → total (m + n) f ≡ total m f + total n (λ i. f (m + i))
unfolding total
total_split m zero f = rw (add-zero m) (omega arith)
total_split m (suc n) f = rw (add-suc m n) (omega (arith, total_split m n f))

-- a longer sum is at least as large
pub total_mono : (m n : ℕ) (f : ℕ → ℕ) → m ≤ n → total m f ≤ total n f
unfolding total
total_mono m zero f h =
    let e : m ≡ 0 = omega arith in
    rw e (omega arith)
total_mono m (suc n) f h = go (dec_lt m (suc n)) (total_mono m n f)
  where
    go : Dec (m < suc n) → (m ≤ n → total m f ≤ total n f) → total m f ≤ total (suc n) f
    go (yes l) below = omega (arith, below (omega arith))
    go (no l) below =
        let e : m ≡ suc n = omega arith in
        rw e (omega arith)

-- the sum up to i, and what i adds, are part of the sum
pub total_at : (n : ℕ) (f : ℕ → ℕ) (i : ℕ) → i < n → total i f + f i ≤ total n f
total_at n f i l = omega (arith, total_next i f, total_mono (i + 1) n f (omega arith))

-- n numbers of at most b each
pub total_bound : (n : ℕ) (f : ℕ → ℕ) (b : ℕ) → ((i : ℕ) → i < n → f i ≤ b) → total n f ≤ n * b
unfolding total
total_bound zero f b h = omega arith
total_bound (suc n) f b h = omega (arith, suc-mul n b, total_bound n f b (λ i l. h i (omega arith)), h n (omega arith))

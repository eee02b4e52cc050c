-- The greedy way is the loose test.
use Prim.Native.Nat.{ℕ, suc, ◌≤◌, ◌<◌}
use mathlib.Core.Bool.{Bool, true, false, cond, ◌&&◌, ◌||◌}
use native.Mathlib.Omega.{arith}
use mathlib.Core.Logic.{inl, inr}
use mathlib.Core.Option.{Option, none, some, none-ne-some}
use mathlib.Core.Path.{◌≡◌, refl, sym, ap, ◌∙◌}
use Rattle.names.proofs.Laws.{both_hold}
use Rattle.law.specs.Tree.{Kind, symbol_kind, term_kind, expression_kind}
use Rattle.law.specs.Expression.{Terms, nothing, symbol, brackets}
use Rattle.law.specs.Symbol.{Symbol}
use Rattle.matching.specs.Pattern.{Atom, literal, variable, other, Pattern}
use Rattle.matching.proofs.SameLaws.{false_not_true}
use Rattle.sentences.specs.Code.Loose.{some_end, some_rest, loosely}
use Rattle.sentences.specs.Code.Greedy.{EndOf, open_kind, open_atom, next, or_else, kind_fits, atom_fits, bracket_fits, front_of, leftmost_of, left_passes, opens}
use Rattle.matching.specs.Order.{terms_in}

or-true : (b : Bool) → (b || true) ≡ true
or-true true = refl
or-true false = refl

or_keeps : (b c : Bool) → (c ≡ true → b ≡ true) → (b || c) ≡ b
or_keeps true c h = refl
or_keeps false false h = refl
or_keeps false true h = sym (h refl)

both_ways : (a b : Bool) → (a ≡ true → b ≡ true) → (b ≡ true → a ≡ true) → a ≡ b
both_ways true b h k = sym (h refl)
both_ways false true h k = k refl
both_ways false false h k = refl

-- ---- ends of rows

module _ {A : Type 0} where
  abbrev pub tail_of : Terms A → Option (Terms A)
  tail_of nothing = none
  tail_of (symbol a x) = some x
  tail_of (brackets c x) = some x

  some_same : (x y : Terms A) → some x ≡ some y → x ≡ y
  some_same x y e = cc

  pub whole_end : (x : Terms A) → EndOf x x
  whole_end nothing = refl
  whole_end (symbol a x) = inl refl
  whole_end (brackets c x) = inl refl

  -- without its first term an end is still one
  end_shorter : (x y z : Terms A) → tail_of y ≡ some z → EndOf y x → EndOf z x
  end_shorter nothing y z e h = absurd (none-ne-some z (rw h at e))
  end_shorter (symbol a x) y z e (inl h) = inr (rw (some_same x z (rw h at e)) (whole_end z))
  end_shorter (symbol a x) y z e (inr h) = inr (end_shorter x y z e h)
  end_shorter (brackets c x) y z e (inl h) = inr (rw (some_same x z (rw h at e)) (whole_end z))
  end_shorter (brackets c x) y z e (inr h) = inr (end_shorter x y z e h)

  -- the tails of a row and of its end
  end_tails : (x y x' y' : Terms A) → tail_of x ≡ some x' → tail_of y ≡ some y' → EndOf y x → EndOf y' x'
  end_tails nothing y x' y' e k h = absurd (none-ne-some x' e)
  end_tails (symbol a x) y x' y' e k (inl h) = rw (sym (some_same x x' e) ∙ some_same x y' (rw h at k)) (whole_end y')
  end_tails (symbol a x) y x' y' e k (inr h) = rw (some_same x x' e) at (end_shorter x y y' k h)
  end_tails (brackets c x) y x' y' e k (inl h) = rw (sym (some_same x x' e) ∙ some_same x y' (rw h at k)) (whole_end y')
  end_tails (brackets c x) y x' y' e k (inr h) = rw (some_same x x' e) at (end_shorter x y y' k h)

  -- a test that holds of some end, and the other way
  some_end_lem : (f : Terms A → Bool) (x : Terms A) → some_end f x ≡ true → (y : Terms A) × EndOf y x × (f y ≡ true)
  some_end_lem f nothing h = (nothing, refl, h)
  some_end_lem f (symbol a x) h = go (f (symbol a x)) refl (λ k. some_end_lem f x k)
    where
      go : (b : Bool) → f (symbol a x) ≡ b → (some_end f x ≡ true → (y : Terms A) × EndOf y x × (f y ≡ true)) → (y : Terms A) × EndOf y (symbol a x) × (f y ≡ true)
      go true e below = (symbol a x, inl refl, e)
      go false e below = let (y, i, t) = below (rw e at h) in (y, inr i, t)
  some_end_lem f (brackets c x) h = go (f (brackets c x)) refl (λ k. some_end_lem f x k)
    where
      go : (b : Bool) → f (brackets c x) ≡ b → (some_end f x ≡ true → (y : Terms A) × EndOf y x × (f y ≡ true)) → (y : Terms A) × EndOf y (brackets c x) × (f y ≡ true)
      go true e below = (brackets c x, inl refl, e)
      go false e below = let (y, i, t) = below (rw e at h) in (y, inr i, t)

  pub end_some : (f : Terms A → Bool) (x y : Terms A) → EndOf y x → f y ≡ true → some_end f x ≡ true
  end_some f nothing y h t = rw h at t
  end_some f (symbol a x) y (inl h) t = let k : f (symbol a x) ≡ true = rw h at t in rw k
  end_some f (symbol a x) y (inr h) t = rw (end_some f x y h t) (or-true (f (symbol a x)))
  end_some f (brackets c x) y (inl h) t = let k : f (brackets c x) ≡ true = rw h at t in rw k
  end_some f (brackets c x) y (inr h) t = rw (end_some f x y h t) (or-true (f (brackets c x)))

  -- an end of an end
  pub end_end : (x y z : Terms A) → EndOf z y → EndOf y x → EndOf z x
  end_end nothing y z h k = rw k at h
  end_end (symbol a x) y z h (inl k) = rw k at h
  end_end (symbol a x) y z h (inr k) = inr (end_end x y z h k)
  end_end (brackets c x) y z h (inl k) = rw k at h
  end_end (brackets c x) y z h (inr k) = inr (end_end x y z h k)

  -- what holds of some end of an end holds of some end
  some_end_longer : (f : Terms A → Bool) (x y : Terms A) → EndOf y x → some_end f y ≡ true → some_end f x ≡ true
  some_end_longer f x y h t = let (z, i, k) = some_end_lem f y t in end_some f x z (end_end x y z i h) k

-- ---- the front

module _ {X Y : Type 0} where
  pub next_some : (o : Option X) (f : X → Option Y) (z : Y) → next o f ≡ some z → (x : X) × (o ≡ some x) × (f x ≡ some z)
  next_some none f z h = absurd (none-ne-some z h)
  next_some (some x) f z h = (x, refl, h)

open_kind_lem : (k : Kind) → open_kind k ≡ true → k ≡ expression_kind
open_kind_lem symbol_kind h = absurd (false_not_true h)
open_kind_lem term_kind h = absurd (false_not_true h)
open_kind_lem expression_kind h = refl

module _ {A : Type 0} (same : A → A → Bool) (of_law : Symbol → A) (is_symbol is_single : A → Bool) where
  abbrev passes : Pattern → Terms A → Bool
  passes = loosely same of_law is_symbol is_single

  abbrev front : Pattern → Terms A → Option (Pattern × Terms A)
  front = front_of same of_law is_symbol is_single

  abbrev leaves : Option (Pattern × Terms A) → Bool
  leaves = left_passes same of_law is_symbol is_single

  next_leaves : (b : Bool) (x : Terms A) (g : Terms A → Option (Pattern × Terms A)) (l : Bool) → l ≡ leaves (g x)
      → (b && l) ≡ leaves (next (cond b (some x) none) g)
  next_leaves true x g l h = h
  next_leaves false x g l h = refl

  kind_leaves : (k : Kind) → open_kind k ≡ false → (f : Terms A → Bool) (g : Terms A → Option (Pattern × Terms A)) → ((y : Terms A) → f y ≡ leaves (g y))
      → (x : Terms A) → some_rest is_symbol is_single k f x ≡ leaves (next (kind_fits same of_law is_symbol is_single k x) g)
  kind_leaves symbol_kind c f g h nothing = refl
  kind_leaves symbol_kind c f g h (symbol a x) = next_leaves (is_symbol a) x g (f x) (h x)
  kind_leaves symbol_kind c f g h (brackets d x) = refl
  kind_leaves term_kind c f g h nothing = refl
  kind_leaves term_kind c f g h (symbol a x) = next_leaves (is_single a) x g (f x) (h x)
  kind_leaves term_kind c f g h (brackets d x) = h x
  kind_leaves expression_kind c f g h x = absurd (false_not_true (sym c))

  -- L2 b: the loose test asks about the front, and then about what is left
  pub front_loosely : (p : Pattern) (x : Terms A) → passes p x ≡ leaves (front p x)
  unfolding loosely front_of
  front_loosely nothing nothing = refl
  front_loosely nothing (symbol a x) = refl
  front_loosely nothing (brackets c x) = refl
  front_loosely (symbol (literal a) p) nothing = refl
  front_loosely (symbol (literal a) p) (symbol b x) = next_leaves (same (of_law a) b) x (λ y. front p y) (passes p x) (front_loosely p x)
  front_loosely (symbol (literal a) p) (brackets c x) = refl
  front_loosely (symbol (variable v) p) x = go v.kind refl (λ y. front_loosely p y)
    where
      go : (k : Kind) → v.kind ≡ k → ((y : Terms A) → passes p y ≡ leaves (front p y))
          → some_rest is_symbol is_single k (λ y. passes p y) x
          ≡ leaves (cond (open_kind k) (some (symbol (variable v) p, x)) (next (kind_fits same of_law is_symbol is_single k x) (λ y. front p y)))
      go symbol_kind e below = kind_leaves symbol_kind refl (λ y. passes p y) (λ y. front p y) below x
      go term_kind e below = kind_leaves term_kind refl (λ y. passes p y) (λ y. front p y) below x
      go expression_kind e below = rw e
  front_loosely (symbol other p) x = refl
  front_loosely (brackets c p) nothing = refl
  front_loosely (brackets c p) (symbol a x) = refl
  front_loosely (brackets c p) (brackets d x) = next_leaves (passes c d) x (λ y. front p y) (passes p x) (front_loosely p x)

  -- what follows a term that fits is the row without its first term
  cond_tail : (b : Bool) (x y : Terms A) → cond b (some x) none ≡ some y → some x ≡ some y
  cond_tail true x y e = e
  cond_tail false x y e = absurd (none-ne-some y e)

  kind_tail : (k : Kind) (x y : Terms A) → kind_fits same of_law is_symbol is_single k x ≡ some y → tail_of x ≡ some y
  kind_tail symbol_kind nothing y e = absurd (none-ne-some y e)
  kind_tail symbol_kind (symbol a x) y e = cond_tail (is_symbol a) x y e
  kind_tail symbol_kind (brackets c x) y e = absurd (none-ne-some y e)
  kind_tail term_kind nothing y e = absurd (none-ne-some y e)
  kind_tail term_kind (symbol a x) y e = cond_tail (is_single a) x y e
  kind_tail term_kind (brackets c x) y e = e
  kind_tail expression_kind x y e = absurd (none-ne-some y e)

  atom_tail : (t : Atom) (x y : Terms A) → atom_fits same of_law is_symbol is_single t x ≡ some y → tail_of x ≡ some y
  atom_tail (literal a) nothing y e = absurd (none-ne-some y e)
  atom_tail (literal a) (symbol b x) y e = cond_tail (same (of_law a) b) x y e
  atom_tail (literal a) (brackets c x) y e = absurd (none-ne-some y e)
  atom_tail (variable v) x y e = kind_tail v.kind x y e
  atom_tail other x y e = absurd (none-ne-some y e)

  bracket_tail : (c : Pattern) (x y : Terms A) → bracket_fits same of_law is_symbol is_single c x ≡ some y → tail_of x ≡ some y
  bracket_tail c nothing y e = absurd (none-ne-some y e)
  bracket_tail c (symbol a x) y e = absurd (none-ne-some y e)
  bracket_tail c (brackets d x) y e = cond_tail (passes c d) x y e

  -- L2 a: a pattern that begins with an e. variable passes on a row if it does on an end of it
  abbrev Absorbs : Pattern → Type 0
  Absorbs q = (x y : Terms A) → EndOf y x → passes q y ≡ true → passes q x ≡ true

  open_absorbs : (t : Atom) (p : Pattern) → open_atom t ≡ true → Absorbs (symbol t p)
  unfolding loosely
  open_absorbs (literal a) p o x y h t = absurd (false_not_true o)
  open_absorbs (variable v) p o x y h t =
      let e : v.kind ≡ expression_kind = open_kind_lem v.kind o in
      rw e (some_end_longer (λ z. passes p z) x y h (rw e at t))
  open_absorbs other p o x y h t = absurd (false_not_true o)

  -- the front of a row and of its end: the same is left of the pattern, and of the end's row an end
  abbrev Both : Pattern × Terms A → Pattern × Terms A → Type 0
  Both z w = Absorbs z.0 × ((z.0 ≡ w.0) × EndOf w.1 z.1)

  front_both : (p : Pattern) (x y : Terms A) → EndOf y x → (z w : Pattern × Terms A) → front p x ≡ some z → front p y ≡ some w → opens p ≡ true → Both z w
  unfolding front_of opens
  front_both nothing x y h z w e k o = absurd (false_not_true o)
  front_both (symbol t p) x y h z w e k o = go (open_atom t) refl e k o (λ a b i. front_both p a b i z w)
    where
      go : (b : Bool) → open_atom t ≡ b
          → cond b (some (symbol t p, x)) (next (atom_fits same of_law is_symbol is_single t x) (λ u. front p u)) ≡ some z
          → cond b (some (symbol t p, y)) (next (atom_fits same of_law is_symbol is_single t y) (λ u. front p u)) ≡ some w
          → cond b true (opens p) ≡ true
          → ((a b : Terms A) → EndOf b a → front p a ≡ some z → front p b ≡ some w → opens p ≡ true → Both z w) → Both z w
      go true i e k o below =
          let m : ◌≡◌ {A = Pattern × Terms A} (symbol t p, x) z = cc in
          let n : ◌≡◌ {A = Pattern × Terms A} (symbol t p, y) w = cc in
          rw (← m, ← n) (open_absorbs t p i, (refl, h))
      go false i e k o below =
          let (a, f, g) = next_some (atom_fits same of_law is_symbol is_single t x) (λ u. front p u) z e in
          let (b, l, m) = next_some (atom_fits same of_law is_symbol is_single t y) (λ u. front p u) w k in
          below a b (end_tails x y a b (atom_tail t x a f) (atom_tail t y b l) h) g m o
  front_both (brackets c p) x y h z w e k o =
      let (a, f, g) = next_some (bracket_fits same of_law is_symbol is_single c x) (λ u. front p u) z e in
      let (b, l, m) = next_some (bracket_fits same of_law is_symbol is_single c y) (λ u. front p u) w k in
      front_both p a b (end_tails x y a b (bracket_tail c x a f) (bracket_tail c y b l) h) z w g m o

  leaves_some : (o : Option (Pattern × Terms A)) → leaves o ≡ true → (z : Pattern × Terms A) × (o ≡ some z) × (passes z.0 z.1 ≡ true)
  leaves_some none h = absurd (false_not_true h)
  leaves_some (some z) h = (z, refl, h)

  -- where the front of a row is matched, later places of it give nothing more
  later_nothing : (p : Pattern) → opens p ≡ true → (x y : Terms A) → EndOf y x → (z : Pattern × Terms A) → front p x ≡ some z → passes p y ≡ true
      → passes z.0 z.1 ≡ true
  later_nothing p o x y h z e t =
      let (w, k, l) = leaves_some (front p y) (sym (front_loosely p y) ∙ t) in
      let (absorbs, (i, j)) = front_both p x y h z w e k o in
      absorbs z.1 w.1 j (rw i l)

  -- L2 c: with an e. variable before and one later, the leftmost place decides
  pub leftmost_loosely : (p : Pattern) → opens p ≡ true → (x : Terms A) → some_end (λ y. passes p y) x ≡ leaves (leftmost_of same of_law is_symbol is_single p x)
  unfolding leftmost_of
  leftmost_loosely p o nothing = front_loosely p nothing
  leftmost_loosely p o (symbol a x) = go (front p (symbol a x)) refl (leftmost_loosely p o x)
    where
      go : (b : Option (Pattern × Terms A)) → front p (symbol a x) ≡ b → some_end (λ y. passes p y) x ≡ leaves (leftmost_of same of_law is_symbol is_single p x)
          → (passes p (symbol a x) || some_end (λ y. passes p y) x) ≡ leaves (or_else b (leftmost_of same of_law is_symbol is_single p x))
      go none e below =
          let i : passes p (symbol a x) ≡ false = front_loosely p (symbol a x) ∙ ap leaves e in
          rw i below
      go (some z) e below =
          let i : passes p (symbol a x) ≡ passes z.0 z.1 = front_loosely p (symbol a x) ∙ ap leaves e in
          rw i (or_keeps (passes z.0 z.1) (some_end (λ y. passes p y) x)
          (λ t. let (y, h, l) = some_end_lem (λ u. passes p u) x t in later_nothing p o (symbol a x) y (inr h) z e l))
  leftmost_loosely p o (brackets c x) = go (front p (brackets c x)) refl (leftmost_loosely p o x)
    where
      go : (b : Option (Pattern × Terms A)) → front p (brackets c x) ≡ b → some_end (λ y. passes p y) x ≡ leaves (leftmost_of same of_law is_symbol is_single p x)
          → (passes p (brackets c x) || some_end (λ y. passes p y) x) ≡ leaves (or_else b (leftmost_of same of_law is_symbol is_single p x))
      go none e below =
          let i : passes p (brackets c x) ≡ false = front_loosely p (brackets c x) ∙ ap leaves e in
          rw i below
      go (some z) e below =
          let i : passes p (brackets c x) ≡ passes z.0 z.1 = front_loosely p (brackets c x) ∙ ap leaves e in
          rw i (or_keeps (passes z.0 z.1) (some_end (λ y. passes p y) x)
          (λ t. let (y, h, l) = some_end_lem (λ u. passes p u) x t in later_nothing p o (brackets c x) y (inr h) z e l))

-- ---- the last segment

module _ {A : Type 0} where
  pub end_fewer : (x y : Terms A) → EndOf y x → terms_in y ≤ terms_in x
  end_fewer nothing y h = let i : terms_in y ≡ 0 = rw h in omega (arith, i)
  end_fewer (symbol a x) y (inl h) = let i : terms_in y ≡ suc (terms_in x) = rw h in omega (arith, i)
  end_fewer (symbol a x) y (inr h) = omega (arith, end_fewer x y h)
  end_fewer (brackets c x) y (inl h) = let i : terms_in y ≡ suc (terms_in x) = rw h in omega (arith, i)
  end_fewer (brackets c x) y (inr h) = omega (arith, end_fewer x y h)

  -- a row has one end of so many terms
  end_unique : (x y z : Terms A) → EndOf y x → EndOf z x → terms_in y ≡ terms_in z → y ≡ z
  end_unique nothing y z h k e = h ∙ sym k
  end_unique (symbol a x) y z (inl h) (inl k) e = h ∙ sym k
  end_unique (symbol a x) y z (inl h) (inr k) e = let i : terms_in y ≡ suc (terms_in x) = rw h in absurd (omega (arith, i, e, end_fewer x z k))
  end_unique (symbol a x) y z (inr h) (inl k) e = let i : terms_in z ≡ suc (terms_in x) = rw k in absurd (omega (arith, i, e, end_fewer x y h))
  end_unique (symbol a x) y z (inr h) (inr k) e = end_unique x y z h k e
  end_unique (brackets c x) y z (inl h) (inl k) e = h ∙ sym k
  end_unique (brackets c x) y z (inl h) (inr k) e = let i : terms_in y ≡ suc (terms_in x) = rw h in absurd (omega (arith, i, e, end_fewer x z k))
  end_unique (brackets c x) y z (inr h) (inl k) e = let i : terms_in z ≡ suc (terms_in x) = rw k in absurd (omega (arith, i, e, end_fewer x y h))
  end_unique (brackets c x) y z (inr h) (inr k) e = end_unique x y z h k e

closed_kind : (k : Kind) (b : Bool) → cond (open_kind k) true b ≡ false → (open_kind k ≡ false) × (b ≡ false)
closed_kind symbol_kind b h = (refl, h)
closed_kind term_kind b h = (refl, h)
closed_kind expression_kind b h = absurd (false_not_true (sym h))

module _ {A : Type 0} (same : A → A → Bool) (of_law : Symbol → A) (is_symbol is_single : A → Bool) where
  abbrev fits : Pattern → Terms A → Bool
  fits = loosely same of_law is_symbol is_single

  kind_terms : (k : Kind) → open_kind k ≡ false → (f : Terms A → Bool) (n : ℕ) → ((y : Terms A) → f y ≡ true → terms_in y ≡ n)
      → (x : Terms A) → some_rest is_symbol is_single k f x ≡ true → terms_in x ≡ suc n
  kind_terms symbol_kind c f n h nothing t = absurd (false_not_true t)
  kind_terms symbol_kind c f n h (symbol a x) t = ap suc (h x (both_hold (is_symbol a) (f x) t).1)
  kind_terms symbol_kind c f n h (brackets d x) t = absurd (false_not_true t)
  kind_terms term_kind c f n h nothing t = absurd (false_not_true t)
  kind_terms term_kind c f n h (symbol a x) t = ap suc (h x (both_hold (is_single a) (f x) t).1)
  kind_terms term_kind c f n h (brackets d x) t = ap suc (h x t)
  kind_terms expression_kind c f n h x t = absurd (false_not_true (sym c))

  -- a pattern without e. variables outside brackets fits rows of as many terms only
  fixed_terms : (p : Pattern) → opens p ≡ false → (x : Terms A) → fits p x ≡ true → terms_in x ≡ terms_in p
  unfolding loosely opens
  fixed_terms nothing o nothing t = refl
  fixed_terms nothing o (symbol a x) t = absurd (false_not_true t)
  fixed_terms nothing o (brackets c x) t = absurd (false_not_true t)
  fixed_terms (symbol (literal a) p) o nothing t = absurd (false_not_true t)
  fixed_terms (symbol (literal a) p) o (symbol b x) t = ap suc (fixed_terms p o x (both_hold (same (of_law a) b) (fits p x) t).1)
  fixed_terms (symbol (literal a) p) o (brackets c x) t = absurd (false_not_true t)
  fixed_terms (symbol (variable v) p) o x t =
      let (c, k) = closed_kind v.kind (opens p) o in
      kind_terms v.kind c (λ y. fits p y) (terms_in p) (λ y i. fixed_terms p k y i) x t
  fixed_terms (symbol other p) o x t = absurd (false_not_true t)
  fixed_terms (brackets c p) o nothing t = absurd (false_not_true t)
  fixed_terms (brackets c p) o (symbol a x) t = absurd (false_not_true t)
  fixed_terms (brackets c p) o (brackets d x) t = ap suc (fixed_terms p o x (both_hold (fits c d) (fits p x) t).1)

  -- L2 d: the last segment stands at the end of the row
  pub last_loosely : (p : Pattern) → opens p ≡ false → (x y : Terms A) → EndOf y x → terms_in y ≡ terms_in p → some_end (λ z. fits p z) x ≡ fits p y
  last_loosely p o x y h e = both_ways (some_end (λ z. fits p z) x) (fits p y) there (λ t. end_some (λ z. fits p z) x y h t)
    where
      there : some_end (λ z. fits p z) x ≡ true → fits p y ≡ true
      there t =
          let (z, k, l) = some_end_lem (λ u. fits p u) x t in
          let i : z ≡ y = end_unique x z y k h (fixed_terms p o z l ∙ sym e) in
          rw i at l

  -- and a row of fewer terms has no such end
  pub last_short : (p : Pattern) → opens p ≡ false → (x : Terms A) → terms_in x < terms_in p → some_end (λ z. fits p z) x ≡ false
  last_short p o x h = both_ways (some_end (λ z. fits p z) x) false never (λ t. absurd (false_not_true t))
    where
      never : some_end (λ z. fits p z) x ≡ true → false ≡ true
      never t =
          let (z, k, l) = some_end_lem (λ u. fits p u) x t in
          absurd (omega (arith, h, fixed_terms p o z l, end_fewer x z k))

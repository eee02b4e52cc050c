-- The loose test misses no match, and where no variable is repeated it finds none too many.
use mathlib.Core.Bool.{Bool, true, false, not, ◌||◌}
use mathlib.Core.List.Memᴰ
use mathlib.Core.List.{List, [], ◌∷◌, ◌++◌, Memᴰ}
use mathlib.Core.Option.{Option, none, some, none-ne-some}
use mathlib.Core.Path.{◌≡◌, refl, sym, ◌∙◌}
use Rattle.names.proofs.Laws.{both_hold}
use Rattle.law.specs.Tree.{Kind, symbol_kind, term_kind, expression_kind}
use Rattle.law.specs.Expression.{Terms, nothing, symbol, brackets, ◌⊕◌}
use Rattle.law.specs.Variables.{Variable, same_variable, occurs}
use Rattle.law.specs.Symbol.{Symbol}
use Rattle.matching.specs.Pattern.{literal, variable, other, Pattern}
use Rattle.matching.specs.Match.{Values, none_bound, bound, value_in, some_in, matches}
use Rattle.matching.specs.Fill.{Plain, filled, OfKind, Kinded}
use Rattle.matching.specs.Match.{each, all_or_first, splits, noted, choices}
use Rattle.searches.specs.Code.Capacity.{variables_in}
use Rattle.matching.proofs.SearchLaws.{none_kinded, when_in, each_in, in_all_or_first, some_member, member_some}
use Rattle.matching.proofs.SameLaws.{false_not_true, variable_sound}
use Rattle.matching.proofs.VariableLaws.{occurs_first, occurs_later, occurs_left, occurs_right}
use Rattle.matching.proofs.FillLaws.{fills_of_match}
use Rattle.searches.proofs.AgreeLaws.{noted_other, match_values, not_left}
use Rattle.sentences.specs.Code.Loose.{some_end, some_rest, loosely, once_each}

module _ {A : Type 0} (f : Terms A → Bool) where
  -- the whole is one of its ends
  end_whole : (x : Terms A) → f x ≡ true → some_end f x ≡ true
  end_whole nothing h = h
  end_whole (symbol a x) h = rw h
  end_whole (brackets c x) h = rw h

  or-true : (b : Bool) → b || true ≡ true
  or-true true = refl
  or-true false = refl

  -- an end of a part's rest is an end of the whole
  end_after : (y r : Terms A) → some_end f r ≡ true → some_end f (y ⊕ r) ≡ true
  end_after nothing r h = h
  end_after (symbol a y) r h = rw (end_after y r h) (or-true (f (symbol a (y ⊕ r))))
  end_after (brackets c y) r h = rw (end_after y r h) (or-true (f (brackets c (y ⊕ r))))

module _ {A : Type 0} (is_symbol is_single : A → Bool) where
  rest_filled : (k : Kind) (f : Terms A → Bool) (y r : Terms A) → OfKind is_symbol is_single k y → f r ≡ true → some_rest is_symbol is_single k f (y ⊕ r) ≡ true
  rest_filled symbol_kind f (symbol a nothing) r k h = rw (k, h)
  rest_filled term_kind f (symbol a nothing) r k h = rw (k, h)
  rest_filled term_kind f (brackets c nothing) r k h = h
  rest_filled expression_kind f y r k h = end_after f y r (end_whole f r h)
  rest_filled symbol_kind f nothing r k h = elim k [ ]
  rest_filled symbol_kind f (symbol a (symbol _ _)) r k h = elim k [ ]
  rest_filled symbol_kind f (symbol a (brackets _ _)) r k h = elim k [ ]
  rest_filled symbol_kind f (brackets c _) r k h = elim k [ ]
  rest_filled term_kind f nothing r k h = elim k [ ]
  rest_filled term_kind f (symbol a (symbol _ _)) r k h = elim k [ ]
  rest_filled term_kind f (symbol a (brackets _ _)) r k h = elim k [ ]
  rest_filled term_kind f (brackets c (symbol _ _)) r k h = elim k [ ]
  rest_filled term_kind f (brackets c (brackets _ _)) r k h = elim k [ ]

module _ {A : Type 0} (same : A → A → Bool) (of_law : Symbol → A) (is_symbol is_single : A → Bool) (same_refl : (a : Symbol) → same (of_law a) (of_law a) ≡ true) where
  -- what values of the right kinds make of a plain pattern passes the loose test
  filled_loosely : (σ : Variable → Terms A) → Kinded is_symbol is_single σ → (p : Pattern) → Plain p
      → loosely same of_law is_symbol is_single p (filled of_law σ p) ≡ true
  unfolding loosely
  filled_loosely σ k nothing g = refl
  filled_loosely σ k (symbol (literal a) p) g = rw (same_refl a) (filled_loosely σ k p g)
  filled_loosely σ k (symbol (variable v) p) g =
      rest_filled is_symbol is_single v.kind (λ y. loosely same of_law is_symbol is_single p y) (σ v) (filled of_law σ p) (k v) (filled_loosely σ k p g)
  filled_loosely σ k (brackets c p) g = rw (filled_loosely σ k c g.0) (filled_loosely σ k p g.1)
  filled_loosely σ k (symbol other p) g = elim g [ ]

  -- L0: the loose test misses no match, whether or not brackets are gone back into
  pub loose_misses_nothing : (back : Bool) → ((a b : A) → same a b ≡ true → a ≡ b) → (a : A) → is_symbol a ≡ true → is_single a ≡ true
      → (p : Pattern) (x : Terms A) → some_in (matches same of_law is_symbol is_single back p x none_bound) ≡ true
      → loosely same of_law is_symbol is_single p x ≡ true
  loose_misses_nothing back sound a one single p x h =
      let f = fills_of_match same of_law is_symbol is_single back sound a one single p x none_bound (none_kinded is_symbol is_single) h in
      rw f.fills at (filled_loosely f.value f.kinded p f.plain)

-- ---- where no variable is repeated

is_false : (b : Bool) → not b ≡ true → b ≡ false
is_false false h = refl
is_false true h = absurd (false_not_true h)

-- lists without repeats
once_left : (l m : List Variable) → once_each (l ++ m) ≡ true → once_each l ≡ true
unfolding once_each
once_left [] m h = refl
once_left (v ∷ l) m h =
    let (a, b) = both_hold (not (occurs v (l ++ m))) (once_each (l ++ m)) h in
    rw (not_left v l m (is_false (occurs v (l ++ m)) a), once_left l m b)

once_right : (l m : List Variable) → once_each (l ++ m) ≡ true → once_each m ≡ true
unfolding once_each
once_right [] m h = h
once_right (v ∷ l) m h = once_right l m (both_hold (not (occurs v (l ++ m))) (once_each (l ++ m)) h).1

once_apart : (w : Variable) (l m : List Variable) → once_each (l ++ m) ≡ true → occurs w m ≡ true → occurs w l ≡ false
unfolding once_each occurs
once_apart w [] m h k = refl
once_apart w (v ∷ l) m h k = go (same_variable w v) refl (λ o. once_apart w l m o k)
  where
    both : (not (occurs v (l ++ m)) ≡ true) × (once_each (l ++ m) ≡ true)
    both = both_hold (not (occurs v (l ++ m))) (once_each (l ++ m)) h

    go : (b : Bool) → same_variable w v ≡ b → (once_each (l ++ m) ≡ true → occurs w l ≡ false) → (b || occurs w l) ≡ false
    go false e below = below both.1
    go true e below =
        let i : w ≡ v = variable_sound w v e in
        absurd (false_not_true (sym (is_false (occurs v (l ++ m)) both.0) ∙ occurs_right v l m (rw i at k)))

module _ {A : Type 0} where
  -- one of a list that is not empty is kept
  first_member : (back : Bool) (l : List (Values A)) → some_in l ≡ true → (u : Values A) × Memᴰ u (all_or_first back l)
  first_member true l h = some_member l h
  first_member false (u ∷ l) h = (u, Memᴰ.head refl)
  first_member false [] h = absurd (false_not_true h)

  -- an end of a row is what follows one of its cuts
  end_cut : (f : Terms A → Bool) (x : Terms A) → some_end f x ≡ true → (q : Terms A × Terms A) × Memᴰ q (splits x) × (f q.1 ≡ true)
  unfolding splits
  end_cut f nothing h = ((nothing, nothing), Memᴰ.head refl, h)
  end_cut f (symbol a x) h = go (f (symbol a x)) refl (λ k. end_cut f x k)
    where
      go : (b : Bool) → f (symbol a x) ≡ b → (some_end f x ≡ true → (q : Terms A × Terms A) × Memᴰ q (splits x) × (f q.1 ≡ true))
          → (q : Terms A × Terms A) × Memᴰ q (splits (symbol a x)) × (f q.1 ≡ true)
      go true e below = ((nothing, symbol a x), Memᴰ.head refl, e)
      go false e below = let (q, m, t) = below (rw e at h) in ((symbol a q.0, q.1), Memᴰ.tail (Memᴰ.map _ m), t)
  end_cut f (brackets c x) h = go (f (brackets c x)) refl (λ k. end_cut f x k)
    where
      go : (b : Bool) → f (brackets c x) ≡ b → (some_end f x ≡ true → (q : Terms A × Terms A) × Memᴰ q (splits x) × (f q.1 ≡ true))
          → (q : Terms A × Terms A) × Memᴰ q (splits (brackets c x)) × (f q.1 ≡ true)
      go true e below = ((nothing, brackets c x), Memᴰ.head refl, e)
      go false e below = let (q, m, t) = below (rw e at h) in ((brackets c q.0, q.1), Memᴰ.tail (Memᴰ.map _ m), t)

module _ {A : Type 0} (same : A → A → Bool) (of_law : Symbol → A) (is_symbol is_single : A → Bool) (back : Bool) where
  abbrev may : Option (Terms A) → Kind → Terms A → List (Terms A × Terms A)
  may = choices same of_law is_symbol is_single back

  abbrev found : Pattern → Terms A → Values A → List (Values A)
  found = matches same of_law is_symbol is_single back

  -- what a variable without a value may stand for, so that the test of what follows holds
  rest_choice : (k : Kind) (f : Terms A → Bool) (x : Terms A) → some_rest is_symbol is_single k f x ≡ true
      → (q : Terms A × Terms A) × Memᴰ q (may none k x) × (f q.1 ≡ true)
  unfolding choices
  rest_choice symbol_kind f (symbol a x) h =
      let (i, t) = both_hold (is_symbol a) (f x) h in
      ((symbol a nothing, x), when_in (is_symbol a) i (Memᴰ.head refl), t)
  rest_choice symbol_kind f nothing h = absurd (false_not_true h)
  rest_choice symbol_kind f (brackets c x) h = absurd (false_not_true h)
  rest_choice term_kind f (symbol a x) h =
      let (i, t) = both_hold (is_single a) (f x) h in
      ((symbol a nothing, x), when_in (is_single a) i (Memᴰ.head refl), t)
  rest_choice term_kind f nothing h = absurd (false_not_true h)
  rest_choice term_kind f (brackets c x) h = ((brackets c nothing, x), Memᴰ.head refl, h)
  rest_choice expression_kind f x h = end_cut f x h

  -- none of these variables has a value
  abbrev Unvalued : List Variable → Values A → Type 0
  Unvalued l vs = (w : Variable) → occurs w l ≡ true → value_in vs w ≡ none

  -- L1: where no variable is repeated, and none has a value, what passes the loose test is found, whether or not brackets are gone back into
  pub loose_found : (p : Pattern) (x : Terms A) (vs : Values A) → once_each (variables_in p) ≡ true → Unvalued (variables_in p) vs
      → loosely same of_law is_symbol is_single p x ≡ true → some_in (found p x vs) ≡ true
  unfolding matches loosely variables_in once_each
  loose_found nothing nothing vs o u h = refl
  loose_found nothing (symbol a x) vs o u h = absurd (false_not_true h)
  loose_found nothing (brackets c x) vs o u h = absurd (false_not_true h)
  loose_found (symbol (literal a) p) nothing vs o u h = absurd (false_not_true h)
  loose_found (symbol (literal a) p) (brackets c x) vs o u h = absurd (false_not_true h)
  loose_found (symbol (literal a) p) (symbol b x) vs o u h =
      let (t, k) = both_hold (same (of_law a) b) (loosely same of_law is_symbol is_single p x) h in
      rw t (loose_found p x vs o u k)
  loose_found (symbol other p) x vs o u h = absurd (false_not_true h)
  loose_found (symbol (variable v) p) x vs o u h =
      go (value_in vs v) (u v (occurs_first v (variables_in p))) (λ y z t. loose_found p y (bound v z vs) ones.1 (free z) t)
    where
      ones : (not (occurs v (variables_in p)) ≡ true) × (once_each (variables_in p) ≡ true)
      ones = both_hold (not (occurs v (variables_in p))) (once_each (variables_in p)) o

      -- the rest's variables still have no value
      free : (z : Terms A) → Unvalued (variables_in p) (bound v z vs)
      free z w k = noted_other none v w z vs (other_variable (same_variable w v) refl) ∙ u w (occurs_later w v (variables_in p) k)
        where
          other_variable : (b : Bool) → same_variable w v ≡ b → b ≡ false
          other_variable false e = refl
          other_variable true e =
              let i : w ≡ v = variable_sound w v e in
              absurd (false_not_true (sym (is_false (occurs v (variables_in p)) ones.0) ∙ (rw i at k)))

      go : (b : Option (Terms A)) → b ≡ none
          → ((y z : Terms A) → loosely same of_law is_symbol is_single p y ≡ true → some_in (found p y (bound v z vs)) ≡ true)
          → some_in (each (λ (q : Terms A × Terms A). found p q.1 (noted b v q.0 vs)) (may b v.kind x)) ≡ true
      go (some y) e below = absurd (none-ne-some y (sym e))
      go none e below =
          let (q, l, t) = rest_choice v.kind (λ y. loosely same of_law is_symbol is_single p y) x h in
          let (us, m) = some_member (found p q.1 (bound v q.0 vs)) (below q.1 q.0 t) in
          member_some (each_in (λ (r : Terms A × Terms A). found p r.1 (noted none v r.0 vs)) l m)
  loose_found (brackets c p) nothing vs o u h = absurd (false_not_true h)
  loose_found (brackets c p) (symbol a x) vs o u h = absurd (false_not_true h)
  loose_found (brackets c p) (brackets d x) vs o u h =
      let (i, j) = both_hold (loosely same of_law is_symbol is_single c d) (loosely same of_law is_symbol is_single p x) h in
      let inside = loose_found c d vs (once_left (variables_in c) (variables_in p) o) (λ w k. u w (occurs_left w (variables_in c) (variables_in p) k)) i in
      let (ws, l) = first_member back (found c d vs) inside in
      let rest = loose_found p x ws (once_right (variables_in c) (variables_in p) o)
      (λ w k. match_values same of_law is_symbol is_single back w c d vs (in_all_or_first back _ l) (once_apart w (variables_in c) (variables_in p) o k)
      ∙ u w (occurs_right w (variables_in c) (variables_in p) k)) j in
      let (us, m) = some_member (found p x ws) rest in
      member_some (each_in (λ (r : Values A). found p x r) l m)

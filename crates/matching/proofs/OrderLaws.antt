-- The order of matches (specs/Order.antt), over symbols of any kind: matches keep the values at the start and give one to each variable of the pattern, so
-- that what the choices for a variable, or the contents of a bracket, decide stays decided in what follows.
use Prim.Native.Nat.{◌<◌}
use mathlib.Core.Bool.{Bool, true, false, cond}
use mathlib.Core.List.Memᴰ
use mathlib.Core.List.{List, [], ◌∷◌, ◌++◌, map, Memᴰ}
use mathlib.Core.Logic.{◌⊎◌, inl, inr}
use mathlib.Core.Option.{Option, none, some, none-ne-some}
use mathlib.Core.Path.{◌≡◌, refl, ap, sym, ◌∙◌}
use native.Mathlib.Omega.{arith}
use Rattle.law.specs.Tree.{Kind, symbol_kind, term_kind, expression_kind}
use Rattle.law.specs.Expression.{Literal, Expression, Terms, nothing, symbol, brackets}
use Rattle.law.specs.Variables.{Variable, same_variable}
use Rattle.law.specs.Symbol.{Symbol, literal_of}
use Rattle.matching.specs.Pattern.{literal, variable, other, Pattern, same_literal}
use Rattle.matching.specs.Match.{Values, bound, when, each, all_or_first, value_in, splits, noted, same_terms, after, choices, matches, any_literal, run_matches}
use Rattle.matching.specs.Fill.{Plain, Agrees, run_filled, RunKinded}
use Rattle.matching.specs.Order.{variables_in, terms_in, Before, InOrder}
use Rattle.matching.proofs.SameLaws.{variable_sound, literal_refl}
use Rattle.matching.proofs.SearchLaws.{in_when, in_all_or_first, in_each, in_map, bound_own, match_complete}

-- ---- lists in order

module _ {X : Type 0} (R : X → X → Type 0) where
  -- a list of one
  alone : (x : X) → InOrder R (x ∷ [])
  alone x = ((λ y m. absurd (Memᴰ.not-nil m)), tt)

  -- what is kept by a test
  when_ordered : (b : Bool) (l : List X) → InOrder R l → InOrder R (when b l)
  when_ordered true l h = h
  when_ordered false l h = tt

  -- all of a list, or its first
  first_ordered : (back : Bool) (l : List X) → InOrder R l → InOrder R (all_or_first back l)
  first_ordered true l h = h
  first_ordered false [] h = tt
  first_ordered false (x ∷ l) h = alone x

  -- two lists, where each of the one comes before each of the other
  append_ordered : (a b : List X) → InOrder R a → InOrder R b → ((x y : X) → Memᴰ x a → Memᴰ y b → R x y) → InOrder R (a ++ b)
  append_ordered [] b h k c = k
  append_ordered (x ∷ a) b h k c =
      ((λ y m. go y (Memᴰ.append_cases a m)), append_ordered a b h.1 k (λ z y i j. c z y (Memᴰ.tail i) j))
    where
      go : (y : X) → Memᴰ y a ⊎ Memᴰ y b → R x y
      go y (inl i) = h.0 y i
      go y (inr i) = c x y (Memᴰ.head refl) i

  -- by another order that implies it among the list's own
  ordered_by : (S : X → X → Type 0) (l : List X) → InOrder S l → ((x y : X) → Memᴰ x l → Memᴰ y l → S x y → R x y) → InOrder R l
  ordered_by S [] h k = tt
  ordered_by S (x ∷ l) h k = (
    (λ y m. k x y (Memᴰ.head refl) (Memᴰ.tail m) (h.0 y m)),
    ordered_by S l h.1 (λ y z i j. k y z (Memᴰ.tail i) (Memᴰ.tail j)),
  )

-- a list made member by member
map_ordered : {X Y : Type 0} (R : Y → Y → Type 0) (f : X → Y) (l : List X) → InOrder (λ x y. R (f x) (f y)) l → InOrder R (map f l)
map_ordered R f [] h = tt
map_ordered R f (x ∷ l) h =
    ((λ y m. let (z, i, e) = in_map f l m in rw e (h.0 z i)), map_ordered R f l h.1)

-- lists made from each member: each list in order, and what is made from an earlier member before what is made from a later one
each_ordered : {X Y : Type 0} (S : X → X → Type 0) (R : Y → Y → Type 0) (f : X → List Y) (l : List X) → InOrder S l
    → ((x : X) → Memᴰ x l → InOrder R (f x))
    → ((x y : X) → Memᴰ x l → Memᴰ y l → S x y → (a b : Y) → Memᴰ a (f x) → Memᴰ b (f y) → R a b)
    → InOrder R (each f l)
each_ordered S R f [] h k c = tt
each_ordered S R f (x ∷ l) h k c =
    append_ordered R (f x) (each f l) (k x (Memᴰ.head refl))
    (each_ordered S R f l h.1 (λ y i. k y (Memᴰ.tail i)) (λ y z i j. c y z (Memᴰ.tail i) (Memᴰ.tail j)))
    (λ a b i j. let (y, m, n) = in_each f l j in c x y (Memᴰ.head refl) (Memᴰ.tail m) (h.0 y m) a b i n)

-- ---- what may stand for a variable

module _ {A : Type 0} where
  abbrev ShorterFirst : Terms A × Terms A → Terms A × Terms A → Type 0
  ShorterFirst q r = terms_in q.0 < terms_in r.0

  -- what is cut off is longer and longer
  splits_ordered : (x : Terms A) → InOrder ShorterFirst (splits x)
  unfolding splits
  splits_ordered nothing = alone ShorterFirst (nothing, nothing)
  splits_ordered (symbol a x) = (
    (λ q m. let (z, i, e) = in_map _ (splits x) m in rw e (omega arith)),
    map_ordered ShorterFirst _ (splits x) (ordered_by _ ShorterFirst (splits x) (splits_ordered x) (λ q r i j h. omega (arith, h))),
  )
  splits_ordered (brackets c x) = (
    (λ q m. let (z, i, e) = in_map _ (splits x) m in rw e (omega arith)),
    map_ordered ShorterFirst _ (splits x) (ordered_by _ ShorterFirst (splits x) (splits_ordered x) (λ q r i j h. omega (arith, h))),
  )

  module _ (same : A → A → Bool) where
    -- what follows a value is one row at most
    after_ordered : (R : Terms A → Terms A → Type 0) (y x : Terms A) → InOrder R (after same y x)
    unfolding after
    after_ordered R nothing x = alone R x
    after_ordered R (symbol a y) nothing = tt
    after_ordered R (symbol a y) (symbol b x) = when_ordered R (same a b) (after same y x) (after_ordered R y x)
    after_ordered R (symbol a y) (brackets d x) = tt
    after_ordered R (brackets c y) nothing = tt
    after_ordered R (brackets c y) (symbol b x) = tt
    after_ordered R (brackets c y) (brackets d x) = when_ordered R (same_terms same c d) (after same y x) (after_ordered R y x)

-- ---- values that are kept

module _ {A : Type 0} where
  -- a variable that has a value in the one has it in the other
  abbrev Keeps : Values A → Values A → Type 0
  Keeps vs us = (w : Variable) (y : Terms A) → value_in vs w ≡ some y → value_in us w ≡ some y

  -- each of these variables has a value
  abbrev HasValues : List Variable → Values A → Type 0
  HasValues [] us = Unit {0}
  HasValues (v ∷ vs) us = ((y : Terms A) × (value_in us v ≡ some y)) × HasValues vs us

  bound_keeps : (v : Variable) (y : Terms A) (vs : Values A) → value_in vs v ≡ none → Keeps vs (bound v y vs)
  unfolding value_in
  bound_keeps v y vs n w z h = go (same_variable v w) refl
    where
      go : (b : Bool) → same_variable v w ≡ b → cond b (some y) (value_in vs w) ≡ some z
      go true e = let i : v ≡ w = variable_sound v w e in absurd (none-ne-some z (sym n ∙ (ap (value_in vs) i ∙ h)))
      go false e = h

  noted_keeps : (o : Option (Terms A)) (v : Variable) (y : Terms A) (vs : Values A) → value_in vs v ≡ o → Keeps vs (noted o v y vs)
  noted_keeps (some x) v y vs n w z h = h
  noted_keeps none v y vs n w z h = bound_keeps v y vs n w z h

  values_kept : (l : List Variable) (us ws : Values A) → Keeps us ws → HasValues l us → HasValues l ws
  values_kept [] us ws k h = tt
  values_kept (v ∷ l) us ws k h = ((h.0.0, k v h.0.0 h.0.1), values_kept l us ws k h.1)

  values_append : (a b : List Variable) (us : Values A) → HasValues a us → HasValues b us → HasValues (a ++ b) us
  values_append [] b us h k = k
  values_append (v ∷ a) b us h k = (h.0, values_append a b us h.1 k)

  -- what is decided by these variables stays decided, whatever variables follow
  before_kept : (a b : List Variable) (us ws us' ws' : Values A) → HasValues a us → HasValues a ws → Keeps us us' → Keeps ws ws'
      → Before a us ws → Before (a ++ b) us' ws'
  before_kept (v ∷ a) b us ws us' ws' h k i j (inl s) = inl (rw (i v h.0.0 h.0.1, j v k.0.0 k.0.1) (rw (h.0.1, k.0.1) at s))
  before_kept (v ∷ a) b us ws us' ws' h k i j (inr (e, s)) =
      inr (rw (i v h.0.0 h.0.1, j v k.0.0 k.0.1) (sym h.0.1 ∙ (e ∙ k.0.1)), before_kept a b us ws us' ws' h.1 k.1 i j s)
  before_kept [] b us ws us' ws' h k i j x5 = elim x5 [ ]

  -- where these variables have the same values, those that follow decide
  same_then : (a b : List Variable) (us us' ws' : Values A) → HasValues a us → Keeps us us' → Keeps us ws' → Before b us' ws' → Before (a ++ b) us' ws'
  same_then [] b us us' ws' h i j s = s
  same_then (v ∷ a) b us us' ws' h i j s =
      inr (i v h.0.0 h.0.1 ∙ sym (j v h.0.0 h.0.1), same_then a b us us' ws' h.1 i j s)

-- ---- matches

module _ {A : Type 0} (same : A → A → Bool) (of_law : Symbol → A) (is_symbol is_single : A → Bool) (back : Bool) where
  abbrev may : Option (Terms A) → Kind → Terms A → List (Terms A × Terms A)
  may = choices same of_law is_symbol is_single back

  abbrev found : Pattern → Terms A → Values A → List (Values A)
  found = matches same of_law is_symbol is_single back

  -- the shorter choices come first; there is one at most where the variable has a value
  choices_ordered : (o : Option (Terms A)) (k : Kind) (x : Terms A) → InOrder ShorterFirst (may o k x)
  unfolding choices
  choices_ordered (some y) k x = map_ordered ShorterFirst _ (after same y x) (after_ordered same _ y x)
  choices_ordered none symbol_kind nothing = tt
  choices_ordered none symbol_kind (symbol a x) = when_ordered ShorterFirst (is_symbol a) _ (alone ShorterFirst (symbol a nothing, x))
  choices_ordered none symbol_kind (brackets c x) = tt
  choices_ordered none term_kind nothing = tt
  choices_ordered none term_kind (symbol a x) = when_ordered ShorterFirst (is_single a) _ (alone ShorterFirst (symbol a nothing, x))
  choices_ordered none term_kind (brackets c x) = alone ShorterFirst (brackets c nothing, x)
  choices_ordered none expression_kind x = splits_ordered x

  -- what a variable stands for is its value
  noted_own : (o : Option (Terms A)) (v : Variable) (x : Terms A) (vs : Values A) {q : Terms A × Terms A} → value_in vs v ≡ o
      → Memᴰ q (may o v.kind x) → value_in (noted o v q.0 vs) v ≡ some q.0
  unfolding choices
  noted_own (some y) v x vs n m = let (r, i, e) = in_map _ (after same y x) m in rw e n
  noted_own none v x vs {q} n m = bound_own v q.0 vs

  -- a match keeps the values at the start
  pub match_keeps : (p : Pattern) (x : Terms A) (vs : Values A) {us : Values A} → Memᴰ us (found p x vs) → Keeps vs us
  unfolding matches
  match_keeps nothing nothing vs (Memᴰ.head e) w y h = rw e h
  match_keeps (symbol (literal a) p) (symbol b x) vs m w y h = match_keeps p x vs (in_when (same (of_law a) b) _ m).1 w y h
  match_keeps (symbol (variable v) p) x vs m w y h =
      let (q, l, k) = in_each _ (may (value_in vs v) v.kind x) m in
      match_keeps p q.1 (noted (value_in vs v) v q.0 vs) k w y (noted_keeps (value_in vs v) v q.0 vs refl w y h)
  match_keeps (brackets c p) (brackets d x) vs m w y h =
      let (ws, l, k) = in_each _ (all_or_first back (found c d vs)) m in
      match_keeps p x ws k w y (match_keeps c d vs (in_all_or_first back _ l) w y h)
  match_keeps nothing nothing vs {us = us} (Memᴰ.tail x11) w y h = elim x11 [ ]
  match_keeps nothing (symbol b x) vs {us = us} m w y h = elim m [ ]
  match_keeps nothing (brackets d x) vs {us = us} m w y h = elim m [ ]
  match_keeps (symbol (literal a) p) nothing vs {us = us} m w y h = elim m [ ]
  match_keeps (symbol (literal a) p) (brackets d x) vs {us = us} m w y h = elim m [ ]
  match_keeps (symbol other p) x vs {us = us} m w y h = elim m [ ]
  match_keeps (brackets c p) nothing vs {us = us} m w y h = elim m [ ]
  match_keeps (brackets c p) (symbol b x) vs {us = us} m w y h = elim m [ ]

  -- and gives a value to each variable of the pattern
  pub match_values : (p : Pattern) (x : Terms A) (vs : Values A) {us : Values A} → Memᴰ us (found p x vs) → HasValues (variables_in p) us
  unfolding matches variables_in
  match_values nothing nothing vs m = tt
  match_values (symbol (literal a) p) (symbol b x) vs m = match_values p x vs (in_when (same (of_law a) b) _ m).1
  match_values (symbol (variable v) p) x vs m =
      let (q, l, k) = in_each _ (may (value_in vs v) v.kind x) m in
      ((q.0, match_keeps p q.1 _ k v q.0 (noted_own (value_in vs v) v x vs refl l)), match_values p q.1 _ k)
  match_values (brackets c p) (brackets d x) vs {us} m =
      let (ws, l, k) = in_each _ (all_or_first back (found c d vs)) m in
      values_append (variables_in c) (variables_in p) us
      (values_kept (variables_in c) ws us (match_keeps p x ws k) (match_values c d vs (in_all_or_first back _ l)))
      (match_values p x ws k)
  match_values nothing (symbol b x) vs {us = us} m = elim m [ ]
  match_values nothing (brackets d x) vs {us = us} m = elim m [ ]
  match_values (symbol (literal a) p) nothing vs {us = us} m = elim m [ ]
  match_values (symbol (literal a) p) (brackets d x) vs {us = us} m = elim m [ ]
  match_values (symbol other p) x vs {us = us} m = elim m [ ]
  match_values (brackets c p) nothing vs {us = us} m = elim m [ ]
  match_values (brackets c p) (symbol b x) vs {us = us} m = elim m [ ]

  -- the matches are in order
  pub match_ordered : (p : Pattern) (x : Terms A) (vs : Values A) → InOrder (Before (variables_in p)) (found p x vs)
  unfolding matches variables_in
  match_ordered nothing nothing vs = alone (Before []) vs
  match_ordered nothing (symbol a x) vs = tt
  match_ordered nothing (brackets c x) vs = tt
  match_ordered (symbol (literal a) p) nothing vs = tt
  match_ordered (symbol (literal a) p) (symbol b x) vs = when_ordered _ (same (of_law a) b) _ (match_ordered p x vs)
  match_ordered (symbol (literal a) p) (brackets c x) vs = tt
  match_ordered (symbol (variable v) p) x vs =
      each_ordered ShorterFirst (Before (v ∷ variables_in p)) _ (may (value_in vs v) v.kind x) (choices_ordered (value_in vs v) v.kind x)
      (λ q l. ordered_by (Before (v ∷ variables_in p)) (Before (variables_in p)) _ (match_ordered p q.1 (noted (value_in vs v) v q.0 vs))
      (λ us ws i j h. inr (own q l us i ∙ sym (own q l ws j), h)))
      (λ q r l l' h us ws i j. inl (rw (own q l us i, own r l' ws j) h))
    where
      -- the variable's value in what is found after a choice
      own : (q : Terms A × Terms A) → Memᴰ q (may (value_in vs v) v.kind x) → (us : Values A)
          → Memᴰ us (found p q.1 (noted (value_in vs v) v q.0 vs)) → value_in us v ≡ some q.0
      own q l us i = match_keeps p q.1 _ i v q.0 (noted_own (value_in vs v) v x vs refl l)
  match_ordered (symbol other p) x vs = tt
  match_ordered (brackets c p) nothing vs = tt
  match_ordered (brackets c p) (symbol a x) vs = tt
  match_ordered (brackets c p) (brackets d x) vs =
      each_ordered (Before (variables_in c)) (Before (variables_in c ++ variables_in p)) _ (all_or_first back (found c d vs)) (first_ordered _ back _ (match_ordered c d vs))
      (λ us l. ordered_by (Before (variables_in c ++ variables_in p)) (Before (variables_in p)) _ (match_ordered p x us)
      (λ us' ws' i j h. same_then (variables_in c) (variables_in p) us us' ws' (values l) (match_keeps p x us i) (match_keeps p x us j) h))
      (λ us ws l l' h us' ws' i j.
      before_kept (variables_in c) (variables_in p) us ws us' ws' (values l) (values l') (match_keeps p x us i) (match_keeps p x ws j) h)
    where
      -- the contents' variables have values in what was found for them
      values : {us : Values A} → Memᴰ us (all_or_first back (found c d vs)) → HasValues (variables_in c) us
      values l = match_values c d vs (in_all_or_first back _ l)

-- ---- in a run

-- the leftmost variable decides, and its shortest value comes first; so no match is in the list twice
pub matches_in_order : (p : Pattern) (x : Expression) (vs : Values Literal) → InOrder (Before (variables_in p)) (run_matches p x vs)
matches_in_order = match_ordered same_literal literal_of any_literal any_literal true

-- all values of the right kinds that fill the pattern to the expression, and keep those at the start, are in the list
pub every_match : (p : Pattern) (x : Expression) (vs : Values Literal) (σ : Variable → Expression) → Plain p → RunKinded σ → Agrees vs σ → run_filled σ p ≡ x
    → (us : Values Literal) × Memᴰ us (run_matches p x vs) × Agrees us σ
every_match p x vs σ g k h e = rw (← e) (match_complete same_literal literal_of any_literal any_literal literal_refl σ k p g vs h)

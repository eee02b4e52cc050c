-- There is a place for each variable that gets a value (specs/Code/Capacity.antt).
use Prim.Native.Nat.{ℕ, zero, suc, ◌≤◌, ◌<◌}
use mathlib.Core.Bool.{Bool, true, false, cond}
use mathlib.Core.List.{List, [], ◌∷◌, ◌++◌, append_assoc, append-nil, Memᴰ}
use mathlib.Core.Logic.{◌⊎◌, inl, inr}
use mathlib.Core.Option.{Option, none, some, none-ne-some}
use mathlib.Core.Path.{◌≡◌, refl, ap, sym, ◌∙◌}
use native.Mathlib.Omega.{arith}
use Rattle.law.specs.Expression.{nothing, symbol, brackets}
use Rattle.law.specs.Variables.{Variable, same_variable, occurs, distinct}
use Rattle.matching.specs.Pattern.{Atom, literal, variable, other, Pattern}
use Rattle.matching.specs.Match.{Values, none_bound, bound, value_in, noted, choices, matches, all_or_first}
use Rattle.matching.specs.Shadow.{same_atom, symbol_like, single_term}
use Rattle.matching.specs.Code.Bound.{values_up_to, values_of}
use Rattle.matching.specs.Code.Step.{found}
use Rattle.searches.specs.Code.Capacity.{variables_in, size_of, Once, Capacity}
use Rattle.searches.specs.Code.Asked.{first_in}
use Rattle.matching.specs.declared.Binding.{Binding}
use Rattle.matching.specs.declared.Bindings.{Bindings}
use Rattle.matching.proofs.SameLaws.{false_not_true, variable_refl}
use Rattle.matching.proofs.SearchLaws.{in_when, in_each, in_all_or_first, bound_every}
use Rattle.matching.proofs.VariableLaws.{occurs_first, occurs_later, occurs_cases, occurs_left, occurs_right, distinct_fewer}

-- ---- the variables with a value

-- each, the last first
unfoldable valued_in : Values Atom → List Variable
valued_in none_bound = []
valued_in (bound v y vs) = v ∷ valued_in vs

-- one of them has a value, and no other has
valued_some : (vs : Values Atom) (v : Variable) → occurs v (valued_in vs) ≡ true → (y : Pattern) × (value_in vs v ≡ some y)
unfolding valued_in occurs value_in
valued_some none_bound v h = absurd (false_not_true h)
valued_some (bound w z vs) v h = go (same_variable w v) refl (valued_some vs v)
  where
    go : (b : Bool) → same_variable w v ≡ b → (occurs v (valued_in vs) ≡ true → (y : Pattern) × (value_in vs v ≡ some y))
        → (y : Pattern) × (cond b (some z) (value_in vs v) ≡ some y)
    go true e below = (z, refl)
    go false e below = below (later (occurs_cases v w (valued_in vs) h))
      where
        later : (v ≡ w) ⊎ (occurs v (valued_in vs) ≡ true) → occurs v (valued_in vs) ≡ true
        later (inl i) = absurd (false_not_true (sym e ∙ rw i (variable_refl w)))
        later (inr k) = k

valued_none : (vs : Values Atom) (v : Variable) → value_in vs v ≡ none → occurs v (valued_in vs) ≡ false
valued_none vs v h = go (occurs v (valued_in vs)) refl
  where
    go : (b : Bool) → occurs v (valued_in vs) ≡ b → b ≡ false
    go true e = let (y, k) = valued_some vs v e in absurd (none-ne-some y (sym h ∙ k))
    go false e = refl

-- where each has one value, they are all different
valued_distinct : (vs : Values Atom) → Once vs → distinct (valued_in vs) ≡ size_of vs
unfolding valued_in distinct size_of
valued_distinct none_bound h = refl
valued_distinct (bound v y vs) h = rw (valued_none vs v h.0) (ap suc (valued_distinct vs h.1))

-- a variable to come that has no value makes one more
pub place_left : (coming : List Variable) (vs : Values Atom) → Capacity coming vs → (v : Variable) → occurs v coming ≡ true → value_in vs v ≡ none
    → suc (size_of vs) ≤ 32
unfolding distinct
place_left coming vs c v h n = omega (arith, c.few, distinct_fewer (v ∷ valued_in vs) c.among within, one_more)
  where
    within : (w : Variable) → occurs w (v ∷ valued_in vs) ≡ true → occurs w c.among ≡ true
    within w k = go (occurs_cases w v (valued_in vs) k)
      where
        go : (w ≡ v) ⊎ (occurs w (valued_in vs) ≡ true) → occurs w c.among ≡ true
        go (inl e) = rw e (c.come v h)
        go (inr l) = let (y, e) = valued_some vs w l in c.valued w y e

    one_more : distinct (v ∷ valued_in vs) ≡ suc (size_of vs)
    one_more = rw (valued_none vs v n) (ap suc (valued_distinct vs c.once))

-- ---- other variables to come, other values

-- fewer variables to come
pub capacity_fewer : {coming fewer : List Variable} {vs : Values Atom} → ((v : Variable) → occurs v fewer ≡ true → occurs v coming ≡ true)
    → Capacity coming vs → Capacity fewer vs
capacity_fewer h c = record { among = c.among; few = c.few; come = λ v k. c.come v (h v k); valued = c.valued; once = c.once }

-- those after the first, those of one of two lists
pub capacity_later : {v : Variable} {coming : List Variable} {vs : Values Atom} → Capacity (v ∷ coming) vs → Capacity coming vs
capacity_later {v} {coming} c = capacity_fewer (λ w k. occurs_later w v coming k) c

pub capacity_left : (one two : List Variable) {vs : Values Atom} → Capacity (one ++ two) vs → Capacity one vs
capacity_left one two c = capacity_fewer (λ w k. occurs_left w one two k) c

pub capacity_right : (one two : List Variable) {vs : Values Atom} → Capacity (one ++ two) vs → Capacity two vs
capacity_right one two c = capacity_fewer (λ w k. occurs_right w one two k) c

-- a variable to come gets a value
pub capacity_bound : {coming : List Variable} {vs : Values Atom} (v : Variable) (y : Pattern) → Capacity coming vs
    → occurs v coming ≡ true → value_in vs v ≡ none → Capacity coming (bound v y vs)
capacity_bound {vs} v y c h n =
    record {
      among = c.among;
      few = c.few;
      come = c.come;
      valued = bound_every v y vs (λ w z. occurs w c.among ≡ true) (c.come v h) c.valued;
      once = (n, c.once);
    }

-- ---- the first term of a pattern

module _ (p : Pattern) (coming : List Variable) (vs : Values Atom) where
  -- what follows it
  pub capacity_rest : (a : Atom) → Capacity (variables_in (symbol a p) ++ coming) vs → Capacity (variables_in p ++ coming) vs
  unfolding variables_in
  capacity_rest (literal a) c = c
  capacity_rest (variable v) c = capacity_later c
  capacity_rest other c = c

  pub capacity_binds : (v : Variable) (y : Pattern) → Capacity (variables_in (symbol (variable v) p) ++ coming) vs → value_in vs v ≡ none
      → Capacity (variables_in p ++ coming) (bound v y vs)
  unfolding variables_in
  capacity_binds v y c e = capacity_later (capacity_bound v y c (occurs_first v (variables_in p ++ coming)) e)

  -- it gets one if it has none
  capacity_noted : (o : Option Pattern) (v : Variable) (y : Pattern) → value_in vs v ≡ o → Capacity (variables_in (symbol (variable v) p) ++ coming) vs
      → Capacity (variables_in p ++ coming) (noted o v y vs)
  capacity_noted (some z) v y e c = capacity_rest (variable v) c
  capacity_noted none v y e c = capacity_binds v y c e

  -- brackets: the contents, before what follows
  pub capacity_inside : (inside : Pattern) → Capacity (variables_in (brackets inside p) ++ coming) vs
      → Capacity (variables_in inside ++ (variables_in p ++ coming)) vs
  unfolding variables_in
  capacity_inside inside c = rw (← append_assoc (variables_in inside) (variables_in p) coming) c

-- ---- a match

-- a match gives values to variables of its pattern alone, each once
pub capacity_found : (back : Bool) (p x : Pattern) (vs us : Values Atom) (coming : List Variable) → Memᴰ us (found back p x vs)
    → Capacity (variables_in p ++ coming) vs → Capacity coming us
unfolding matches variables_in
capacity_found back nothing nothing vs us coming (Memᴰ.head e) c = rw e c
capacity_found back (symbol (literal a) p) (symbol b x) vs us coming m c =
    capacity_found back p x vs us coming (in_when (same_atom (literal a) b) _ m).1 (capacity_rest p coming vs (literal a) c)
capacity_found back (symbol (variable v) p) x vs us coming m c =
    let (q, l, k) = in_each _ (choices same_atom literal symbol_like single_term back (value_in vs v) v.kind x) m in
    capacity_found back p q.1 (noted (value_in vs v) v q.0 vs) us coming k (capacity_noted p coming vs (value_in vs v) v q.0 refl c)
capacity_found back (brackets c p) (brackets d x) vs us coming m k =
    let (ws, i, j) = in_each _ (all_or_first back (found back c d vs)) m in
    capacity_found back p x ws us coming j
    (capacity_found back c d vs ws (variables_in p ++ coming) (in_all_or_first back _ i) (capacity_inside p coming vs c k))
capacity_found back nothing nothing vs us coming (mathlib.Core.List.Memᴰ.tail x11) c = elim x11 [ ]
capacity_found back nothing (symbol b x) vs us coming m c = elim m [ ]
capacity_found back nothing (brackets d x) vs us coming m c = elim m [ ]
capacity_found back (symbol (literal a) p) nothing vs us coming m c = elim m [ ]
capacity_found back (symbol (literal a) p) (brackets d x) vs us coming m c = elim m [ ]
capacity_found back (symbol other p) x vs us coming m c = elim m [ ]
capacity_found back (brackets c p) nothing vs us coming m k = elim m [ ]
capacity_found back (brackets c p) (symbol b x) vs us coming m k = elim m [ ]

-- so does the first
first_member : {X : Type 0} (l : List X) (x : X) → first_in l ≡ some x → Memᴰ x l
first_member [] x e = absurd (none-ne-some x e)
first_member (y ∷ l) x e = let same : x ≡ y = cc in Memᴰ.head same

pub capacity_first : (back : Bool) (p x : Pattern) (vs us : Values Atom) (coming : List Variable) → first_in (found back p x vs) ≡ some us
    → Capacity (variables_in p ++ coming) vs → Capacity coming us
capacity_first back p x vs us coming e c = capacity_found back p x vs us coming (first_member (found back p x vs) us e) c

-- at the start no variable has a value
pub capacity_start : (p : Pattern) → distinct (variables_in p) ≤ 32 → Capacity (variables_in p ++ []) none_bound
unfolding value_in
capacity_start p h =
    record {
      among = variables_in p;
      few = h;
      come = λ v k. rw (append-nil (variables_in p)) at k;
      valued = λ v y e. absurd (none-ne-some y e);
      once = tt;
    }

-- ---- places

-- so many places are so many values
pub values_size : (text terms : List ℕ) (places : List Binding) (n : ℕ) → size_of (values_up_to text terms places n) ≡ n
unfolding values_up_to size_of
values_size text terms places zero = refl
values_size text terms places (suc n) = ap suc (values_size text terms places n)

-- there is a place for a variable to come that has no value
pub bindings_left : (text terms : List ℕ) (coming : List Variable) (b : Bindings) → Capacity coming (values_of text terms b)
    → (v : Variable) → occurs v coming ≡ true → value_in (values_of text terms b) v ≡ none → b.count < 32
bindings_left text terms coming b c v h n =
    omega (arith, place_left coming (values_of text terms b) c v h n, values_size text terms b.places b.count)

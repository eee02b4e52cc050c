-- A literal row is searched in the same way as a row of symbols and as the row of a pattern: literal matching is the search of `Step.found`.
use mathlib.Core.Bool.{Bool, true, false, cond, ◌&&◌}
use mathlib.Core.List.{List, [], ◌∷◌, map, map-map, map-append}
use mathlib.Core.Option
use mathlib.Core.Option.{Option, none, some}
use mathlib.Core.Path.{◌≡◌, refl, ap, ap₂, sym}
use Rattle.names.proofs.Laws.{both_hold}
use Rattle.law.specs.Tree as tree
use Rattle.law.specs.Tree.{Kind, symbol_kind, term_kind, expression_kind}
use Rattle.law.specs.Expression.{Terms, nothing, symbol, brackets}
use Rattle.law.specs.Variables.{Variable, same_variable}
use Rattle.law.specs.Symbol.{Symbol, symbol_of}
use Rattle.matching.specs.Pattern.{same_symbol, Atom, literal, variable, other, Pattern, pattern_of}
use Rattle.matching.specs.Match.{Values, none_bound, bound, when, each, all_or_first, some_in, value_in, splits, noted, same_terms, after, choices, matches}
use Rattle.matching.specs.Shadow.{same_atom, symbol_like, single_term}
use Rattle.matching.specs.Literal.{is_literal, literal_terms, any_symbol, literal_matches, changed}
use Rattle.matching.specs.Code.Step.{found}
use Rattle.searches.specs.Code.Asked.{some_holds, resume}
use Rattle.matching.proofs.SameLaws.{false_not_true}

-- ---- lists with other members

module _ {X Y : Type 0} (h : X → Y) where
  -- kept by a test
  map_when : (b : Bool) (l : List X) → when b (map h l) ≡ map h (when b l)
  map_when true l = refl
  map_when false l = refl

  -- all, or the first alone
  map_all_or_first : (back : Bool) (l : List X) → all_or_first back (map h l) ≡ map h (all_or_first back l)
  map_all_or_first true l = refl
  map_all_or_first false [] = refl
  map_all_or_first false (x ∷ l) = refl

  -- some, or none
  map_some : (l : List X) → some_in (map h l) ≡ some_in l
  map_some [] = refl
  map_some (x ∷ l) = refl

-- what is made from each member, where the same is made from the other members, but with other members
module _ {X Y Z W : Type 0} (h : X → Y) (k : Z → W) (f : X → List Z) (g : Y → List W) (same : (x : X) → g (h x) ≡ map k (f x)) where
  map_each : (l : List X) → each g (map h l) ≡ map k (each f l)
  map_each [] = refl
  map_each (x ∷ l) = rw (same x, map_each l) (sym (map-append k (f x) (each f l)))

-- ---- other symbols, that are the same when the symbols are, and of the same sorts

module _ {A B : Type 0} (f : A → B) where
  -- both parts of a cut row
  abbrev parts : Terms A × Terms A → Terms B × Terms B
  parts q = (changed f q.0, changed f q.1)

  -- every value
  unfoldable pub changed_values : Values A → Values B
  changed_values none_bound = none_bound
  changed_values (bound v x vs) = bound v (changed f x) (changed_values vs)

  -- a variable's value
  value_changed : (vs : Values A) (v : Variable) → value_in (changed_values vs) v ≡ Option.map (changed f) (value_in vs v)
  unfolding value_in changed_values
  value_changed none_bound v = refl
  value_changed (bound w x vs) v = rw (value_changed vs v) (go (same_variable w v))
    where
      go : (b : Bool) → cond b (some (changed f x)) (Option.map (changed f) (value_in vs v)) ≡ Option.map (changed f) (cond b (some x) (value_in vs v))
      go true = refl
      go false = refl

  -- a variable that had no value gets one
  noted_changed : (o : Option (Terms A)) (v : Variable) (x : Terms A) (vs : Values A)
      → noted (Option.map (changed f) o) v (changed f x) (changed_values vs) ≡ changed_values (noted o v x vs)
  unfolding changed_values
  noted_changed none v x vs = refl
  noted_changed (some y) v x vs = refl

  -- the same cuts
  splits_changed : (x : Terms A) → splits (changed f x) ≡ map parts (splits x)
  unfolding splits changed
  splits_changed nothing = refl
  splits_changed (symbol a x) = simp (splits_changed x, map-map)
  splits_changed (brackets c x) = simp (splits_changed x, map-map)

  module _ (same : A → A → Bool) (same' : B → B → Bool) (agree : (a b : A) → same' (f a) (f b) ≡ same a b) where
    -- rows are the same when they were
    same_changed : (x y : Terms A) → same_terms same' (changed f x) (changed f y) ≡ same_terms same x y
    unfolding same_terms changed
    same_changed nothing nothing = refl
    same_changed nothing (symbol b y) = refl
    same_changed nothing (brackets d y) = refl
    same_changed (symbol a x) nothing = refl
    same_changed (symbol a x) (symbol b y) = ap₂ ◌&&◌ (agree a b) (same_changed x y)
    same_changed (symbol a x) (brackets d y) = refl
    same_changed (brackets c x) nothing = refl
    same_changed (brackets c x) (symbol b y) = refl
    same_changed (brackets c x) (brackets d y) = ap₂ ◌&&◌ (same_changed c d) (same_changed x y)

    -- the same follows a value
    after_changed : (y x : Terms A) → after same' (changed f y) (changed f x) ≡ map (changed f) (after same y x)
    unfolding after changed
    after_changed nothing x = refl
    after_changed (symbol a y) nothing = refl
    after_changed (symbol a y) (symbol b x) = rw (agree a b, after_changed y x) (map_when (changed f) (same a b) (after same y x))
    after_changed (symbol a y) (brackets d x) = refl
    after_changed (brackets c y) nothing = refl
    after_changed (brackets c y) (symbol b x) = refl
    after_changed (brackets c y) (brackets d x) = rw (same_changed c d, after_changed y x) (map_when (changed f) (same_terms same c d) (after same y x))

    module _ (of_law : Symbol → A) (of_law' : Symbol → B) (law : (a : Symbol) → of_law' a ≡ f (of_law a))
        (is_symbol is_single : A → Bool) (is_symbol' is_single' : B → Bool) (symbols : (a : A) → is_symbol' (f a) ≡ is_symbol a)
        (singles : (a : A) → is_single' (f a) ≡ is_single a) (back : Bool) where
      -- a variable may stand for the same
      choices_changed : (o : Option (Terms A)) (k : Kind) (x : Terms A)
          → choices same' of_law' is_symbol' is_single' back (Option.map (changed f) o) k (changed f x)
          ≡ map parts (choices same of_law is_symbol is_single back o k x)
      unfolding choices changed
      choices_changed (some y) k x = simp (after_changed y x, map-map)
      choices_changed none symbol_kind nothing = refl
      choices_changed none symbol_kind (symbol a x) = rw (symbols a) (map_when parts (is_symbol a) ((symbol a nothing, x) ∷ []))
      choices_changed none symbol_kind (brackets c x) = refl
      choices_changed none term_kind nothing = refl
      choices_changed none term_kind (symbol a x) = rw (singles a) (map_when parts (is_single a) ((symbol a nothing, x) ∷ []))
      choices_changed none term_kind (brackets c x) = refl
      choices_changed none expression_kind x = splits_changed x

      -- the search finds the same, changed
      pub search_changed : (p : Pattern) (x : Terms A) (vs : Values A)
          → matches same' of_law' is_symbol' is_single' back p (changed f x) (changed_values vs)
          ≡ map changed_values (matches same of_law is_symbol is_single back p x vs)
      unfolding matches changed
      search_changed nothing nothing vs = refl
      search_changed nothing (symbol a x) vs = refl
      search_changed nothing (brackets c x) vs = refl
      search_changed (symbol (literal a) p) nothing vs = refl
      search_changed (symbol (literal a) p) (symbol b x) vs =
          rw (law a, agree (of_law a) b, search_changed p x vs) (map_when changed_values (same (of_law a) b) (matches same of_law is_symbol is_single back p x vs))
      search_changed (symbol (literal a) p) (brackets c x) vs = refl
      search_changed (symbol (variable v) p) x vs =
          rw (value_changed vs v, choices_changed (value_in vs v) v.kind x)
          (map_each parts changed_values
          (λ q. matches same of_law is_symbol is_single back p q.1 (noted (value_in vs v) v q.0 vs))
          (λ q. matches same' of_law' is_symbol' is_single' back p q.1 (noted (Option.map (changed f) (value_in vs v)) v q.0 (changed_values vs)))
          (λ q. rw (noted_changed (value_in vs v) v q.0 vs) (search_changed p q.1 (noted (value_in vs v) v q.0 vs)))
          (choices same of_law is_symbol is_single back (value_in vs v) v.kind x))
      search_changed (symbol other p) x vs = refl
      search_changed (brackets c p) nothing vs = refl
      search_changed (brackets c p) (symbol a x) vs = refl
      search_changed (brackets c p) (brackets d x) vs =
          rw (search_changed c d vs, map_all_or_first changed_values back (matches same of_law is_symbol is_single back c d vs))
          (map_each changed_values changed_values
          (λ us. matches same of_law is_symbol is_single back p x us)
          (λ us. matches same' of_law' is_symbol' is_single' back p (changed f x) us)
          (λ us. search_changed p x us)
          (all_or_first back (matches same of_law is_symbol is_single back c d vs)))

-- ---- literal rows

-- a literal run as a pattern is its row of symbols
pub literal_pattern : (r : tree.Run) → is_literal r ≡ true → pattern_of r ≡ changed literal (literal_terms r)
unfolding is_literal pattern_of literal_terms changed
literal_pattern tree.Run.empty h = refl
literal_pattern (tree.Run.symbol a after) h = ap (symbol (literal (symbol_of a))) (literal_pattern after h)
literal_pattern (tree.Run.variable k i after) h = absurd (false_not_true h)
literal_pattern (tree.Run.bracket inside after) h =
    let (e, q) = both_hold (is_literal inside) (is_literal after) h in
    ap₂ brackets (literal_pattern inside e) (literal_pattern after q)
literal_pattern (tree.Run.call m f inside after) h = absurd (false_not_true h)
literal_pattern (tree.Run.block m inside ss after) h = absurd (false_not_true h)

-- nothing is left to match after a match: there is one, or there is none
pub resume_nothing : (l : List (Values Atom)) → some_holds (resume []) l ≡ some_in l
unfolding some_holds resume
resume_nothing [] = refl
resume_nothing (us ∷ l) = refl

-- literal matching, by the search in the row of a pattern
pub literal_search : (r : tree.Run) → is_literal r ≡ true → (p : Pattern)
    → some_holds (resume []) (found true p (pattern_of r) none_bound) ≡ literal_matches p (literal_terms r)
unfolding changed_values
literal_search r h p =
    rw (
      resume_nothing (found true p (pattern_of r) none_bound),
      literal_pattern r h,
      search_changed literal same_symbol same_atom (λ a b. refl) (λ a. a) literal (λ a. refl) any_symbol any_symbol symbol_like single_term (λ a. refl) (λ a. refl) true
          p (literal_terms r) none_bound,
    )
    (map_some (changed_values literal) (matches same_symbol (λ a. a) any_symbol any_symbol true p (literal_terms r) none_bound))

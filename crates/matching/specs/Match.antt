-- Matching, as the Refal-5 manual has it: the ordered list of all matches of a pattern with a row of terms, from given values. The leftmost variable
-- is varied last, an e. variable takes nothing first and then ever more terms, and a bracket whose contents matched is gone back into. A variable with
-- a value matches only that. One search serves three: a run (what is matched are literals), literal matching (symbols of a law) and shadowing (the terms
-- of another pattern); they differ in what is the same, what counts as a symbol and as a single term, and in whether a bracket is gone back into.
-- docs/SPECIFICATION.md, 7.2 to 7.5.
use Rattle.std.specs.Prelude.{Bool, true, false, cond, ◌&&◌, List, [], ◌∷◌, ◌++◌, map}
use Rattle.std.proofs.Math.Option.{Option, none, some}
use Rattle.law.specs.Tree.{Kind, symbol_kind, term_kind, expression_kind}
use Rattle.law.specs.Expression.{Literal, Expression, Terms, nothing, symbol, brackets}
use Rattle.law.specs.Variables.{Variable, same_variable}
use Rattle.law.specs.Symbol.{Symbol, literal_of}
use Rattle.matching.specs.Pattern.{literal, variable, other, Pattern, same_literal}

-- variables' values, the last bound first
pub data Values (A : Type 0) : Type 0 where
  none_bound : Values A
  bound : Variable → Terms A → Values A → Values A

module _ {X : Type 0} where
  -- a list, if the test holds
  abbrev pub when : Bool → List X → List X
  when true l = l
  when false l = []

  abbrev pub each : {Y : Type 0} → (X → List Y) → List X → List Y
  each f [] = []
  each f (x ∷ l) = f x ++ each f l

  -- all of a list, or its first alone
  abbrev pub all_or_first : Bool → List X → List X
  all_or_first true l = l
  all_or_first false [] = []
  all_or_first false (x ∷ l) = x ∷ []

  abbrev pub some_in : List X → Bool
  some_in [] = false
  some_in (x ∷ l) = true

module _ {A : Type 0} where
  unfoldable pub value_in : Values A → Variable → Option (Terms A)
  value_in none_bound v = none
  value_in (bound w x vs) v = cond (same_variable w v) (some x) (value_in vs v)

  -- a row cut in two at every place, the first part from nothing to all
  unfoldable pub splits : Terms A → List (Terms A × Terms A)
  splits nothing = (nothing, nothing) ∷ []
  splits (symbol a x) = (nothing, symbol a x) ∷ map (λ (q : Terms A × Terms A). (symbol a q.0, q.1)) (splits x)
  splits (brackets c x) = (nothing, brackets c x) ∷ map (λ (q : Terms A × Terms A). (brackets c q.0, q.1)) (splits x)

  -- a variable that had no value gets one
  abbrev pub noted : Option (Terms A) → Variable → Terms A → Values A → Values A
  noted (some y) v x vs = vs
  noted none v x vs = bound v x vs

module _ {A : Type 0} (same : A → A → Bool) where
  unfoldable pub same_terms : Terms A → Terms A → Bool
  same_terms nothing nothing = true
  same_terms nothing (symbol b y) = false
  same_terms nothing (brackets d y) = false
  same_terms (symbol a x) nothing = false
  same_terms (symbol a x) (symbol b y) = same a b && same_terms x y
  same_terms (symbol a x) (brackets d y) = false
  same_terms (brackets c x) nothing = false
  same_terms (brackets c x) (symbol b y) = false
  same_terms (brackets c x) (brackets d y) = same_terms c d && same_terms x y

  -- what follows a value at the front of a row, if the row begins with it
  unfoldable pub after : Terms A → Terms A → List (Terms A)
  after nothing x = x ∷ []
  after (symbol a y) nothing = []
  after (symbol a y) (symbol b x) = when (same a b) (after y x)
  after (symbol a y) (brackets d x) = []
  after (brackets c y) nothing = []
  after (brackets c y) (symbol b x) = []
  after (brackets c y) (brackets d x) = when (same_terms c d) (after y x)

-- `is_symbol` and `is_single` say what an s. and a t. variable may stand for; `back`, whether a bracket is gone back into
module _ {A : Type 0} (same : A → A → Bool) (of_law : Symbol → A) (is_symbol is_single : A → Bool) (back : Bool) where
  -- what a variable may stand for at the front of a row, with what follows
  unfoldable pub choices : Option (Terms A) → Kind → Terms A → List (Terms A × Terms A)
  choices (some y) k x = map {B = Terms A × Terms A} (λ (r : Terms A). (y, r)) (after same y x)
  choices none symbol_kind nothing = []
  choices none symbol_kind (symbol a x) = when (is_symbol a) ((symbol a nothing, x) ∷ [])
  choices none symbol_kind (brackets c x) = []
  choices none term_kind nothing = []
  choices none term_kind (symbol a x) = when (is_single a) ((symbol a nothing, x) ∷ [])
  choices none term_kind (brackets c x) = (brackets c nothing, x) ∷ []
  choices none expression_kind x = splits x

  unfoldable pub matches : Pattern → Terms A → Values A → List (Values A)
  matches nothing nothing vs = vs ∷ []
  matches nothing (symbol a x) vs = []
  matches nothing (brackets c x) vs = []
  matches (symbol (literal a) p) nothing vs = []
  matches (symbol (literal a) p) (symbol b x) vs = when (same (of_law a) b) (matches p x vs)
  matches (symbol (literal a) p) (brackets c x) vs = []
  matches (symbol (variable v) p) x vs =
      each (λ (q : Terms A × Terms A). matches p q.1 (noted (value_in vs v) v q.0 vs)) (choices (value_in vs v) v.kind x)
  matches (symbol other p) x vs = []
  matches (brackets c p) nothing vs = []
  matches (brackets c p) (symbol a x) vs = []
  matches (brackets c p) (brackets d x) vs = each (λ (us : Values A). matches p x us) (all_or_first back (matches c d vs))

abbrev pub any_literal : Literal → Bool
any_literal a = true

-- the manual's matching of an expression
abbrev pub run_matches : Pattern → Expression → Values Literal → List (Values Literal)
run_matches = matches same_literal literal_of any_literal any_literal true

-- Why 32 places are enough: refusal 9 leaves at most 32 different variables in a sentence's pattern.
use Rattle.std.specs.Prelude.{ℕ, suc, ◌≤◌, true, List, [], ◌∷◌, ◌++◌, ◌≡◌}
use Rattle.std.proofs.Math.Option.{none, some}
use Rattle.law.specs.Expression.{nothing, symbol, brackets}
use Rattle.law.specs.Variables.{Variable, occurs, distinct}
use Rattle.matching.specs.Pattern.{Atom, literal, variable, other, Pattern}
use Rattle.matching.specs.Match.{Values, none_bound, bound, value_in}

-- the variables of a pattern, in order
unfoldable pub variables_in : Pattern → List Variable
variables_in nothing = []
variables_in (symbol (literal a) p) = variables_in p
variables_in (symbol (variable v) p) = v ∷ variables_in p
variables_in (symbol other p) = variables_in p
variables_in (brackets c p) = variables_in c ++ variables_in p

-- how many values there are
unfoldable pub size_of : Values Atom → ℕ
size_of none_bound = 0
size_of (bound v y vs) = suc (size_of vs)

-- each variable has one value
abbrev pub Once : Values Atom → Type 0
Once none_bound = Unit {0}
Once (bound v y vs) = (value_in vs v ≡ none) × Once vs

-- the variables still to come and those with a value are among at most 32
pub record Capacity (coming : List Variable) (vs : Values Atom) : Type 0 where
  pub among : List Variable
  pub few : distinct among ≤ 32
  pub come : (v : Variable) → occurs v coming ≡ true → occurs v among ≡ true
  pub valued : (v : Variable) (y : Pattern) → value_in vs v ≡ some y → occurs v among ≡ true
  pub once : Once vs

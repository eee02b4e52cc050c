-- Whether numbers of terms, and numbers of times that a variable stands, are odd.
use Rattle.std.specs.Prelude.{Bool, true, false, not, List, [], ◌∷◌, ◌≡◌}
use Rattle.law.specs.Expression.{Terms, nothing, symbol, brackets}
use Rattle.law.specs.Variables.{Variable, same_variable}
use Rattle.matching.specs.Pattern.{literal, variable, other, Pattern}
use Rattle.sentences.specs.Code.Greedy.{open_kind}

-- one of two holds, and the other does not
abbrev pub differ : Bool → Bool → Bool
differ true b = not b
differ false b = b

module _ {A : Type 0} where
  -- has a row an odd number of terms?
  unfoldable pub odd_terms : Terms A → Bool
  odd_terms nothing = false
  odd_terms (symbol a x) = not (odd_terms x)
  odd_terms (brackets c x) = not (odd_terms x)

-- the variables outside a pattern's brackets, each as often as it stands there
unfoldable pub outside : Pattern → List Variable
outside nothing = []
outside (symbol (literal a) p) = outside p
outside (symbol (variable v) p) = v ∷ outside p
outside (symbol other p) = outside p
outside (brackets c p) = outside p

-- does a variable stand in a list an odd number of times?
unfoldable pub odd_in : Variable → List Variable → Bool
odd_in v [] = false
odd_in v (w ∷ l) = differ (same_variable v w) (odd_in v l)

-- each e. variable outside brackets stands there an even number of times
abbrev pub Evenly : Pattern → Type 0
Evenly p = (v : Variable) → open_kind v.kind ≡ true → odd_in v (outside p) ≡ false

-- The order of matches: the leftmost variable decides, and its shortest value comes first. Said without the search; the law in proofs/ is `matches_in_order`.
-- docs/SPECIFICATION.md, 7.4.
use Rattle.std.specs.Prelude.{ℕ, suc, ◌<◌, ◌⊎◌, ◌≡◌}
use mathlib.Core.List.{List, [], ◌∷◌, ◌++◌, Memᴰ}
use Rattle.std.proofs.Math.Option.{Option, none, some}
use Rattle.law.specs.Expression.{Terms, nothing, symbol, brackets}
use Rattle.law.specs.Variables.{Variable}
use Rattle.matching.specs.Pattern.{literal, variable, other, Pattern}
use Rattle.matching.specs.Match.{Values, value_in}

-- a pattern's variables from left to right, those of a bracket where it stands
unfoldable pub variables_in : Pattern → List Variable
variables_in nothing = []
variables_in (symbol (literal a) p) = variables_in p
variables_in (symbol (variable v) p) = v ∷ variables_in p
variables_in (symbol other p) = variables_in p
variables_in (brackets c p) = variables_in c ++ variables_in p

module _ {A : Type 0} where
  -- the number of terms of a row; brackets are one term
  abbrev pub terms_in : Terms A → ℕ
  terms_in nothing = 0
  terms_in (symbol a x) = suc (terms_in x)
  terms_in (brackets c x) = suc (terms_in x)

  abbrev pub Shorter : Option (Terms A) → Option (Terms A) → Type 0
  Shorter none o = ⊥
  Shorter (some x) none = ⊥
  Shorter (some x) (some y) = terms_in x < terms_in y

  -- of two matches: at the first of these variables whose values differ, the one has the shorter value
  abbrev pub Before : List Variable → Values A → Values A → Type 0
  Before [] us ws = ⊥
  Before (v ∷ vs) us ws = Shorter (value_in us v) (value_in ws v) ⊎ ((value_in us v ≡ value_in ws v) × Before vs us ws)

-- each of a list stands so to all after it
abbrev pub InOrder : {X : Type 0} → (X → X → Type 0) → List X → Type 0
InOrder R [] = Unit {0}
InOrder {X} R (x ∷ l) = ((y : X) → Memᴰ y l → R x y) × InOrder R l

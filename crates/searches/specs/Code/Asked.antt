-- What the two matchers ask for, and what they answer.
use Rattle.std.specs.Prelude.{ℕ, zero, suc, ◌+◌, ◌-◌, ◌≤◌, ◌<◌, max, Bool, true, false, ◌||◌, List, [], ◌∷◌, ◌++◌, ◌≡◌, length, take, drop, get_or}
use Rattle.std.specs.Prelude.{Some, None, Option as Maybe}
use Rattle.std.proofs.Math.Option.{Option, none, some}
use Rattle.law.specs.Expression.{nothing, symbol, brackets}
use Rattle.law.specs.Variables.{Variable}
use Rattle.matching.specs.Pattern.{Atom, Pattern}
use Rattle.matching.specs.Match.{Values}
use Rattle.matching.specs.Code.Part.{row_of, Stands}
use Rattle.matching.specs.Code.Bound.{values_of, Kept}
use Rattle.matching.specs.Code.Step.{found}
use Rattle.searches.specs.Code.Capacity.{variables_in, Capacity}
use Rattle.matching.specs.declared.Bindings.{Bindings}
use Rattle.searches.specs.declared.literal.Level.{Level}
use Rattle.searches.specs.declared.literal.Pending.{Pending}

-- the first of a list
abbrev pub first_in : {X : Type 0} → List X → Option X
first_in [] = none
first_in (x ∷ l) = some x

-- does a test hold of one of a list?
module _ {X : Type 0} (test : X → Bool) where
  unfoldable pub some_holds : List X → Bool
  some_holds [] = false
  some_holds (x ∷ l) = test x || some_holds l

-- a pattern and a row stand among the term records, the values are in places, and there are places enough
pub record Asked (text terms pattern : List ℕ) (at : ℕ) (row : List ℕ) (start : ℕ) (coming : List Variable) (b : Bindings) : Type 0 where
  pub small : length terms < 65536
  pub pattern_stands : Stands terms pattern at
  pub row_stands : Stands terms row start
  pub kept : Kept text terms b
  pub capacity : Capacity (variables_in (row_of text pattern) ++ coming) (values_of text terms b)

-- the values of the first match, if there is one
abbrev pub matched_values : List ℕ → List ℕ → Maybe Bindings → Option (Values Atom)
matched_values text terms None = none
matched_values text terms (Some b) = some (values_of text terms b)

-- ---- going back into brackets: what is still to be matched around the brackets that were gone into, the innermost first

-- how deep brackets stand in brackets
unfoldable pub nesting : Pattern → ℕ
nesting nothing = 0
nesting (symbol a p) = nesting p
nesting (brackets c p) = max (suc (nesting c)) (nesting p)

-- is there a match of all that is left?
unfoldable pub resume : List (Pattern × Pattern) → Values Atom → Bool
resume [] vs = true
resume (q ∷ qs) vs = some_holds (resume qs) (found true q.0 q.1 vs)

-- the variables of the patterns that are left
unfoldable pub coming_in : List (Pattern × Pattern) → List Variable
coming_in [] = []
coming_in (q ∷ qs) = variables_in q.0 ++ coming_in qs

-- the row between two positions among the term records
abbrev pub between : List ℕ → List ℕ → ℕ → ℕ → Pattern
between text terms a e = row_of text (take (e - a) (drop a terms))

-- the level of a number; there are 33
abbrev pub level_at : List Level → ℕ → Level
level_at ends i = get_or ends i (record { pattern_end = 0; row_end = 0 })

module _ (text terms : List ℕ) (ends : List Level) where
  -- the n innermost levels, the first of which begins at these positions of the pattern and of the row
  unfoldable pub levels : ℕ → ℕ → ℕ → List (Pattern × Pattern)
  levels at start zero = []
  levels at start (suc n) =
      (between text terms at (level_at ends n).pattern_end, between text terms start (level_at ends n).row_end)
      ∷ levels (level_at ends n).pattern_end (level_at ends n).row_end n

  -- each begins where the one before it ends, and the brackets in them are not too deep
  abbrev pub LevelsIn : ℕ → ℕ → ℕ → Type 0
  LevelsIn at start zero = Unit {0}
  LevelsIn at start (suc n) =
      (at ≤ (level_at ends n).pattern_end) × ((level_at ends n).pattern_end ≤ length terms) × (start ≤ (level_at ends n).row_end) × ((level_at ends n).row_end ≤ length terms)
      × (n + nesting (between text terms at (level_at ends n).pattern_end) ≤ 33)
      × LevelsIn (level_at ends n).pattern_end (level_at ends n).row_end n

abbrev pub levels_of : List ℕ → List ℕ → Pending → ℕ → ℕ → List (Pattern × Pattern)
levels_of text terms p at start = levels text terms p.levels at start p.count

pub record Around (text terms : List ℕ) (p : Pending) (at start : ℕ) : Type 0 where
  pub few : p.count ≤ 33
  pub long : length p.levels ≡ 33
  pub levels_in : LevelsIn text terms p.levels at start p.count

-- a pattern and a row, and the levels around them; there are places for all their variables, and for the levels of brackets in brackets
pub record LiteralAsked (text terms pattern : List ℕ) (at : ℕ) (row : List ℕ) (start : ℕ) (p : Pending) (b : Bindings) : Type 0 where
  pub asked : Asked text terms pattern at row start (coming_in (levels_of text terms p (at + length pattern) (start + length row))) b
  pub around : Around text terms p (at + length pattern) (start + length row)
  pub deep : p.count + nesting (row_of text pattern) ≤ 33

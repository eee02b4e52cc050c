-- Shadowing from the start: no variable has a value.
use Prim.Native.Nat.{ℕ, ◌≤◌, ◌<◌}
use mathlib.Core.Bool.{false}
use mathlib.Core.List.{List, [], ◌∷◌}
use mathlib.Core.Path.{◌≡◌, refl}
use lib.ListN.{length}
use Rattle.law.specs.Variables.{distinct}
use Rattle.matching.specs.Pattern.{Atom}
use Rattle.matching.specs.Match.{Values, none_bound, some_in}
use Rattle.matching.specs.Shadow.{own_values, shadows_with, shadows}
use Rattle.matching.specs.Code.Part.{row_of, Stands}
use Rattle.matching.specs.Code.Bound.{values_of, Kept}
use Rattle.matching.specs.Code.Step.{found}
use Rattle.searches.specs.Code.Capacity.{variables_in}
use Rattle.searches.specs.Code.Asked.{first_in, Asked, matched_values}
use Rattle.matching.specs.declared.Bindings.{Bindings}
use Rattle.std.specs.Prelude.{Some, None, Option as Maybe, is_some}
use Rattle.searches.proofs.CapacityLaws.{capacity_start}

module _ (text terms : List ℕ) (b : Bindings) (unbound : values_of text terms b ≡ none_bound) where
  -- there are places for all variables of the pattern
  pub shadow_start : (pattern : List ℕ) (at : ℕ) (row : List ℕ) (start : ℕ) → length terms < 65536 → Stands terms pattern at → Stands terms row start
      → distinct (variables_in (row_of text pattern)) ≤ 32 → Kept text terms b → Asked text terms pattern at row start [] b
  shadow_start pattern at row start small here there few kept = record {
    small = small;
    pattern_stands = here;
    row_stands = there;
    kept = kept;
    capacity = rw unbound (capacity_start (row_of text pattern) few);
  }

  -- there is a first match exactly when there is a match
  first_some_in : (m : Maybe Bindings) (l : List (Values Atom)) → matched_values text terms m ≡ first_in l → is_some m ≡ some_in l
  first_some_in (Some us) [] e = cc
  first_some_in (Some us) (vs ∷ l) e = refl
  first_some_in None [] e = refl
  first_some_in None (vs ∷ l) e = cc

  -- what the search answers
  pub shadow_answer_lem : (pattern row : List ℕ) (m : Maybe Bindings) → matched_values text terms m ≡ first_in (found false (row_of text pattern) (row_of text row) (values_of text terms b))
      → is_some m ≡ shadows (row_of text pattern) (row_of text row)
  unfolding shadows_with own_values
  shadow_answer_lem pattern row m e = first_some_in m (found false (row_of text pattern) (row_of text row) none_bound) (rw unbound at e)

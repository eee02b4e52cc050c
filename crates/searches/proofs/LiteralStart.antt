-- Literal matching from the start: nothing is around the pattern and the row, and no variable has a value.
use Prim.Native.Nat.{ℕ, ◌+◌, ◌≤◌, ◌<◌}
use mathlib.Core.Bool.{Bool, true}
use mathlib.Core.List.{List, []}
use mathlib.Core.Path.{◌≡◌, ◌∙◌}
use native.Mathlib.Omega.{arith}
use lib.ListN.{length}
use Rattle.law.specs.Variables.{distinct}
use Rattle.matching.specs.Match.{none_bound}
use Rattle.matching.specs.Literal.{literal_matches}
use Rattle.matching.specs.Code.Part.{row_of, literal_part, symbols_of, Stands}
use Rattle.matching.specs.Code.Bound.{values_of, Kept}
use Rattle.matching.specs.Code.Step.{found}
use Rattle.searches.specs.Code.Capacity.{variables_in}
use Rattle.searches.specs.Code.Asked.{some_holds, nesting, resume, levels, levels_of, coming_in, LiteralAsked}
use Rattle.matching.specs.declared.Bindings.{Bindings}
use Rattle.searches.specs.declared.literal.Pending.{Pending}
use Rattle.searches.proofs.CapacityLaws.{capacity_start}
use Rattle.searches.proofs.LiteralParts.{literal_found}

module _ (text terms : List ℕ) (p : Pending) (alone : p.count ≡ 0) (b : Bindings) (unbound : values_of text terms b ≡ none_bound) where
  -- no level is around
  levels_none : (at start : ℕ) → levels_of text terms p at start ≡ []
  unfolding levels
  levels_none at start = rw alone

  -- there are places for all variables of the pattern, and for all its levels of brackets
  pub literal_start : (pattern : List ℕ) (at : ℕ) (row : List ℕ) (start : ℕ) → length terms < 65536 → Stands terms pattern at → Stands terms row start
      → distinct (variables_in (row_of text pattern)) ≤ 32 → nesting (row_of text pattern) ≤ 33
      → length p.levels ≡ 33 → Kept text terms b
      → LiteralAsked text terms pattern at row start p b
  unfolding coming_in
  literal_start pattern at row start small here there few deep long kept =
      record {
        asked = record {
          small = small;
          pattern_stands = here;
          row_stands = there;
          kept = kept;
          capacity = rw (levels_none (at + length pattern) (start + length row), unbound) (capacity_start (row_of text pattern) few);
        };
        around = record { few = omega arith; long = long; levels_in = rw alone tt };
        deep = omega arith;
      }

  -- what the search answers
  pub literal_answer : (pattern : List ℕ) (at : ℕ) (row : List ℕ) (start : ℕ) (r : Bool) → literal_part row ≡ true
      → r ≡ some_holds (resume (levels_of text terms p (at + length pattern) (start + length row)))
      (found true (row_of text pattern) (row_of text row) (values_of text terms b))
      → r ≡ literal_matches (row_of text pattern) (symbols_of text row)
  literal_answer pattern at row start r h e =
      let search : r ≡ some_holds (resume []) (found true (row_of text pattern) (row_of text row) none_bound) =
      rw (levels_none (at + length pattern) (start + length row), unbound) at e in
      search ∙ literal_found text row (row_of text pattern) h

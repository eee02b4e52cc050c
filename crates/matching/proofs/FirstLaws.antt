-- What the first record of a pattern leaves to do (`Leaves` of specs/Code/Step.antt), case by case.
use Prim.Native.Nat.{ℕ, ◌≤◌}
use mathlib.Core.Bool.{Bool}
use mathlib.Core.List.{List, []}
use mathlib.Core.Path.{◌≡◌, ap, ◌∙◌}
use lib.ListN.{length, take}
use Rattle.law.specs.Runs.{end_of}
use Rattle.matching.specs.Pattern.{Atom}
use Rattle.matching.specs.Match.{Values, bound}
use Rattle.matching.specs.Code.Part.{row_of, from, Begin}
use Rattle.matching.specs.Code.Step.{found, leaves, Leaves, Free, first_variable}
use Rattle.matching.specs.declared.First.{First}
use Rattle.matching.specs.declared.First.TheVariants.{Fails, Goes, Stops}
use Rattle.matching.specs.declared.Stop.{Stop}
use Rattle.matching.specs.declared.Stop.TheVariants.{Binds}

module _ {text pattern row : List ℕ} {vs : Values Atom} {r : First} (l : Leaves text pattern row vs r) (back : Bool) where
  pub step_fails : r ≡ Fails → found back (row_of text pattern) (row_of text row) vs ≡ []
  step_fails e = l.search back ∙ ap (leaves text back pattern row vs) e

  pub step_goes : (m n : ℕ) → r ≡ Goes m n
      → found back (row_of text pattern) (row_of text row) vs ≡ found back (row_of text (from m pattern)) (row_of text (from n row)) vs
  step_goes m n e = l.search back ∙ ap (leaves text back pattern row vs) e

  -- what is known besides
  pub goes_within : (m n : ℕ) → r ≡ Goes m n → Begin pattern m × (1 ≤ m) × (n ≤ length row)
  goes_within m n e = rw e at l.within

module _ {text pattern row : List ℕ} {vs : Values Atom} {stop : Stop} (l : Leaves text pattern row vs (Stops stop)) (back : Bool) where
  pub step_binds : (n e : ℕ) (us : Values Atom) → stop ≡ Binds n → e ≡ end_of pattern → us ≡ bound (first_variable text pattern) (row_of text (take n row)) vs
      → found back (row_of text pattern) (row_of text row) vs ≡ found back (row_of text (from e pattern)) (row_of text (from n row)) us
  step_binds n e us k same values = rw (same, values) (l.search back ∙ ap (λ k. leaves text back pattern row vs (Stops k)) k)

  -- what is known besides
  pub binds_within : (n : ℕ) → stop ≡ Binds n → (n ≤ length row) × Free (row_of text pattern) (first_variable text pattern) vs
  binds_within n e = rw e at l.within

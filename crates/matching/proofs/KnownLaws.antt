-- The symbols and the variables with a value that a pattern begins with (`KnownFront` of specs/Code/Step.antt): what `known_front` has gone through.
use Prim.Native.Nat.{ℕ, ◌+◌, ◌-◌, ◌≤◌, ◌<◌}
use mathlib.Core.Bool.{Bool, false}
use mathlib.Core.List.{List, []}
use mathlib.Core.Path.{◌≡◌, ◌∙◌}
use native.Mathlib.Omega.{arith}
use lib.ListN.{length}
use Rattle.law.specs.Runs.{end_of}
use Rattle.matching.specs.Pattern.{Atom}
use Rattle.matching.specs.Match.{Values}
use Rattle.matching.specs.Code.Part.{row_of, from, Begin, at_start, one_on}
use Rattle.matching.specs.Code.Step.{found, Leaves, Passed, Stopped, KnownFront}
use Rattle.matching.specs.declared.Known.{Known}
use Rattle.matching.specs.declared.Known.TheVariants.{End, Stops as KnownStops, Fails as KnownFails}
use Rattle.matching.specs.declared.First.{First}
use Rattle.matching.specs.declared.First.TheVariants.{Goes}
use Rattle.matching.specs.declared.Stop.{Stop}
use Rattle.matching.proofs.CutLaws.{from_length, from_all, from_from, begin_inside}
use Rattle.matching.proofs.FirstLaws.{step_goes, goes_within}

-- a term begins in what is left, so it does in the whole
begin_later : {part : List ℕ} {i m : ℕ} → Begin part i → Begin (from i part) m → Begin part (i + m)
begin_later {part} {i} b at_start = let e : i ≡ i + 0 = omega arith in rw e at b
begin_later {part} {i} b (one_on {n} some c) =
    let same : from n (from i part) ≡ from (i + n) part = from_from n i part in
    let here : Begin part (i + n + end_of (from (i + n) part)) = one_on {n = i + n} (rw same at some) (begin_later b c) in
    let place : i + n + end_of (from (i + n) part) ≡ i + (n + end_of (from n (from i part))) = rw same (omega arith) in
    rw place at here

module _ (text pattern row : List ℕ) (vs : Values Atom) where
  pub passed_none : Passed text pattern row vs 0 0
  passed_none = record { begins = at_start; within = omega arith; search = λ back. rw (from_all pattern, from_all row) }

module _ {text pattern row : List ℕ} {vs : Values Atom} {i j : ℕ} (so_far : Passed text pattern row vs i j) {r : First}
    (leaves : Leaves text (from i pattern) (from j row) vs r) where
  -- the next is passed over too
  pub passed_more : (m n : ℕ) → r ≡ Goes m n → Passed text pattern row vs (i + m) (j + n)
  passed_more m n e =
      let (begins, positive, inside) = goes_within leaves false m n e in
      record {
        begins = begin_later so_far.begins begins;
        within = omega (arith, from_length j row, so_far.within);
        search = λ back. so_far.search back ∙ step_goes leaves back m n e
            ∙ rw (from_from m i pattern, from_from n j row);
      }

  pub passed_falls : (m n : ℕ) → r ≡ Goes m n → (length pattern - (i + m) < length pattern - i) × (i + m ≤ length pattern) × (j + n ≤ length row)
  passed_falls m n e =
      let (begins, positive, inside) = goes_within leaves false m n e in
      let low : m ≤ length (from i pattern) = begin_inside begins in
      let before : i ≤ length pattern = begin_inside so_far.begins in
      (omega (arith, from_length i pattern), omega (arith, from_length i pattern), omega (arith, from_length j row, so_far.within))

module _ {text pattern row : List ℕ} {vs : Values Atom} {r : Known} (known : KnownFront text pattern row vs r) where
  pub known_end : (m n : ℕ) → r ≡ End m n → Passed text pattern row vs m n × (length (from m pattern) < 24)
  known_end m n e = rw e at known.front

  pub known_stop : (m n : ℕ) (stop : Stop) → r ≡ KnownStops m n stop → Passed text pattern row vs m n × Stopped text (from m pattern) (from n row) vs stop
  known_stop m n stop e = rw e at known.front

  pub known_fails : r ≡ KnownFails → (back : Bool) → found back (row_of text pattern) (row_of text row) vs ≡ []
  known_fails e = rw e at known.front

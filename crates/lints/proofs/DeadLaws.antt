-- Lint 1 (src/dead.rt): the search for the earliest sentence that shadows another.
use Prim.Native.Nat.{ℕ, zero, suc, ◌+◌, ◌-◌, ◌≤◌, ◌<◌}
use mathlib.Core.Bool.{Bool, true, false, cond}
use mathlib.Core.List.{List, [], ◌∷◌, ◌++◌}
use mathlib.Core.Option.{Option, none, some}
use mathlib.Core.Path.{◌≡◌, refl, sym, ◌∙◌}
use native.Mathlib.Omega.{arith}
use native.Mathlib.Nat.{zero-add}
use native.Mathlib.Numerals.{add-one}
use Rattle.std.specs.Prelude.{Some, None}
use lib.ListN.{get_or}
use Rattle.file.specs.Sections.{File, file_of}
use Rattle.law.specs.Tree.{Run, no_condition}
use Rattle.law.specs.Variables.{Variable}
use Rattle.law.specs.Places.{conditions_of, first_condition, pattern_at, pattern_part}
use Rattle.law.specs.Reading.{run_of, own, conditions_from}
use Rattle.law.specs.Code.Index.{Indexed}
use Rattle.law.proofs.PlaceLaws.{condition_next}
use Rattle.matching.specs.Pattern.{Pattern}
use Rattle.matching.specs.Code.Part.{row_of}
use Rattle.matching.specs.Shadow.{shadows, shadows_with}
use Rattle.sentences.specs.Entry.{pattern_in}
use Rattle.matching.proofs.PartLaws.{row_run}
use Rattle.lints.specs.Dead.{Earlier, unconditional, earliest}
use Rattle.lints.specs.Code.Records.{conditions_at, earlier_at, earliest_from}

-- the first number of two, where there is one
abbrev pub or_else : Option ℕ → Option ℕ → Option ℕ
or_else none b = b
or_else (some n) b = some n

pub earliest_append : (valued : List Variable) (es fs : List Earlier) (later : Pattern)
    → earliest valued (es ++ fs) later ≡ or_else (earliest valued es later) (earliest valued fs later)
unfolding earliest
earliest_append valued [] fs later = refl
earliest_append valued (e ∷ es) fs later = go (shadows_with valued e.pattern later) (earliest_append valued es fs later)
  where
    go : (b : Bool) → earliest valued (es ++ fs) later ≡ or_else (earliest valued es later) (earliest valued fs later)
        → cond b (some e.number) (earliest valued (es ++ fs) later)
        ≡ or_else (cond b (some e.number) (earliest valued es later)) (earliest valued fs later)
    go true h = refl
    go false h = h

module _ (file : File) where
  -- a sentence's conditions, by their number
  no_conditions : (s : ℕ) → conditions_of file s ≡ 0 → conditions_at file s ≡ no_condition
  unfolding conditions_from
  no_conditions s e = rw e

  some_conditions : (s n : ℕ) (r : Run) → (conditions_of file s ≡ 0 → ⊥) → unconditional (conditions_at file s) n r ≡ []
  unfolding conditions_from
  some_conditions s n r h = go (conditions_of file s) h
    where
      go : (k : ℕ) → (k ≡ 0 → ⊥) → unconditional (conditions_from file (own file) s k (first_condition file s)) n r ≡ []
      go zero q = absurd (q refl)
      go (suc k) q = refl

  module _ (first : ℕ) (p : Pattern) where
    -- the earliest of n sentences from `first` on
    abbrev earliest_to : ℕ → Option ℕ
    earliest_to n = earliest [] (earlier_at file first n) p

    -- one more sentence
    earliest_next : (n : ℕ)
        → earliest_to (suc n)
        ≡ or_else (earliest_to n)
        (earliest [] (unconditional (conditions_at file (first + n)) (suc n) (run_of file (own file) (pattern_at file (first + n)) (pattern_part file (first + n)))) p)
    unfolding earlier_at
    earliest_next n = earliest_append [] (earlier_at file first n) _ p

    -- it has conditions
    pub not_by_conditions : (n : ℕ) → (conditions_of file (first + n) ≡ 0 → ⊥) → earliest_to n ≡ none → earliest_to (suc n) ≡ none
    unfolding earliest
    not_by_conditions n h e = earliest_next n ∙ rw (e, some_conditions (first + n) (suc n) _ h)

    -- it has none, and does not shadow
    pub not_by_pattern : (n : ℕ) → conditions_of file (first + n) ≡ 0 → shadows (pattern_in file (first + n)) p ≡ false → earliest_to n ≡ none → earliest_to (suc n) ≡ none
    unfolding earliest pattern_in
    not_by_pattern n z h e = earliest_next n ∙ rw (e, no_conditions (first + n) z, h)

    -- it has none, and shadows
    found_next : (n : ℕ) → conditions_of file (first + n) ≡ 0 → shadows (pattern_in file (first + n)) p ≡ true → earliest_to n ≡ none → earliest_to (suc n) ≡ some (suc n)
    unfolding earliest pattern_in
    found_next n z h e = earliest_next n ∙ rw (e, no_conditions (first + n) z, h)

    -- what was found stays
    found_stays : (k n number : ℕ) → earliest_to n ≡ some number → earliest_to (k + n) ≡ some number
    found_stays zero n number h = rw (zero-add n) h
    found_stays (suc k) n number h =
        let next : suc k + n ≡ suc (k + n) = omega arith in
        rw next (earliest_next (k + n) ∙ rw (found_stays k n number h))

    pub found_shadow : (n later : ℕ) → n < later → conditions_of file (first + n) ≡ 0 → shadows (pattern_in file (first + n)) p ≡ true → earliest_to n ≡ none
        → earliest_to later ≡ some (suc n)
    found_shadow n later l z h e =
        let whole : later ≡ (later - suc n) + suc n = omega arith in
        rw whole (found_stays (later - suc n) (suc n) (suc n) (found_next n z h e))

-- the pattern of a sentence, as the code matches it
pattern_row_lem : (file : File) (s : ℕ) → pattern_in file s ≡ row_of file.text.records (pattern_part file s)
unfolding pattern_in
pattern_row_lem file s = row_run file.text.records (own file) (pattern_at file s) (pattern_part file s)

-- no sentence yet
pub search_starts : (file : File) (first : ℕ) (p : Pattern) → earliest [] (earlier_at file first 0) p ≡ none
unfolding earliest earlier_at
search_starts file first p = refl

-- the sentence at place i, with the first conditions b of it and a of the next
module _ {bytes index : List ℕ} (indexed : Indexed bytes index) (first later i a b : ℕ) (inside : first + later < (file_of bytes).sentences.count)
    (more : i < later) (next : a ≡ get_or index (73 + (first + i + 1)) 0) (start : b ≡ get_or index (73 + (first + i)) 0) where
  conditions_read : a ≡ b + conditions_of (file_of bytes) (first + i)
  conditions_read =
      let s : ℕ = first + i in
      let step : first + i + 1 ≡ suc s = add-one s in
      let from : b ≡ first_condition (file_of bytes) s = start ∙ indexed.words.first_conditions s (omega arith) in
      let to : a ≡ first_condition (file_of bytes) (suc s) = rw step at next ∙ indexed.words.first_conditions (suc s) (omega arith) in
      to ∙ condition_next (file_of bytes) s ∙ rw from

  pub conditions_grow : b ≤ a
  conditions_grow = omega (arith, conditions_read)

  conditions_number : a - b ≡ conditions_of (file_of bytes) (first + i)
  conditions_number = omega (arith, conditions_read)

  abbrev earliest_in : ℕ → Option ℕ
  earliest_in n = earliest [] (earlier_at (file_of bytes) first n) (pattern_in (file_of bytes) (first + later))

  -- the answer of the matcher
  abbrev answered : Bool
  answered =
      shadows (row_of (file_of bytes).text.records (pattern_part (file_of bytes) (first + i)))
      (row_of (file_of bytes).text.records (pattern_part (file_of bytes) (first + later)))

  answer_is : {r : Bool} → r ≡ answered → shadows (pattern_in (file_of bytes) (first + i)) (pattern_in (file_of bytes) (first + later)) ≡ r
  answer_is {r} h = rw (pattern_row_lem (file_of bytes) (first + i), pattern_row_lem (file_of bytes) (first + later)) (sym h)

  pub again_conditions : (a - b ≡ 0 → ⊥) → earliest_in i ≡ none → earliest_in (i + 1) ≡ none
  again_conditions h e = rw (add-one i) (not_by_conditions (file_of bytes) first _ i (λ z. h (conditions_number ∙ z)) e)

  pub again_pattern : {r : Bool} → a - b ≡ 0 → r ≡ answered → r ≡ false → earliest_in i ≡ none → earliest_in (i + 1) ≡ none
  again_pattern z h f e = rw (add-one i) (not_by_pattern (file_of bytes) first _ i (sym conditions_number ∙ z) (answer_is h ∙ f) e)

  pub shadow_found : {r : Bool} → a - b ≡ 0 → r ≡ answered → r ≡ true → earliest_in i ≡ none → earliest_from (Some (i + 1)) ≡ earliest_in later
  shadow_found z h f e = rw (found_shadow (file_of bytes) first _ i later more (sym conditions_number ∙ z) (answer_is h ∙ f) e, add-one i)

-- no sentence is left
pub search_ends : (file : File) (first later i : ℕ) (p : Pattern) → later ≤ i → i ≤ later → earliest [] (earlier_at file first i) p ≡ none
    → earliest_from None ≡ earliest [] (earlier_at file first later) p
search_ends file first later i p h k e = let same : later ≡ i = omega arith in rw (same, e)

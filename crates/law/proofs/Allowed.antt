-- What the refusals leave of a file's sentences: their runs fit, their blocks come later, and their patterns have few variables.
use Prim.Native.Nat.{ℕ, suc, ◌+◌, ◌-◌, ◌≤◌, ◌<◌}
use mathlib.Core.List.{List}
use mathlib.Core.Bool.{Bool, true, false, ◌||◌}
use mathlib.Core.Path.{◌≡◌, refl}
use native.Mathlib.Omega.{arith}
use lib.Dec.{eqb, ltb, leb}
use borrow.Author.Tests.{eqb-true, ltb-true, leb-true}
use Rattle.file.specs.Below.{every}
use Rattle.file.specs.Sections.{File, file_of}
use Rattle.file.proofs.SectionLaws.{sections_records}
use Rattle.file.proofs.Below.{both_first, both_second, every_at}
use Rattle.law.specs.Code.Index.{Readable}
use Rattle.law.specs.Places.{
  conditions_of,
  block_size,
  block_first,
  first_condition,
  pattern_at,
  pattern_part,
  result_part,
  condition_result_part,
  condition_pattern_part,
}
use Rattle.law.specs.Runs.{run_fits, condition_fits, sentence_fits, used_up, runs_allowed, block_later, sentence_blocks, blocks_allowed}
use Rattle.law.specs.Variables.{distinct, pattern_variables, patterns_allowed}
use Rattle.law.specs.Code.Accepted.{Accepted}
use Rattle.law.proofs.Tests.{three_hold}
use Rattle.law.proofs.PlaceLaws.{condition_next}

pub accepted_readable : (bytes : List ℕ) → Accepted bytes → Readable (file_of bytes)
accepted_readable bytes a = record { whole = (sections_records bytes (file_of bytes) a.sections).4; fields = a.fields; runs = a.runs; blocks = a.blocks }

-- one of two tests holds, and the first says that a number is 0
pub later_unless : (n : ℕ) (test : Bool) → eqb n 0 || test ≡ true → 0 < n → test ≡ true
later_unless n test h some = go (eqb n 0) refl h
  where
    go : (none : Bool) → eqb n 0 ≡ none → none || test ≡ true → test ≡ true
    go true e h = let z : n ≡ 0 = eqb-true n 0 e in absurd (omega arith)
    go false e h = h

module _ (file : File) (runs : runs_allowed file ≡ true) where
  -- sections 3, 4 and 5 are used up exactly
  pub all_used : used_up file ≡ true
  unfolding runs_allowed
  all_used = both_first (used_up file) (every file.sentences.count (sentence_fits file)) runs

  module _ (s : ℕ) (inside : s < file.sentences.count) where
    sentence_fits_lem :
        (run_fits (pattern_part file s) ≡ true)
        × (every (conditions_of file s) (λ i. condition_fits file s (first_condition file s + i)) ≡ true)
        × (run_fits (result_part file s) ≡ true)
    unfolding runs_allowed
    sentence_fits_lem =
        three_hold
        (run_fits (pattern_part file s))
        (every (conditions_of file s) (λ i. condition_fits file s (first_condition file s + i)))
        (run_fits (result_part file s))
        (every_at file.sentences.count (sentence_fits file) s
        (both_second (used_up file) (every file.sentences.count (sentence_fits file)) runs)
        inside)

    -- the runs of a sentence fit
    pub pattern_fits : run_fits (pattern_part file s) ≡ true
    pattern_fits = sentence_fits_lem.0

    pub result_fits : run_fits (result_part file s) ≡ true
    result_fits = sentence_fits_lem.2

    condition_fits_lem : (c : ℕ) → first_condition file s ≤ c → c < first_condition file (suc s) → condition_fits file s c ≡ true
    condition_fits_lem c low high =
        let place : first_condition file s + (c - first_condition file s) ≡ c = omega arith in
        rw place at
        (every_at (conditions_of file s) (λ i. condition_fits file s (first_condition file s + i)) (c - first_condition file s)
        sentence_fits_lem.1
        (omega (arith, condition_next file s)))

    pub condition_result_fits : (c : ℕ) → first_condition file s ≤ c → c < first_condition file (suc s)
        → run_fits (condition_result_part file s c) ≡ true
    condition_result_fits c low high = both_first (run_fits (condition_result_part file s c)) (run_fits (condition_pattern_part file s c)) (condition_fits_lem c low high)

    pub condition_pattern_fits : (c : ℕ) → first_condition file s ≤ c → c < first_condition file (suc s)
        → run_fits (condition_pattern_part file s c) ≡ true
    condition_pattern_fits c low high =
        both_second (run_fits (condition_result_part file s c)) (run_fits (condition_pattern_part file s c)) (condition_fits_lem c low high)

module _ (file : File) (blocks : blocks_allowed file ≡ true) (s : ℕ) (inside : s < file.sentences.count)
    (t : ℕ) (low : pattern_at file s ≤ t) (high : t < pattern_at file (suc s)) where
  -- a term record of a sentence
  pub block_later_lem : block_later file s t ≡ true
  unfolding blocks_allowed
  block_later_lem =
      let place : pattern_at file s + (t - pattern_at file s) ≡ t = omega arith in
      rw place at
      (every_at (pattern_at file (suc s) - pattern_at file s) (λ i. block_later file s (pattern_at file s + i)) (t - pattern_at file s)
      (every_at file.sentences.count (sentence_blocks file) s blocks inside)
      (omega arith))

  -- a block with sentences: its first is later than the sentence that it stands in
  pub block_after : 0 < block_size file t → s < block_first file t
  block_after some = ltb-true s (block_first file t) (later_unless (block_size file t) (ltb s (block_first file t)) block_later_lem some)

-- the variables of a sentence's pattern
pub variables_few : (file : File) → patterns_allowed file ≡ true → (s : ℕ) → s < file.sentences.count → distinct (pattern_variables file s) ≤ 32
unfolding patterns_allowed
variables_few file patterns s inside =
    leb-true (distinct (pattern_variables file s)) 32
    (every_at file.sentences.count (λ s. leb (distinct (pattern_variables file s)) 32) s patterns inside)

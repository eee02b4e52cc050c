-- Rows 6 and 7 of the table.
-- 6: "n passes its enclosing run, or section 3, 4 or 5 is not used up exactly". 7: "a block has sentences and its first is not later than the one it stands in".
-- docs/SPECIFICATION.md, 1.5, 1.6, 2.3, 2.4.
use Rattle.std.specs.Prelude.{ℕ, suc, ◌+◌, ◌*◌, ◌-◌, min, List, Bool, true, ◌&&◌, ◌||◌, length, leb, ltb, eqb}
use Rattle.file.specs.Word.{word_at}
use Rattle.file.specs.Below.{every}
use Rattle.file.specs.Sections.{File}
use Rattle.file.specs.Forest.{Forest, end, node, forest_of}
use Rattle.law.specs.Places.{block_size, block_first, first_condition, conditions_of, pattern_at, pattern_part, result_part, condition_result_part, condition_pattern_part}

-- where the contents of a run's first record end: the n records after it, or the run's end
unfoldable pub end_of : List ℕ → ℕ
end_of s = min (24 + 24 * word_at s 12) (length s)

-- the bytes of a run of term records, as a forest
abbrev pub term_forest : List ℕ → Forest
term_forest = forest_of 24 end_of

-- no record's n passes the run that the record stands in
unfoldable pub fits : Forest → Bool
fits end = true
fits (node s inside after) = leb (24 + 24 * word_at s 12) (length s) && fits inside && fits after

abbrev pub run_fits : List ℕ → Bool
run_fits s = fits (term_forest s)

module _ (file : File) where
  -- both runs of a condition c of a sentence s
  abbrev pub condition_fits : ℕ → ℕ → Bool
  condition_fits s c = run_fits (condition_result_part file s c) && run_fits (condition_pattern_part file s c)

  -- all runs of a sentence
  abbrev pub sentence_fits : ℕ → Bool
  sentence_fits s =
      run_fits (pattern_part file s)
      && every (conditions_of file s) (λ i. condition_fits s (first_condition file s + i))
      && run_fits (result_part file s)

  -- sections 3, 4 and 5 are used up exactly
  unfoldable pub used_up : Bool
  used_up =
      eqb (block_first file file.terms.count) file.sentences.count
      && eqb (first_condition file file.sentences.count) file.conditions.count
      && eqb (pattern_at file file.sentences.count) file.terms.count

  -- row 6
  unfoldable pub runs_allowed : Bool
  runs_allowed = used_up && every file.sentences.count sentence_fits

  -- the term record t, which stands in the sentence s, is no block with sentences, or its first sentence is later than s
  abbrev pub block_later : ℕ → ℕ → Bool
  block_later s t = eqb (block_size file t) 0 || ltb s (block_first file t)

  -- all term records of a sentence
  abbrev pub sentence_blocks : ℕ → Bool
  sentence_blocks s = every (pattern_at file (suc s) - pattern_at file s) (λ i. block_later s (pattern_at file s + i))

  -- row 7
  unfoldable pub blocks_allowed : Bool
  blocks_allowed = every file.sentences.count sentence_blocks

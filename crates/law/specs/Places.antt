-- Where things stand in a file. Document 01: "Sentences stand function by function, then block by block in record order.
-- Terms stand sentence by sentence: pattern, each condition's result and pattern, result." Records are counted from 0 in each section.
-- docs/SPECIFICATION.md, 1.11, 1.12.
use Rattle.std.specs.Prelude.{ℕ, suc, ◌+◌, ◌*◌, List, cond, take, drop, eqb}
use Rattle.file.specs.Word.{word_at}
use Rattle.file.specs.Below.{total}
use Rattle.file.specs.Sections.{File}

module _ (file : File) where
  -- a function's number of sentences
  abbrev pub sentences_of : ℕ → ℕ
  sentences_of f = word_at file.functions.records (20 * f + 8)

  -- of a sentence: its pattern's records, its conditions, its result's records
  abbrev pub pattern_size : ℕ → ℕ
  pattern_size s = word_at file.sentences.records (20 * s)

  abbrev pub conditions_of : ℕ → ℕ
  conditions_of s = word_at file.sentences.records (20 * s + 4)

  abbrev pub result_size : ℕ → ℕ
  result_size s = word_at file.sentences.records (20 * s + 8)

  -- of a condition: its result's records, its pattern's records
  abbrev pub condition_result_size : ℕ → ℕ
  condition_result_size c = word_at file.conditions.records (16 * c)

  abbrev pub condition_pattern_size : ℕ → ℕ
  condition_pattern_size c = word_at file.conditions.records (16 * c + 4)

  -- a term record's number of sentences, 0 where it is no block
  abbrev pub block_size : ℕ → ℕ
  block_size t = cond (eqb (word_at file.terms.records (24 * t)) 8) (word_at file.terms.records (24 * t + 4)) 0

  -- the first sentence of a function, and of the block at a term record
  unfoldable pub first_sentence : ℕ → ℕ
  first_sentence f = total f sentences_of

  unfoldable pub block_first : ℕ → ℕ
  block_first t = first_sentence file.functions.count + total t block_size

  -- the first condition of a sentence
  unfoldable pub first_condition : ℕ → ℕ
  first_condition s = total s conditions_of

  -- the records of the patterns and results of the sentences before s, and of the conditions before c
  abbrev pub sentence_records : ℕ → ℕ
  sentence_records s = total s (λ i. pattern_size i + result_size i)

  abbrev pub condition_records : ℕ → ℕ
  condition_records c = total c (λ i. condition_result_size i + condition_pattern_size i)

  -- the first term record of a sentence's pattern, of the result of a condition c of a sentence s, and of a sentence's result
  unfoldable pub pattern_at : ℕ → ℕ
  pattern_at s = sentence_records s + condition_records (first_condition s)

  unfoldable pub condition_result_at : ℕ → ℕ → ℕ
  condition_result_at s c = sentence_records s + pattern_size s + condition_records c

  unfoldable pub result_at : ℕ → ℕ
  result_at s = sentence_records s + pattern_size s + condition_records (first_condition (suc s))

  -- the bytes of so many term records from one on
  abbrev pub terms_at : ℕ → ℕ → List ℕ
  terms_at at count = take (24 * count) (drop (24 * at) file.terms.records)

  -- a sentence's pattern and result; the result and the pattern of a condition c of a sentence s
  unfoldable pub pattern_part : ℕ → List ℕ
  pattern_part s = terms_at (pattern_at s) (pattern_size s)

  unfoldable pub result_part : ℕ → List ℕ
  result_part s = terms_at (result_at s) (result_size s)

  unfoldable pub condition_result_part : ℕ → ℕ → List ℕ
  condition_result_part s c = terms_at (condition_result_at s c) (condition_result_size c)

  unfoldable pub condition_pattern_part : ℕ → ℕ → List ℕ
  condition_pattern_part s c = terms_at (condition_result_at s c + condition_result_size c) (condition_pattern_size c)

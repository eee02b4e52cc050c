-- The index of a file: 972 words that say where things stand, filled once, so that no lookup goes through the file again.
--   0 to 3     the byte positions of the records of functions, sentences, conditions and terms
--   4 to 7     their numbers
--   8 + f      the first sentence of function f, up to the number of functions
--   73 + s     the first condition of sentence s, up to the number of sentences
--   202 + c    the term records of the conditions before c, up to the number of conditions
--   331 + s    the term records of the patterns and results of the sentences before s, up to the number of sentences
--   460 + t    the first sentence of the block at term record t, below the number of terms
use Rattle.std.specs.Prelude.{ℕ, ◌+◌, ◌*◌, ◌≤◌, ◌<◌, List, true, ◌≡◌, length, get_or}
use Rattle.file.specs.Answer.{given}
use Rattle.file.specs.Sections.{File, sections_of, file_of}
use Rattle.file.specs.Fields.{fields_allowed}
use Rattle.law.specs.Places.{first_sentence, first_condition, condition_records, sentence_records, block_first, terms_at}
use Rattle.law.specs.Runs.{used_up, run_fits, runs_allowed, blocks_allowed}

-- the byte positions of the records of sections 2 to 5
abbrev pub functions_start : File → ℕ
functions_start file = 8 + file.text.count

abbrev pub sentences_start : File → ℕ
sentences_start file = 12 + file.text.count + 20 * file.functions.count

abbrev pub conditions_start : File → ℕ
conditions_start file = 16 + file.text.count + 20 * file.functions.count + 20 * file.sentences.count

abbrev pub terms_start : File → ℕ
terms_start file = 20 + file.text.count + 20 * file.functions.count + 20 * file.sentences.count + 16 * file.conditions.count

-- the words of an index, for a file whose sections are used up exactly
pub record IndexOf (file : File) (index : List ℕ) : Type 0 where
  pub functions_at : get_or index 0 0 ≡ functions_start file
  pub sentences_at : get_or index 1 0 ≡ sentences_start file
  pub conditions_at : get_or index 2 0 ≡ conditions_start file
  pub records_at : get_or index 3 0 ≡ terms_start file
  pub functions : get_or index 4 0 ≡ file.functions.count
  pub sentences : get_or index 5 0 ≡ file.sentences.count
  pub conditions : get_or index 6 0 ≡ file.conditions.count
  pub terms : get_or index 7 0 ≡ file.terms.count
  pub first_sentences : (f : ℕ) → f ≤ file.functions.count → get_or index (8 + f) 0 ≡ first_sentence file f
  pub first_conditions : (s : ℕ) → s ≤ file.sentences.count → get_or index (73 + s) 0 ≡ first_condition file s
  pub condition_terms : (c : ℕ) → c ≤ file.conditions.count → get_or index (202 + c) 0 ≡ condition_records file c
  pub sentence_terms : (s : ℕ) → s ≤ file.sentences.count → get_or index (331 + s) 0 ≡ sentence_records file s
  pub blocks : (t : ℕ) → t < file.terms.count → get_or index (460 + t) 0 ≡ block_first file t

-- bytes that are cut into sections, used up exactly, and their index
pub record Indexed (bytes index : List ℕ) : Type 0 where
  pub sections : sections_of bytes ≡ given (file_of bytes)
  pub used : used_up (file_of bytes) ≡ true
  pub words : IndexOf (file_of bytes) index

-- a file that refusals 1 to 7 let pass
pub record Readable (file : File) : Type 0 where
  pub whole : length file.terms.records ≡ 24 * file.terms.count
  pub fields : fields_allowed file ≡ true
  pub runs : runs_allowed file ≡ true
  pub blocks : blocks_allowed file ≡ true

-- a part of the term records that is a run or the rest of one: its first record, and their number
pub record PartAt (file : File) (at : ℕ) (bytes : List ℕ) : Type 0 where
  pub count : ℕ
  pub inside : at + count ≤ file.terms.count
  pub same : bytes ≡ terms_at file at count
  pub fit : run_fits bytes ≡ true

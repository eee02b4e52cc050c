-- How an index is filled: what the contracts of the functions that fill it say, table by table.
use Rattle.std.specs.Prelude.{ℕ, ◌+◌, ◌*◌, ◌≤◌, ◌<◌, ◌%◌, List, [], ◌∷◌, cond, ◌≡◌, take, get_or, eqb}
use Rattle.file.specs.Word.{word_at}
use Rattle.file.specs.Below.{total}
use Rattle.file.specs.Sections.{File}
use Rattle.file.specs.Code.Counts.{counts_of}
use Rattle.file.specs.declared.Sections.{Sections}
use Rattle.law.specs.Places.{first_sentence, first_condition, condition_records, sentence_records, block_first}

-- a table of n words from a place on, in a list that is otherwise as it was
pub record Table (before after : List ℕ) (from n : ℕ) (f : ℕ → ℕ) : Type 0 where
  pub inside : (i : ℕ) → i < n → get_or after (from + i) 0 ≡ f i
  pub below : (j : ℕ) → j < from → get_or after j 0 ≡ get_or before j 0
  pub above : (j : ℕ) → from + n ≤ j → get_or after j 0 ≡ get_or before j 0

-- what the tables hold: the sums of a word of each record, and of two words of each record, over the first n records
abbrev pub word_sum : (records : List ℕ) (size at : ℕ) → ℕ → ℕ
word_sum records size at n = total n (λ i. word_at records (size * i + at))

abbrev pub pair_sum : (records : List ℕ) (size second : ℕ) → ℕ → ℕ
pair_sum records size second n = total n (λ i. word_at records (size * i) + word_at records (size * i + second))

-- the number of sentences of the term record t, 0 where it is no block, and the sum over the first n records
abbrev pub block_word : (terms : List ℕ) → ℕ → ℕ
block_word terms t = cond (eqb (word_at terms (24 * t)) 8) (word_at terms (24 * t + 4)) 0

abbrev pub block_sum : (terms : List ℕ) → ℕ → ℕ
block_sum terms n = total n (block_word terms)

-- a number as a word of the index holds it
abbrev pub as_word : ℕ → ℕ
as_word n = n % 65536

-- the tables of an index, whether or not the sections are used up
pub record TablesOf (file : File) (index : List ℕ) : Type 0 where
  pub first_sentences : (f : ℕ) → f ≤ file.functions.count → get_or index (8 + f) 0 ≡ as_word (first_sentence file f)
  pub first_conditions : (s : ℕ) → s ≤ file.sentences.count → get_or index (73 + s) 0 ≡ as_word (first_condition file s)
  pub condition_terms : (c : ℕ) → c ≤ file.conditions.count → get_or index (202 + c) 0 ≡ as_word (condition_records file c)
  pub sentence_terms : (s : ℕ) → s ≤ file.sentences.count → get_or index (331 + s) 0 ≡ as_word (sentence_records file s)
  pub blocks : (t : ℕ) → t < file.terms.count → get_or index (460 + t) 0 ≡ as_word (block_first file t)

-- the first eight words of an index
abbrev pub header : Sections → List ℕ
header s =
    (8 + s.text)
    ∷ (12 + s.text + 20 * s.functions)
    ∷ (16 + s.text + 20 * s.functions + 20 * s.sentences)
    ∷ (20 + s.text + 20 * s.functions + 20 * s.sentences + 16 * s.conditions)
    ∷ s.functions
    ∷ s.sentences
    ∷ s.conditions
    ∷ s.terms
    ∷ []

-- the words that an index is filled with: its header, and the tables
pub record Placed (file : File) (index : List ℕ) : Type 0 where
  pub begins : take 8 index ≡ header (counts_of file)
  pub tables : TablesOf file index

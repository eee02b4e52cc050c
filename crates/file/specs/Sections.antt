-- Document 01, "The law file": "Five sections in fixed order, each after its count. [..] File at most 16,384 bytes."
-- 1. Text, at most 4,096 bytes. 2. Functions, at most 64, five words. 3. Sentences, at most 128, five words.
-- 4. Conditions, at most 128, four words. 5. Terms, at most 512, six words.
-- docs/SPECIFICATION.md, 1.1, 1.3, 1.4, 2.1.
use Rattle.std.specs.Prelude.{ℕ, zero, ◌+◌, ◌*◌, ◌-◌, List, length, take, drop, ltb, Result, Ok, Err}
use Rattle.file.specs.Word.{word_at}
use Rattle.file.specs.Answer.{Answer, refused, given, refuse_if, ◌>>=◌, ◌>>◌}
use Rattle.file.specs.declared.Refusal.{Refusal}
use Rattle.file.specs.declared.Refusal.TheVariants.{FileOver, CutOff, LeftOver, CountOver, Fields, Runs, Blocks, Depth, Patterns}

-- a section: the number of its records, and their bytes
pub record Section : Type 0 where
  pub count : ℕ
  pub records : List ℕ

-- the section that stands first in these bytes, and the bytes after it. "2: count or records cut off; 4: count over its limit, looked at between"
unfoldable pub section : (limit size : ℕ) → List ℕ → Answer (Section × List ℕ)
section limit size s = do
  refuse_if 2 (ltb (length s) 4)
  refuse_if 4 (ltb limit (word_at s 0))
  refuse_if 2 (ltb (length s - 4) (size * word_at s 0))
  given (record { count = word_at s 0; records = take (size * word_at s 0) (drop 4 s) }, drop (4 + size * word_at s 0) s)

-- a law file, cut into its sections
pub record File : Type 0 where
  pub text : Section
  pub functions : Section
  pub sentences : Section
  pub conditions : Section
  pub terms : Section

-- rows 1, 2 and 4, and 3 of the table
unfoldable pub sections_of : List ℕ → Answer File
sections_of bytes = do
  refuse_if 1 (ltb 16384 (length bytes))
  (text, after_text) ← section 4096 1 bytes
  (functions, after_functions) ← section 64 20 after_text
  (sentences, after_sentences) ← section 128 20 after_functions
  (conditions, after_conditions) ← section 128 16 after_sentences
  (terms, after_terms) ← section 512 24 after_conditions
  refuse_if 3 (ltb zero (length after_terms))
  given (record { text = text; functions = functions; sentences = sentences; conditions = conditions; terms = terms })

-- document 01's number of each refusal of a file
abbrev pub number_of : Refusal → ℕ
number_of FileOver = 1
number_of CutOff = 2
number_of LeftOver = 3
number_of CountOver = 4
number_of Fields = 5
number_of Runs = 6
number_of Blocks = 7
number_of Depth = 8
number_of Patterns = 9

-- what the code answers, as an `Answer`: a refusal by its number
abbrev pub answer_of : {A : Type 0} → Result A Refusal → Answer A
answer_of (Err why) = refused (number_of why)
answer_of (Ok a) = given a

-- so many bytes from a position on
abbrev pub part : ℕ → ℕ → List ℕ → List ℕ
part start len s = take len (drop start s)

-- the file that bytes are where no section is cut off, whatever its counts say
unfoldable pub file_of : List ℕ → File
file_of bytes =
    let texts : ℕ = word_at bytes 0 in
    let functions : ℕ = word_at bytes (4 + texts) in
    let sentences : ℕ = word_at bytes (8 + texts + 20 * functions) in
    let conditions : ℕ = word_at bytes (12 + texts + 20 * functions + 20 * sentences) in
    let terms : ℕ = word_at bytes (16 + texts + 20 * functions + 20 * sentences + 16 * conditions) in
    record {
      text = record { count = texts; records = part 4 texts bytes };
      functions = record { count = functions; records = part (8 + texts) (20 * functions) bytes };
      sentences = record { count = sentences; records = part (12 + texts + 20 * functions) (20 * sentences) bytes };
      conditions = record { count = conditions; records = part (16 + texts + 20 * functions + 20 * sentences) (16 * conditions) bytes };
      terms = record { count = terms; records = part (20 + texts + 20 * functions + 20 * sentences + 16 * conditions) (24 * terms) bytes };
    }

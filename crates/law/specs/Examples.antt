-- Small law files, decoded or refused. The text of the first two is the law as it is written, so that names and spans are places in it.
use Rattle.std.specs.Prelude.{ℕ, zero, suc, ◌/◌, ◌%◌, ◌≡◌, refl, length}
use Prim.Native.String.{String}
use mathlib.Core.List.{List, [], ◌∷◌, ◌++◌, map, flat_map}
use Rattle.file.specs.Answer.{refused, given}
use Rattle.file.specs.Word.{word_at}
use Rattle.file.specs.Below.{every, total}
use Rattle.file.specs.Sections.{section, sections_of}
use Rattle.file.specs.Fields.{fields_allowed, term_allowed, spelled}
use Rattle.file.specs.Forest.{decode, forest_of}
use Rattle.file.specs.Head.{term_at, term_from}
use Rattle.names.specs.Name.{every_byte, same_bytes}
unfoldable pub use Rattle.law.specs.Text.{bytes_of}
use Rattle.law.specs.Tree.{Name, character, number, symbol_kind, expression_kind, Mark, Run, empty, symbol, variable, bracket, call, block, no_sentence, sentence, no_condition, condition, Law, keep, skip}
use Rattle.law.specs.Places.{first_sentence, block_first, first_condition, pattern_at, condition_result_at, result_at, pattern_part, result_part, condition_result_part, condition_pattern_part}
use Rattle.law.specs.Runs.{end_of, fits, used_up, runs_allowed, blocks_allowed}
use Rattle.law.specs.Reading.{forest_run, conditions_from, sentences_from, functions_from, tree_of}
use Rattle.law.specs.Depth.{deepest, depth_of}
use Rattle.law.specs.Variables.{variables_from, occurs, distinct, patterns_allowed}
use Rattle.law.specs.Law.{law_of, check_of}

-- a word, least byte first
abbrev pub word : ℕ → List ℕ
word n = n % 256 ∷ n / 256 % 256 ∷ n / 65536 % 256 ∷ n / 16777216 % 256 ∷ []

-- the words of a function record: name start and length, number of sentences, span
abbrev pub function_words : ℕ → ℕ → ℕ → ℕ → ℕ → List ℕ
function_words start len sentences span_start span_end = start ∷ len ∷ sentences ∷ span_start ∷ span_end ∷ []

-- of a sentence record: records of the pattern, conditions, records of the result, span
abbrev pub sentence_words : ℕ → ℕ → ℕ → ℕ → ℕ → List ℕ
sentence_words pattern conditions result span_start span_end = pattern ∷ conditions ∷ result ∷ span_start ∷ span_end ∷ []

-- of a condition record: records of the result and of the pattern, span
abbrev pub condition_words : ℕ → ℕ → ℕ → ℕ → List ℕ
condition_words result pattern span_start span_end = result ∷ pattern ∷ span_start ∷ span_end ∷ []

-- of a term record: kind, a, b, n, span
abbrev pub term_words : ℕ → ℕ → ℕ → ℕ → ℕ → ℕ → List ℕ
term_words kind a b n span_start span_end = kind ∷ a ∷ b ∷ n ∷ span_start ∷ span_end ∷ []

-- a section of records after its count
abbrev pub section_bytes : List (List ℕ) → List ℕ
section_bytes records = word (length records) ++ flat_map (flat_map word) records

-- a file: text, functions, sentences, conditions, terms
abbrev pub file_bytes : String → List (List ℕ) → List (List ℕ) → List (List ℕ) → List (List ℕ) → List ℕ
file_bytes text functions sentences conditions terms =
    word (length (bytes_of text)) ++ bytes_of text
    ++ section_bytes functions ++ section_bytes sentences ++ section_bytes conditions ++ section_bytes terms

-- a name that is spelled at a place of the text, and the mark of a record
abbrev pub named : ℕ → String → Name
named start s = record { start = start; spelled = bytes_of s }

abbrev pub marked : ℕ → ℕ → ℕ → Mark
marked at span_start span_end = record { at = at; span_start = span_start; span_end = span_end }

-- document 01's example of a listing
abbrev pub example_file : List ℕ
example_file =
    file_bytes "F { e.X = 'a'; s.A = <F 1>; } H { 'q' = <H 2>; }"
    (function_words 0 1 2 0 29
    ∷ function_words 30 1 1 30 48
    ∷ [])
    (sentence_words 1 0 1 4 13
    ∷ sentence_words 1 0 2 15 26
    ∷ sentence_words 1 0 2 34 45
    ∷ [])
    []
    (term_words 5 6 1 0 4 7
    ∷ term_words 0 97 0 0 10 13
    ∷ term_words 3 17 1 0 15 18
    ∷ term_words 7 22 1 1 21 26
    ∷ term_words 2 24 1 0 24 25
    ∷ term_words 0 113 0 0 34 37
    ∷ term_words 7 41 1 1 40 45
    ∷ term_words 2 43 1 0 43 44
    ∷ [])

abbrev pub example_law : Law
example_law =
    record {
      name = named 0 "F";
      sentences =
          sentence (marked 0 4 13) (variable expression_kind (named 6 "X") empty) no_condition (symbol (character 97) empty)
          (sentence (marked 1 15 26) (variable symbol_kind (named 17 "A") empty) no_condition
          (call (marked 3 21 26) (named 22 "F") (symbol (number (named 24 "1")) empty) empty)
          no_sentence);
    }
    ∷ record {
      name = named 30 "H";
      sentences =
          sentence (marked 2 34 45) (symbol (character 113) empty) no_condition
          (call (marked 6 40 45) (named 41 "H") (symbol (number (named 43 "2")) empty) empty)
          no_sentence;
    }
    ∷ []

-- a block in a result, and a condition: the block's sentences are records 1 and 2, after the function's own
abbrev pub with_block : List ℕ
with_block =
    file_bytes "F { s.A e.X, <G s.A> : s.C = [e.X : s.A = 1; s.B = 2;]; }"
    (function_words 0 1 1 0 57 ∷ [])
    (sentence_words 2 1 2 4 54
    ∷ sentence_words 1 0 1 36 43
    ∷ sentence_words 1 0 1 45 52
    ∷ [])
    (condition_words 2 1 13 26 ∷ [])
    (term_words 3 6 1 0 4 7
    ∷ term_words 5 10 1 0 8 11
    ∷ term_words 7 14 1 1 13 20
    ∷ term_words 3 18 1 0 16 19
    ∷ term_words 3 25 1 0 23 26
    ∷ term_words 8 2 0 1 29 54
    ∷ term_words 5 32 1 0 30 33
    ∷ term_words 3 38 1 0 36 39
    ∷ term_words 2 42 1 0 42 43
    ∷ term_words 3 47 1 0 45 48
    ∷ term_words 2 51 1 0 51 52
    ∷ [])

abbrev pub with_block_law : Law
with_block_law =
    record {
      name = named 0 "F";
      sentences =
          sentence (marked 0 4 54)
          (variable symbol_kind (named 6 "A") (variable expression_kind (named 10 "X") empty))
          (condition (call (marked 2 13 20) (named 14 "G") (variable symbol_kind (named 18 "A") empty) empty)
          (variable symbol_kind (named 25 "C") empty)
          no_condition)
          (block (marked 5 29 54) (variable expression_kind (named 32 "X") empty)
          (sentence (marked 1 36 43) (variable symbol_kind (named 38 "A") empty) no_condition (symbol (number (named 42 "1")) empty)
          (sentence (marked 2 45 52) (variable symbol_kind (named 47 "B") empty) no_condition (symbol (number (named 51 "2")) empty)
          no_sentence))
          empty)
          no_sentence;
    }
    ∷ []

-- one term that no sentence has, of a kind that is allowed or not: 6 alone, and 5 before 6
abbrev pub unused_term : ℕ → List ℕ
unused_term kind = file_bytes "" [] [] [] (term_words kind 0 0 0 0 0 ∷ [])

-- a block whose one sentence is the one that it stands in
abbrev pub own_sentence : List ℕ
own_sentence = file_bytes "F" (function_words 0 1 0 0 0 ∷ []) (sentence_words 0 0 1 0 0 ∷ []) [] (term_words 8 1 0 0 0 0 ∷ [])

-- so many brackets around some records, as the pattern of the one sentence of `F`: the file, and its tree
unfoldable pub nested_terms : ℕ → List (List ℕ) → List (List ℕ)
nested_terms zero inside = inside
nested_terms (suc n) inside = let terms : List (List ℕ) = nested_terms n inside in term_words 6 0 0 (length terms) 0 0 ∷ terms

unfoldable pub nested : ℕ → Run → Run
nested zero inside = inside
nested (suc n) inside = bracket (nested n inside) empty

abbrev pub nested_file : ℕ → List (List ℕ) → List ℕ
nested_file n inside =
    let terms : List (List ℕ) = nested_terms n inside in
    file_bytes "F" (function_words 0 1 1 0 0 ∷ []) (sentence_words (length terms) 0 0 0 0 ∷ []) [] terms

abbrev pub nested_law : ℕ → Run → Law
nested_law n inside = record { name = named 0 "F"; sentences = sentence (marked 0 0 0) (nested n inside) no_condition empty no_sentence } ∷ []

-- so many s. variables, whose indices are the bytes of the text, as the pattern of the one sentence of `A`
unfoldable pub variable_terms : ℕ → ℕ → List (List ℕ)
variable_terms zero at = []
variable_terms (suc n) at = term_words 3 at 1 0 0 0 ∷ variable_terms n (suc at)

abbrev pub variables_file : String → List (List ℕ) → List ℕ
variables_file text more =
    let terms : List (List ℕ) = variable_terms (length (bytes_of text)) 0 ++ more in
    file_bytes text (function_words 0 1 1 0 0 ∷ []) (sentence_words (length terms) 0 0 0 0 ∷ []) [] terms

-- a block whose one sentence has a result, as the result of the one sentence of `F`
abbrev block_law : Run → Law
block_law inside =
    record {
      name = named 0 "F";
      sentences =
          sentence (marked 0 0 0) empty no_condition
          (block (marked 0 0 0) empty (sentence (marked 1 0 0) empty no_condition inside no_sentence) empty)
          no_sentence;
    } ∷ []

-- what each file means: of 33 brackets with nothing inside 32 are around the innermost one, with a symbol inside 33 are around the symbol;
-- 33 variables are too many, unless two of them are one, since indices fold to upper case; `s.A` and `e.A` are two, since kinds tell them apart; a
-- block is around its sentences
pub meanings :
    (map law_of
    (example_file
    ∷ with_block
    ∷ unused_term 0
    ∷ unused_term 9
    ∷ own_sentence
    ∷ nested_file 33 []
    ∷ nested_file 33 (term_words 0 97 0 0 0 0 ∷ [])
    ∷ [])
    ≡ given example_law
    ∷ given with_block_law
    ∷ refused 6
    ∷ refused 5
    ∷ refused 7
    ∷ given (nested_law 33 empty)
    ∷ refused 8
    ∷ [])
    × (map check_of
    (variables_file "ABCDEFGHIJKLMNOPQRSTUVWXYZ0123456" []
    ∷ variables_file "ABCDEFGHIJKLMNOPQRSTUVWXYZ012345a" []
    ∷ variables_file "ABCDEFGHIJKLMNOPQRSTUVWXYZ012345" (term_words 3 0 1 0 0 0 ∷ [])
    ∷ variables_file "ABCDEFGHIJKLMNOPQRSTUVWXYZ012345" (term_words 5 0 1 0 0 0 ∷ [])
    ∷ [])
    ≡ refused 9 ∷ given tt ∷ given tt ∷ refused 9 ∷ [])
    × (map (λ inside. depth_of (nested_law 33 inside)) (empty ∷ symbol (character 97) empty ∷ []) ≡ 32 ∷ 33 ∷ [])
    × (map (λ inside. depth_of (block_law inside)) (empty ∷ symbol (character 97) empty ∷ nested 32 (symbol (character 97) empty) ∷ []) ≡ 0 ∷ 1 ∷ 33 ∷ [])
unfolding
    bytes_of flat_map nested nested_terms variable_terms
    law_of sections_of section word_at every total fields_allowed term_allowed spelled every_byte
    runs_allowed used_up fits blocks_allowed patterns_allowed distinct occurs same_bytes variables_from
    first_sentence block_first first_condition pattern_at condition_result_at result_at pattern_part result_part condition_result_part condition_pattern_part
    decode forest_of end_of term_at term_from tree_of functions_from sentences_from conditions_from forest_run keep skip deepest depth_of
meanings = (refl, refl, refl, refl)

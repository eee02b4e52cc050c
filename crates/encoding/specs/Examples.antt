-- Texts and what becomes of them, by computation: the law of one with every construct, spans where something is empty, the empty text, and the refusals in their order.
use Rattle.std.specs.Prelude.{ℕ, ◌≡◌, refl, replicate}
use Prim.Native.String.{String}
use mathlib.Core.List.{List, [], ◌∷◌, ◌++◌, map, flat_map}
use Rattle.std.proofs.Math.Option.{Option, none, some}
use Rattle.names.specs.Name.{every_byte, same_bytes}
use Rattle.file.specs.Answer.{Answer, refused, given}
use Rattle.file.specs.Word.{word_at}
use Rattle.file.specs.Below.{every, total}
use Rattle.file.specs.Sections.{section, sections_of}
use Rattle.file.specs.Fields.{fields_allowed, term_allowed, spelled}
use Rattle.file.specs.Forest.{decode, forest_of}
use Rattle.file.specs.Head.{term_at, term_from}
use Rattle.law.specs.Text.{bytes_of}
use Rattle.law.specs.Tree.{character, identifier, number, symbol_kind, term_kind, expression_kind, empty, symbol, variable, bracket, call, no_sentence, sentence, no_condition, condition, Law, keep, skip}
use Rattle.law.specs.Places.{first_sentence, block_first, first_condition, pattern_at, condition_result_at, result_at, pattern_part, result_part, condition_result_part, condition_pattern_part}
use Rattle.law.specs.Runs.{end_of, fits, used_up, runs_allowed, blocks_allowed}
use Rattle.law.specs.Reading.{forest_run, conditions_from, sentences_from, functions_from, tree_of}
use Rattle.law.specs.Depth.{deepest, depth_of}
use Rattle.law.specs.Variables.{variables_from, occurs, distinct, patterns_allowed}
use Rattle.law.specs.Law.{law_of, check_of}
use Rattle.law.specs.Examples.{function_words, sentence_words, condition_words, term_words, named, marked}
use Rattle.tokens.specs.Token.{utf8, characters_bytes, unclosed, placed}
use Rattle.tokens.specs.Lex.{leading, begins, character_in, characters_to, index_after, guess, next, lex_from, lex}
use Rattle.grammar.specs.Grammar.{Text}
use Rattle.grammar.specs.Parse.{rows_from, read_text, phrase}
use Rattle.grammar.specs.Read.{phrase_of}
use Rattle.encoding.specs.Encode.{Record, character_records, term_records, condition_records, condition_terms, function_section, sentence_section, condition_section, term_section, encode}

-- the law file of a text of the grammar
abbrev file_for : List ℕ → Option Text → List ℕ
file_for bytes none = []
file_for bytes (some x) = encode bytes x

abbrev written : List ℕ → List ℕ
written bytes = file_for bytes (phrase_of bytes)

-- its sections 2 to 5
abbrev sections : Option Text → List (List Record)
sections none = []
sections (some x) = function_section x ∷ sentence_section x ∷ condition_section x ∷ term_section x ∷ []

-- ---- every construct

-- $EXTERN H; $ENTRY F { s.1 t.X ('aé') 7 Id, <H e.Y> : e.Z = <F s.1 (e.Z)>; = }
abbrev every_construct : List ℕ
every_construct = bytes_of "$EXTERN H; $ENTRY F { s.1 t.X ('a" ++ utf8 233 ++ bytes_of "') 7 Id, <H e.Y> : e.Z = <F s.1 (e.Z)>; = }"

abbrev its_sections : List (List Record)
its_sections =
    (function_words 18 1 2 18 78 ∷ [])
    ∷ (sentence_words 7 1 4 22 73
    ∷ sentence_words 0 0 0 75 76
    ∷ [])
    ∷ (condition_words 2 1 44 57 ∷ [])
    ∷ (term_words 3 24 1 0 22 25
    ∷ term_words 4 28 1 0 26 29
    ∷ term_words 6 0 0 2 30 37
    ∷ term_words 0 97 0 0 32 33
    ∷ term_words 0 233 0 0 33 35
    ∷ term_words 2 38 1 0 38 39
    ∷ term_words 1 40 2 0 40 42
    ∷ term_words 7 45 1 1 44 51
    ∷ term_words 5 49 1 0 47 50
    ∷ term_words 5 56 1 0 54 57
    ∷ term_words 7 61 1 3 60 73
    ∷ term_words 3 65 1 0 63 66
    ∷ term_words 6 0 0 1 67 72
    ∷ term_words 5 70 1 0 68 71
    ∷ [])
    ∷ []

abbrev its_law : Law
its_law =
    record {
      name = named 18 "F";
      sentences =
          sentence (marked 0 22 73)
          (variable symbol_kind (named 24 "1")
          (variable term_kind (named 28 "X")
          (bracket (symbol (character 97) (symbol (character 233) empty))
          (symbol (number (named 38 "7"))
          (symbol (identifier (named 40 "Id")) empty)))))
          (condition (call (marked 7 44 51) (named 45 "H") (variable expression_kind (named 49 "Y") empty) empty)
          (variable expression_kind (named 56 "Z") empty)
          no_condition)
          (call (marked 10 60 73) (named 61 "F")
          (variable symbol_kind (named 65 "1")
          (bracket (variable expression_kind (named 70 "Z") empty) empty))
          empty)
          (sentence (marked 1 75 76) empty no_condition empty no_sentence);
    }
    ∷ []

-- ---- spans, where something is empty and where spellings are longer

abbrev SpanRow : Type 0
SpanRow = String × List (List Record)

abbrev spans : List SpanRow
spans =
    -- the pattern: the sentence's span begins with `=`, or with the first comma
    ("F { = }", (function_words 0 1 1 0 7 ∷ []) ∷ (sentence_words 0 0 0 4 5 ∷ []) ∷ [] ∷ [] ∷ [])
    -- the result: it ends with `=`
    ∷ ("F { a = ; }", (function_words 0 1 1 0 11 ∷ []) ∷ (sentence_words 1 0 0 4 7 ∷ []) ∷ [] ∷ (term_words 1 4 1 0 4 5 ∷ []) ∷ [])
    -- both parts of a condition: its span is the colon
    ∷ ("F { , : = }", (function_words 0 1 1 0 11 ∷ []) ∷ (sentence_words 0 1 0 4 9 ∷ []) ∷ (condition_words 0 0 6 7 ∷ []) ∷ [] ∷ [])
    -- its pattern: it ends with the colon
    ∷ ("F { , b : = }", (function_words 0 1 1 0 13 ∷ []) ∷ (sentence_words 0 1 0 4 11 ∷ []) ∷ (condition_words 1 0 6 9 ∷ []) ∷ (term_words 1 6 1 0 6 7 ∷ []) ∷ [])
    -- its result: it begins with the colon
    ∷ ("F { , : c = }", (function_words 0 1 1 0 13 ∷ []) ∷ (sentence_words 0 1 0 4 11 ∷ []) ∷ (condition_words 0 1 6 9 ∷ []) ∷ (term_words 1 8 1 0 8 9 ∷ []) ∷ [])
    -- nothing is empty, and what is spelled has more than one byte; blanks before the brace are not the sentence's
    ∷ (
      "Go { e.Rest 42 = <Go e.Rest> }",
      (function_words 0 2 1 0 30 ∷ [])
          ∷ (sentence_words 2 0 2 5 28 ∷ [])
          ∷ []
          ∷ (term_words 5 7 4 0 5 11 ∷ term_words 2 12 2 0 12 14 ∷ term_words 7 18 2 1 17 28 ∷ term_words 5 23 4 0 21 27 ∷ [])
          ∷ [],
    )
    ∷ []

-- ---- refusals

-- a quoted run of n characters, an identifier of n letters, n brackets around terms, n functions, n sentences of a function whose name has so many letters
abbrev quoted_run : ℕ → List ℕ
quoted_run n = bytes_of "F{'" ++ replicate n 97 ++ bytes_of "'=}"

abbrev letters : ℕ → List ℕ
letters n = bytes_of "F{" ++ replicate n 97 ++ bytes_of "=}"

-- n letters or digits after others, and what follows
abbrev long : String → ℕ → ℕ → String → List ℕ
long before n byte after = bytes_of before ++ replicate n byte ++ bytes_of after

abbrev nested : ℕ → List ℕ → List ℕ
nested n inside = bytes_of "F{" ++ replicate n 40 ++ inside ++ replicate n 41 ++ bytes_of "=}"

abbrev functions : ℕ → List ℕ
functions n = flat_map bytes_of (replicate n "F{=}")

abbrev sentences : ℕ → ℕ → List ℕ
sentences name n = replicate name 97 ++ bytes_of "{" ++ flat_map bytes_of (replicate n "=;") ++ bytes_of "}"

-- an s. variable for each of some indices of one byte
abbrev variables : String → List ℕ
variables indices = flat_map (λ c. 115 ∷ 46 ∷ c ∷ 32 ∷ []) (bytes_of indices)

abbrev Row : Type 0
Row = List ℕ × Answer (Unit {0})

abbrev refusals : List Row
refusals =
    -- 1 comes before 4
    (quoted_run 700, refused 1)
    ∷ (quoted_run 513, refused 4)
    ∷ (functions 65, refused 4)
    -- 4 before 5
    ∷ (sentences 65 129, refused 4)
    ∷ (sentences 65 1, refused 5)
    ∷ (letters 64, given tt)
    ∷ (letters 65, refused 5)
    -- a number, an index and the name of a call; a name in an `$EXTERN` list has no record, and may be longer
    ∷ (long "F{" 64 55 "=}", given tt)
    ∷ (long "F{" 65 55 "=}", refused 5)
    ∷ (long "F{e." 64 97 "=}", given tt)
    ∷ (long "F{e." 65 97 "=}", refused 5)
    ∷ (long "F{=<" 64 97 ">}", given tt)
    ∷ (long "F{=<" 65 97 ">}", refused 5)
    ∷ (long "$EXTERN " 65 97 ";F{=}", given tt)
    -- 5 before 8
    ∷ (nested 33 (replicate 65 97), refused 5)
    ∷ (nested 32 (bytes_of "a"), given tt)
    ∷ (nested 33 (bytes_of "a"), refused 8)
    -- 8 before 9
    ∷ (nested 33 (variables "ABCDEFGHIJKLMNOPQRSTUVWXYZ0123456"), refused 8)
    ∷ (nested 1 (variables "ABCDEFGHIJKLMNOPQRSTUVWXYZ0123456"), refused 9)
    ∷ (nested 1 (variables "ABCDEFGHIJKLMNOPQRSTUVWXYZ012345"), given tt)
    ∷ []

-- ---- all of them; an empty text is a file of five counts

pub examples :
    (sections (phrase_of every_construct) ≡ its_sections)
    × (law_of (written every_construct) ≡ given its_law)
    × (map (λ (r : SpanRow). sections (phrase_of (bytes_of r.0))) spans ≡ map (λ (r : SpanRow). r.1) spans)
    × (written [] ≡ replicate 20 0)
    × (map (λ (r : Row). check_of (written r.0)) refusals ≡ map (λ (r : Row). r.1) refusals)
unfolding
    bytes_of flat_map
    law_of sections_of section word_at every total fields_allowed term_allowed spelled every_byte
    runs_allowed used_up fits blocks_allowed patterns_allowed distinct occurs same_bytes variables_from
    first_sentence block_first first_condition pattern_at condition_result_at result_at pattern_part result_part condition_result_part condition_pattern_part
    decode forest_of end_of term_at term_from tree_of functions_from sentences_from conditions_from forest_run keep skip deepest depth_of
    utf8 characters_bytes unclosed placed leading begins character_in characters_to index_after guess next lex_from lex rows_from read_text phrase phrase_of
    character_records term_records condition_records condition_terms encode
examples = (refl, refl, refl, refl, refl)

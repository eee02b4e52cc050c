-- What the call that reads a text answers, with every byte of the buffer, by computation.
use Rattle.std.specs.Prelude.{ℕ, ◌≡◌, refl, replicate}
use mathlib.Core.List.{List, [], ◌∷◌, ◌++◌, flat_map}
use Rattle.names.specs.Name.{every_byte, same_bytes}
use Rattle.file.specs.Answer.{refused, given}
use Rattle.file.specs.Word.{word_at}
use Rattle.file.specs.Below.{every, total}
use Rattle.file.specs.Sections.{section, sections_of}
use Rattle.file.specs.Fields.{fields_allowed, term_allowed, spelled}
use Rattle.file.specs.Forest.{decode, forest_of}
use Rattle.file.specs.Head.{term_at, term_from}
use Rattle.law.specs.Text.{bytes_of}
use Rattle.law.specs.Tree.{keep, skip}
use Rattle.law.specs.Places.{first_sentence, block_first, first_condition, pattern_at, condition_result_at, result_at, pattern_part, result_part, condition_result_part, condition_pattern_part}
use Rattle.law.specs.Runs.{end_of, fits, used_up, runs_allowed, blocks_allowed}
use Rattle.law.specs.Reading.{forest_run, conditions_from, sentences_from, functions_from, tree_of}
use Rattle.law.specs.Depth.{deepest, depth_of}
use Rattle.law.specs.Variables.{variables_from, occurs, distinct, patterns_allowed}
use Rattle.law.specs.Law.{law_of}
use Rattle.law.specs.Examples.{file_bytes, function_words, sentence_words}
use Rattle.tokens.specs.Token.{utf8, characters_bytes, unclosed, placed}
use Rattle.tokens.specs.Lex.{leading, begins, character_in, characters_to, index_after, guess, next, lex_from, lex}
use Rattle.grammar.specs.Parse.{rows_from, read_text, phrase}
use Rattle.grammar.specs.Read.{phrase_of}
use Rattle.encoding.specs.Encode.{character_records, term_records, condition_records, condition_terms, encode}
use Rattle.buffers.specs.Written.{written}
use Rattle.reader.specs.Outcome.{text_file, ReadOutcome, read_by, read_outcome}

-- a buffer of so many bytes
abbrev lent : ℕ → List ℕ
lent n = replicate n 7

-- the file of `F{=}`: 64 bytes
abbrev small_file : List ℕ
small_file = file_bytes "F{=}" (function_words 0 1 1 0 4 ∷ []) (sentence_words 0 0 0 2 3 ∷ []) [] []

abbrev unread : ℕ → ℕ → ReadOutcome
unread number room = record { answer = refused number; law = lent room }

pub examples :
    -- a text may hold no function: 20 bytes, a buffer that they fit, one with a byte more, one with a byte less
    (read_outcome [] (lent 20) ≡ record { answer = given 20; law = replicate 20 0 })
    × (read_outcome [] (lent 21) ≡ record { answer = given 20; law = replicate 20 0 ++ 7 ∷ [] })
    × (read_outcome [] (lent 19) ≡ unread 17 19)
    -- a small law
    × (read_outcome (bytes_of "F{=}") (lent 66) ≡ record { answer = given 64; law = small_file ++ lent 2 })
    × (read_outcome (bytes_of "F{=}") (lent 63) ≡ unread 17 63)
    -- outside the grammar, before the buffer is looked at
    × (read_outcome (bytes_of "F { }") [] ≡ unread 16 0)
    × (read_outcome (bytes_of "/*") (lent 3) ≡ unread 16 3)
    -- and before all that is asked of a file: 700 terms, 513 terms, a name of 65 bytes, 33 brackets in each other
    × (read_outcome (bytes_of "F{'" ++ replicate 700 97 ++ bytes_of "'=") [] ≡ unread 16 0)
    × (read_outcome (bytes_of "F{'" ++ replicate 513 97 ++ bytes_of "'=") [] ≡ unread 16 0)
    × (read_outcome (replicate 65 65 ++ bytes_of "{=") [] ≡ unread 16 0)
    × (read_outcome (bytes_of "F{" ++ replicate 33 40 ++ bytes_of "a" ++ replicate 33 41 ++ bytes_of "=") [] ≡ unread 16 0)
    -- a name of 65 bytes, before the buffer is looked at
    × (read_outcome (replicate 65 65 ++ bytes_of "{=}") [] ≡ unread 5 0)
    -- 4,097 blanks
    × (read_outcome (replicate 4097 32) (lent 3) ≡ unread 4 3)
unfolding
    bytes_of flat_map
    law_of sections_of section word_at every total fields_allowed term_allowed spelled every_byte
    runs_allowed used_up fits blocks_allowed patterns_allowed distinct occurs same_bytes variables_from
    first_sentence block_first first_condition pattern_at condition_result_at result_at pattern_part result_part condition_result_part condition_pattern_part
    decode forest_of end_of term_at term_from tree_of functions_from sentences_from conditions_from forest_run keep skip deepest depth_of
    utf8 characters_bytes unclosed placed leading begins character_in characters_to index_after guess next lex_from lex rows_from read_text phrase phrase_of
    character_records term_records condition_records condition_terms encode written text_file read_by read_outcome
examples = (refl, refl, refl, refl, refl, refl, refl, refl, refl, refl, refl, refl, refl)

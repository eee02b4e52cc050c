-- The law file of a text. Document 02, R-1: "The text is UTF-8 and becomes the text section unaltered. Each character between quotes is one term. Spans are byte
-- offsets, end excluded: a character's covers its own bytes, a sentence's goes from its first token to its last before the semicolon, a condition's from the token
-- after its comma to its last, a function's from its name through `}`."
-- Records have document 01's words, in its order: docs/SPECIFICATION.md, 1.3 to 1.12, 19.6, 19.7.
use Rattle.std.specs.Prelude.{ℕ, ◌+◌, ◌/◌, ◌%◌, length}
use mathlib.Core.List.{List, [], ◌∷◌, ◌++◌, map, flat_map}
use Rattle.tokens.specs.Token.{utf8, Atom, identifier, number, variable, quoted, kind_number, atom_bytes}
use Rattle.grammar.specs.Grammar.{Terms, nothing, atomic, bracket, call, Conditions, no_condition, condition, Sentence, Sentences, last, last_closed, more, Function, Text, done, extern, function, entry}

-- a record's words
abbrev pub Record : Type 0
Record = List ℕ

-- ---- terms: kind, a, b, n, span

-- the characters of a quoted run, the first at a byte
unfoldable pub character_records : ℕ → List ℕ → List Record
character_records at [] = []
character_records at (c ∷ cs) = (0 ∷ c ∷ 0 ∷ 0 ∷ at ∷ (at + length (utf8 c)) ∷ []) ∷ character_records (at + length (utf8 c)) cs

-- an atom at a byte; a variable's name is its index, which begins two bytes on
abbrev pub atom_records : ℕ → Atom → List Record
atom_records at (identifier w) = (1 ∷ at ∷ length w ∷ 0 ∷ at ∷ (at + length w) ∷ []) ∷ []
atom_records at (number w) = (2 ∷ at ∷ length w ∷ 0 ∷ at ∷ (at + length w) ∷ []) ∷ []
atom_records at (variable k i) = (kind_number k ∷ (at + 2) ∷ length i ∷ 0 ∷ at ∷ (at + 2 + length i) ∷ []) ∷ []
atom_records at (quoted cs) = character_records (at + 1) cs

-- a bracket's and a call's record has the number of records inside, and a span from its first sign through its last
unfoldable pub term_records : Terms → List Record
term_records nothing = []
term_records (atomic at a rest) = atom_records at a ++ term_records rest
term_records (bracket l inside r rest) = (6 ∷ 0 ∷ 0 ∷ length (term_records inside) ∷ l ∷ (r + 1) ∷ []) ∷ term_records inside ++ term_records rest
term_records (call l f inside r rest) =
    (7 ∷ f.start ∷ length f.spelled ∷ length (term_records inside) ∷ l ∷ (r + 1) ∷ []) ∷ term_records inside ++ term_records rest

-- where the first of some terms starts, and where the last ends; the other place where there is none
abbrev pub start_of : Terms → ℕ → ℕ
start_of nothing other = other
start_of (atomic at a rest) other = at
start_of (bracket l inside r rest) other = l
start_of (call l f inside r rest) other = l

abbrev pub end_of : Terms → ℕ → ℕ
end_of nothing other = other
end_of (atomic at a rest) other = end_of rest (at + length (atom_bytes a))
end_of (bracket l inside r rest) other = end_of rest (r + 1)
end_of (call l f inside r rest) other = end_of rest (r + 1)

-- ---- conditions: records of the result and of the pattern, span

-- the span begins at the colon where the result is empty, and ends with it where the pattern is
unfoldable pub condition_records : Conditions → List Record
condition_records no_condition = []
condition_records (condition c result d pattern rest) =
    (length (term_records result) ∷ length (term_records pattern) ∷ start_of result d ∷ end_of pattern (d + 1) ∷ []) ∷ condition_records rest

-- each condition's result and pattern
unfoldable pub condition_terms : Conditions → List Record
condition_terms no_condition = []
condition_terms (condition c result d pattern rest) = term_records result ++ term_records pattern ++ condition_terms rest

-- where the first comma stands
abbrev pub conditions_start : Conditions → ℕ → ℕ
conditions_start no_condition other = other
conditions_start (condition c result d pattern rest) other = c

-- ---- sentences: records of the pattern, conditions, records of the result, span

-- where the pattern is empty the span begins at the first comma or at `=`, and where the result is empty it ends with `=`
abbrev pub sentence_start : Sentence → ℕ
sentence_start x = start_of x.pattern (conditions_start x.conditions x.equals_at)

abbrev pub sentence_end : Sentence → ℕ
sentence_end x = end_of x.result (x.equals_at + 1)

abbrev pub sentence_record : Sentence → Record
sentence_record x =
    length (term_records x.pattern)
    ∷ length (condition_records x.conditions)
    ∷ length (term_records x.result)
    ∷ sentence_start x
    ∷ sentence_end x
    ∷ []

-- pattern, conditions, result
abbrev pub sentence_terms : Sentence → List Record
sentence_terms x = term_records x.pattern ++ condition_terms x.conditions ++ term_records x.result

abbrev pub sentence_list : Sentences → List Sentence
sentence_list (last x) = x ∷ []
sentence_list (last_closed x c) = x ∷ []
sentence_list (more x c rest) = x ∷ sentence_list rest

-- ---- functions: name, sentences, span

abbrev pub sentences_in : Function → List Sentence
sentences_in f = sentence_list f.sentences

abbrev pub function_record : Function → Record
function_record f = f.name.start ∷ length f.name.spelled ∷ length (sentences_in f) ∷ f.name.start ∷ (f.right_at + 1) ∷ []

-- ---- sections

abbrev pub functions_of : Text → List Function
functions_of done = []
functions_of (extern at names rest) = functions_of rest
functions_of (function f rest) = f ∷ functions_of rest
functions_of (entry at f rest) = f ∷ functions_of rest

abbrev pub sentences_of : Text → List Sentence
sentences_of text = flat_map sentences_in (functions_of text)

abbrev pub function_section : Text → List Record
function_section text = map function_record (functions_of text)

abbrev pub sentence_section : Text → List Record
sentence_section text = map sentence_record (sentences_of text)

abbrev pub condition_section : Text → List Record
condition_section text = flat_map (λ x. condition_records x.conditions) (sentences_of text)

abbrev pub term_section : Text → List Record
term_section text = flat_map sentence_terms (sentences_of text)

-- ---- the file

-- a word, least byte first
abbrev pub word_bytes : ℕ → List ℕ
word_bytes n = n % 256 ∷ n / 256 % 256 ∷ n / 65536 % 256 ∷ n / 16777216 % 256 ∷ []

abbrev pub record_bytes : Record → List ℕ
record_bytes r = flat_map word_bytes r

abbrev pub records_bytes : List Record → List ℕ
records_bytes rs = flat_map record_bytes rs

-- a section after its count
abbrev pub section_bytes : List Record → List ℕ
section_bytes rs = word_bytes (length rs) ++ records_bytes rs

unfoldable pub encode : List ℕ → Text → List ℕ
encode bytes text =
    word_bytes (length bytes) ++ (bytes
    ++ (section_bytes (function_section text)
    ++ (section_bytes (sentence_section text)
    ++ (section_bytes (condition_section text)
    ++ section_bytes (term_section text)))))

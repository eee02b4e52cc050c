-- Runs through conditions, by computation. Document 01, "A run of a law".
-- docs/SPECIFICATION.md, 15.4 to 15.8.
use Rattle.std.specs.Prelude.{[], ◌∷◌, ◌≡◌, refl}
use Rattle.names.specs.Name.{same_bytes}
use Rattle.law.specs.Tree.{symbol_kind, expression_kind, Run, empty, block, Sentences, no_sentence, sentence, Conditions, no_condition, condition, Law}
use Rattle.law.specs.Definition.{definition}
use Rattle.law.specs.Expression.{nothing}
use Rattle.law.specs.Examples.{bytes_of, marked}
use Rattle.matching.specs.Pattern.{pattern_of}
use Rattle.matching.specs.Match.{none_bound, bound, value_in, splits, same_terms, after, choices, matches}
use Rattle.matching.specs.Literal.{literal_terms, changed}
use Rattle.matching.specs.Examples.{characters, text, s_variable, e_variable}
use Rattle.runs.specs.Machine.{Env, sentences, ways, Stack, over, in_place, in_condition}
use Rattle.runs.specs.Machine.{working, called, entered, trying, chosen, finished, stopped, give, answered, step, steps, run}
use Rattle.runs.specs.Examples.{said, function, plain, calling, run_f}

-- ---- two conditions, and several matches of a condition's pattern

-- `F { e.X, e.X: e.A s.B e.C, s.B: 'b' = e.C; e.X = 'n'; }`
abbrev two_conditions : Law
two_conditions =
    function "F"
    (sentence (marked 0 0 0) (e_variable "X" empty)
    (condition (e_variable "X" empty) (e_variable "A" (s_variable "B" (e_variable "C" empty)))
    (condition (s_variable "B" empty) (text "b" empty) no_condition))
    (e_variable "C" empty)
    (plain 1 (e_variable "X" empty) (text "n" empty) no_sentence))
    ∷ []

-- `F { s.A s.B, s.A: 'a', <G s.B>: 'c' = 'y'; e.X = 'n'; }`
abbrev call_in_second : Law
call_in_second =
    function "F"
    (sentence (marked 0 0 0) (s_variable "A" (s_variable "B" empty))
    (condition (s_variable "A" empty) (text "a" empty) (condition (calling 4 "G" (s_variable "B" empty) empty) (text "c" empty) no_condition))
    (text "y" empty)
    (plain 1 (e_variable "X" empty) (text "n" empty) no_sentence))
    ∷ []

-- `F { e.X, e.X: e.A e.B, e.B: 'b' = e.A; }`
abbrev three_matches : Law
three_matches =
    function "F"
    (sentence (marked 0 0 0) (e_variable "X" empty)
    (condition (e_variable "X" empty) (e_variable "A" (e_variable "B" empty)) (condition (e_variable "B" empty) (text "b" empty) no_condition))
    (e_variable "A" empty) no_sentence)
    ∷ []

pub condition_runs :
    -- two conditions: the second fails for the first match of the first one's pattern, `s.B` being 'a', and holds for the next
    (run_f two_conditions "abc" [] 30 ≡ finished (said "c"))
    -- it fails for all: the next sentence
    × (run_f two_conditions "acc" [] 30 ≡ finished (said "n"))
    -- a call in a second condition is reached, and takes an answer
    × (run_f call_in_second "ab" ("c" ∷ []) 30 ≡ finished (said "y"))
    × (run_f call_in_second "ab" ("d" ∷ []) 30 ≡ finished (said "n"))
    × (run_f call_in_second "ab" [] 30 ≡ stopped)
    -- "conditions follow in order": where the first fails, the second is not asked
    × (run_f call_in_second "bb" [] 30 ≡ finished (said "n"))
    -- several matches of a condition's pattern: for 'aab' the third holds
    × (run_f three_matches "aab" [] 30 ≡ finished (said "aa"))
unfolding
    bytes_of characters same_bytes pattern_of literal_terms changed value_in splits same_terms after choices matches
    definition give answered step steps run
condition_runs = (refl, refl, refl, refl, refl, refl, refl)

-- ---- blocks, calls and answers in conditions

-- `F { s.A e.X, [e.X : s.A = 's'; s.B = 't';]: s.C = s.A s.C; }`
abbrev block_in_condition : Law
block_in_condition =
    function "F"
    (sentence (marked 0 0 0) (s_variable "A" (e_variable "X" empty))
    (condition
    (block (marked 2 0 0) (e_variable "X" empty)
    (plain 1 (s_variable "A" empty) (text "s" empty) (plain 2 (s_variable "B" empty) (text "t" empty) no_sentence))
    empty)
    (s_variable "C" empty) no_condition)
    (s_variable "A" (s_variable "C" empty)) no_sentence)
    ∷ []

-- `G { s.X, s.X: 'a' = 'y'; e.X = 'n'; }`
abbrev sentences_of_g : Sentences
sentences_of_g =
    sentence (marked 1 0 0) (s_variable "X" empty) (condition (s_variable "X" empty) (text "a" empty) no_condition) (text "y" empty)
    (plain 2 (e_variable "X" empty) (text "n" empty) no_sentence)

-- `F { e.X = <G e.X> 'f'; }`, and G
abbrev condition_in_call : Law
condition_in_call =
    function "F" (plain 0 (e_variable "X" empty) (calling 1 "G" (e_variable "X" empty) (text "f" empty)) no_sentence) ∷ function "G" sentences_of_g ∷ []

-- `F { e.X, <G e.X>: 'y' = 'f'; }`, and G
abbrev condition_in_condition : Law
condition_in_condition =
    function "F"
    (sentence (marked 0 0 0) (e_variable "X" empty) (condition (calling 1 "G" (e_variable "X" empty) empty) (text "y" empty) no_condition) (text "f" empty)
    no_sentence)
    ∷ function "G" sentences_of_g
    ∷ []

-- `F { e.X, <G>: 'a' = <G> <G>; e.X = <G>; }`
abbrev asks_and_gives : Law
asks_and_gives =
    function "F"
    (sentence (marked 0 0 0) (e_variable "X" empty) (condition (calling 1 "G" empty empty) (text "a" empty) no_condition)
    (calling 3 "G" empty (calling 4 "G" empty empty))
    (plain 1 (e_variable "X" empty) (calling 6 "G" empty empty) no_sentence))
    ∷ []

-- `F { e.X, <G e.X>: e.Y = ; e.X = 'n'; } G { 'a' = ; }`
abbrev ends_inside : Law
ends_inside =
    function "F"
    (sentence (marked 0 0 0) (e_variable "X" empty) (condition (calling 1 "G" (e_variable "X" empty) empty) (e_variable "Y" empty) no_condition) empty
    (plain 1 (e_variable "X" empty) (text "n" empty) no_sentence))
    ∷ function "G" (plain 2 (text "a" empty) empty no_sentence)
    ∷ []

pub inside_runs :
    -- a block in a condition: its sentences start with the values around it, and after it the values before it hold again
    (run_f block_in_condition "aa" [] 30 ≡ finished (said "as"))
    × (run_f block_in_condition "ab" [] 30 ≡ finished (said "at"))
    -- a condition inside a call: holds, and fails
    × (run_f condition_in_call "a" [] 30 ≡ finished (said "yf"))
    × (run_f condition_in_call "b" [] 30 ≡ finished (said "nf"))
    -- a condition inside a condition's call
    × (run_f condition_in_condition "a" [] 30 ≡ finished (said "f"))
    × (run_f condition_in_condition "b" [] 30 ≡ stopped)
    -- answers inside a condition and outside, in the order of the calls; what a condition that fails took stays taken
    × (run_f asks_and_gives "" ("a" ∷ "b" ∷ "c" ∷ []) 30 ≡ finished (said "bc"))
    × (run_f asks_and_gives "" ("d" ∷ "e" ∷ []) 30 ≡ finished (said "e"))
    × (run_f asks_and_gives "" ("a" ∷ "b" ∷ []) 30 ≡ stopped)
    -- "No sentence chosen ends the run.", inside a condition too: F's second sentence is not tried
    × (run_f ends_inside "b" [] 30 ≡ stopped)
    × (run_f ends_inside "a" [] 30 ≡ finished (said ""))
unfolding
    bytes_of characters same_bytes pattern_of literal_terms changed value_in splits same_terms after choices matches
    definition give answered step steps run
inside_runs = (refl, refl, refl, refl, refl, refl, refl, refl, refl, refl, refl)

-- ---- cut off inside a condition: "a call or block reached, a match tried or a sentence chosen, inside conditions too"

-- `F { s.X, s.X <G s.X>: 'ab' = 'y'; } G { e.Y = [e.Y : s.Z = 'b';]; }`: the call of G, the condition, the block's sentence, the block, the law
abbrev call_of_g : Run
call_of_g = calling 2 "G" (s_variable "X" empty) empty

abbrev asked : Conditions
asked = condition (s_variable "X" call_of_g) (text "ab" empty) no_condition

abbrev inside : Sentences
inside = plain 2 (s_variable "Z" empty) (text "b" empty) no_sentence

abbrev block_of_g : Run
block_of_g = block (marked 8 0 0) (e_variable "Y" empty) inside empty

abbrev asks_g : Law
asks_g =
    function "F" (sentence (marked 0 0 0) (s_variable "X" empty) asked (text "y" empty) no_sentence)
    ∷ function "G" (plain 1 (e_variable "Y" empty) block_of_g no_sentence)
    ∷ []

-- F's values and G's, for 'a'
abbrev value_x : Env
value_x = bound (record { kind = symbol_kind; index = bytes_of "X" }) (said "a") none_bound

abbrev value_y : Env
value_y = bound (record { kind = expression_kind; index = bytes_of "Y" }) (said "a") none_bound

-- F's condition waits for its result: there is no other match of its left side, and no other sentence
abbrev waits : Stack
waits = in_condition (text "ab" empty) value_x 0 no_condition (text "y" empty) (ways [] 0 asked (text "y" empty) (sentences none_bound (said "a") no_sentence)) over

-- above it waits the call of G for what takes its place, and above that the block
abbrev call_waits : Stack
call_waits = in_place (said "a") empty value_x waits

abbrev block_waits : Stack
block_waits = in_place nothing empty value_y call_waits

pub cut_off_runs :
    -- a result half worked out
    (run_f asks_g "a" [] 3 ≡ working call_of_g value_x (said "a") waits [])
    -- a call reached
    × (run_f asks_g "a" [] 6 ≡ called 2 (bytes_of "G") (said "a") call_waits [])
    -- a match tried
    × (run_f asks_g "a" [] 8 ≡ trying (ways (value_y ∷ []) 1 no_condition block_of_g (sentences none_bound (said "a") no_sentence)) call_waits [])
    -- a sentence chosen
    × (run_f asks_g "a" [] 9 ≡ chosen 1 block_of_g value_y call_waits [])
    -- a block reached
    × (run_f asks_g "a" [] 13 ≡ entered 8 inside value_y (said "a") block_waits [])
    -- the end
    × (run_f asks_g "a" [] 30 ≡ finished (said "y"))
unfolding
    bytes_of characters same_bytes pattern_of literal_terms changed value_in splits same_terms after choices matches
    definition give answered step steps run
cut_off_runs = (refl, refl, refl, refl, refl, refl)

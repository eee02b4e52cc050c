-- Runs through every kind of term in a result, through blocks in blocks, and through calls whose function has variables of the caller's names, by
-- computation. Document 01, "A run of a law".
-- docs/SPECIFICATION.md, 15.4, 15.5.
use Rattle.std.specs.Prelude.{[], ◌∷◌, ◌≡◌, refl}
use Rattle.names.specs.Name.{same_bytes}
use Rattle.law.specs.Tree.{Run, empty, bracket, block, no_sentence, Law}
use Rattle.law.specs.Definition.{definition}
use Rattle.law.specs.Expression as expression
use Rattle.law.specs.Expression.{Expression, nothing}
use Rattle.law.specs.Examples.{bytes_of, marked}
use Rattle.matching.specs.Pattern.{pattern_of}
use Rattle.matching.specs.Match.{value_in, splits, same_terms, after, choices, matches}
use Rattle.matching.specs.Literal.{literal_terms, changed}
use Rattle.matching.specs.Examples.{characters, text, s_variable, t_variable, e_variable, digits}
use Rattle.runs.specs.Machine.{State, finished, stopped, give, answered, step, steps, run}
use Rattle.runs.specs.Examples.{expressed, said, function, plain, calling, identifier, function_at, run_f}

-- ---- every kind of term

-- `F { s.A t.B e.C = RESULT; } G { t.X = t.X 'g'; }`
abbrev with_result : Run → Law
with_result result =
    function "F" (plain 0 (s_variable "A" (t_variable "B" (e_variable "C" empty))) result no_sentence)
    ∷ function "G" (plain 1 (t_variable "X" empty) (t_variable "X" (text "g" empty)) no_sentence)
    ∷ []

-- what it comes to on `'a' ('b') 'cd'`
abbrev comes_to : Run → State
comes_to result =
    run (with_result result) (function_at (with_result result) 0) (expressed (text "a" (bracket (text "b" empty) (text "cd" empty)))) [] 40

-- one symbol
abbrev single : expression.Literal → Expression
single a = expression.Terms.symbol a nothing

pub term_runs :
    -- a character, an identifier, which is folded, a number, by its value
    (comes_to (text "x" empty) ≡ finished (single (expression.Literal.character 120)))
    × (comes_to (identifier "Wo_rd" empty) ≡ finished (single (expression.Literal.identifier (bytes_of "WO-RD"))))
    × (comes_to (digits "007" empty) ≡ finished (single (expression.Literal.number 7)))
    -- an s., a t. and an e. variable
    × (comes_to (s_variable "A" empty) ≡ finished (said "a"))
    × (comes_to (t_variable "B" empty) ≡ finished (expression.Terms.brackets (said "b") nothing))
    × (comes_to (e_variable "C" empty) ≡ finished (said "cd"))
    -- a bracket: `(s.A 'y')`; a call: `<G t.B>`; a block: `[e.C : e.D = e.D 'z';]`
    × (comes_to (bracket (s_variable "A" (text "y" empty)) empty) ≡ finished (expression.Terms.brackets (said "ay") nothing))
    × (comes_to (calling 3 "G" (t_variable "B" empty) empty) ≡ finished (expression.Terms.brackets (said "b") (said "g")))
    × (comes_to (block (marked 3 0 0) (e_variable "C" empty) (plain 2 (e_variable "D" empty) (e_variable "D" (text "z" empty)) no_sentence) empty)
    ≡ finished (said "cdz"))
    -- all in a row: `'x' Word 7 s.A t.B e.C (s.A 'y') <G t.B> [e.C : e.D = e.D 'z';] 'w'`
    × (comes_to
    (text "x"
    (identifier "Word"
    (digits "7"
    (s_variable "A"
    (t_variable "B"
    (e_variable "C"
    (bracket (s_variable "A" (text "y" empty))
    (calling 12 "G" (t_variable "B" empty)
    (block (marked 14 0 0) (e_variable "C" empty) (plain 2 (e_variable "D" empty) (e_variable "D" (text "z" empty)) no_sentence)
    (text "w" empty))))))))))
    ≡ finished
    (expressed
    (text "x"
    (identifier "Word"
    (digits "7"
    (text "a"
    (bracket (text "b" empty)
    (text "cd"
    (bracket (text "ay" empty)
    (bracket (text "b" empty)
    (text "gcdzw" empty)))))))))))
unfolding
    bytes_of characters same_bytes pattern_of literal_terms changed value_in splits same_terms after choices matches
    definition give answered step steps run
term_runs = (refl, refl, refl, refl, refl, refl, refl, refl, refl, refl)

-- ---- blocks in blocks

-- `F { s.A s.B = [s.B : s.C = [s.C 'd' : s.A s.D = 's'; s.B s.D = s.A s.C s.D;] s.C;]; }`
abbrev nested_blocks : Law
nested_blocks =
    function "F"
    (plain 0 (s_variable "A" (s_variable "B" empty))
    (block (marked 2 0 0) (s_variable "B" empty)
    (plain 1 (s_variable "C" empty)
    (block (marked 5 0 0) (s_variable "C" (text "d" empty))
    (plain 2 (s_variable "A" (s_variable "D" empty)) (text "s" empty)
    (plain 3 (s_variable "B" (s_variable "D" empty)) (s_variable "A" (s_variable "C" (s_variable "D" empty))) no_sentence))
    (s_variable "C" empty))
    no_sentence)
    empty)
    no_sentence)
    ∷ []

pub block_runs :
    -- the inner block has the values of the function's sentence and of the outer block: `s.A` and `s.B` match only their values, `s.C` has one
    (run_f nested_blocks "aa" [] 30 ≡ finished (said "sa"))
    × (run_f nested_blocks "ab" [] 30 ≡ finished (said "abdb"))
unfolding
    bytes_of characters same_bytes pattern_of literal_terms changed value_in splits same_terms after choices matches
    definition give answered step steps run
block_runs = (refl, refl)

-- ---- a function that is called has no values of its caller

-- `F { s.X e.Y = <G e.Y> s.X; } G { s.X = s.X 'g'; }`
abbrev same_index : Law
same_index =
    function "F" (plain 0 (s_variable "X" (e_variable "Y" empty)) (calling 2 "G" (e_variable "Y" empty) (s_variable "X" empty)) no_sentence)
    ∷ function "G" (plain 1 (s_variable "X" empty) (s_variable "X" (text "g" empty)) no_sentence)
    ∷ []

-- `F { s.X = <G>; } G { = s.X; }`
abbrev callers_index : Law
callers_index =
    function "F" (plain 0 (s_variable "X" empty) (calling 1 "G" empty empty) no_sentence)
    ∷ function "G" (plain 1 empty (s_variable "X" empty) no_sentence)
    ∷ []

pub call_runs :
    -- `s.X` gets another value in G, and has its own again after the call
    (run_f same_index "ab" [] 20 ≡ finished (said "bga"))
    -- in G it has no value, which ends the run
    × (run_f callers_index "a" [] 20 ≡ stopped)
unfolding
    bytes_of characters same_bytes pattern_of literal_terms changed value_in splits same_terms after choices matches
    definition give answered step steps run
call_runs = (refl, refl)

-- Examples of the three ways to match, and the slips that document 01 names, each by computation. Patterns and arguments stand as runs of the tree. Its
-- small laws on shadowing, which it marks *, are in the table in specs/SmallLaws.antt of the crate `lints`.
use Rattle.std.specs.Prelude.{ℕ, Bool, true, false, ◌&&◌, List, [], ◌∷◌, map, ◌≡◌, refl}
use Prim.Native.String.{String}
use Rattle.names.specs.Name.{same_bytes}
use Rattle.law.specs.Tree.{character, number, symbol_kind, term_kind, expression_kind, no_sentence, Run, empty, symbol, variable, bracket, call, block}
use Rattle.law.specs.Expression.{Literal}
use Rattle.law.specs.Examples.{bytes_of, named, marked}
use Rattle.matching.specs.Pattern.{pattern_of}
use Rattle.matching.specs.Match.{Values, none_bound, bound, some_in, value_in, splits, same_terms, after, choices, matches, run_matches}
use Rattle.matching.specs.Literal.{is_literal, literal_terms, literal_matches, changed, expression_of}
use Rattle.matching.specs.Shadow.{own_values, shadows_with, shadows}

-- ---- terms by what is written: an s., t. or e. variable by its index, a number by its digits, characters by a text; each before what follows it

abbrev pub s_variable : String → Run → Run
s_variable index = variable symbol_kind (named 0 index)

abbrev pub t_variable : String → Run → Run
t_variable index = variable term_kind (named 0 index)

abbrev pub e_variable : String → Run → Run
e_variable index = variable expression_kind (named 0 index)

abbrev pub digits : String → Run → Run
digits n = symbol (number (named 0 n))

unfoldable pub characters : List ℕ → Run → Run
characters [] rest = rest
characters (c ∷ cs) rest = symbol (character c) (characters cs rest)

abbrev pub text : String → Run → Run
text s = characters (bytes_of s)

-- ---- the three ways to match: a pattern, and what it is matched with

abbrev pub Pair : Type 0
Pair = Run × Run

abbrev pub shadowed : Pair → Bool
shadowed q = shadows (pattern_of q.0) (pattern_of q.1)

abbrev pub literally : Pair → Bool
literally q = is_literal q.1 && literal_matches (pattern_of q.0) (literal_terms q.1)

abbrev pub matches_of : Pair → List (Values Literal)
matches_of q = run_matches (pattern_of q.0) (expression_of (literal_terms q.1)) none_bound

abbrev pub in_run : Pair → Bool
in_run q = some_in (matches_of q)

-- shadowing, literal matching, matching in a run
abbrev pub all_three : Pair → Bool × Bool × Bool
all_three q = (shadowed q, literally q, in_run q)

-- an e. variable that has characters for its value
abbrev pub valued : String → String → Values Literal → Values Literal
valued index s = bound (record { kind = expression_kind; index = bytes_of index }) (expression_of (literal_terms (text s empty)))

match_examples :
    -- `(e.A) t.B` does not shadow `(s.Q) e.A`: `('x') 'p' 'q'` fits only the later of the two
    (map in_run
    ((bracket (e_variable "A" empty) (t_variable "B" empty), bracket (text "x" empty) (text "pq" empty))
    ∷ (bracket (s_variable "Q" empty) (e_variable "A" empty), bracket (text "x" empty) (text "pq" empty))
    ∷ [])
    ≡ false ∷ true ∷ [])
    -- `(e.A e.B) e.A` with `('x') 'x'` is found only by going back into the bracket
    × (map all_three ((bracket (e_variable "A" (e_variable "B" empty)) (e_variable "A" empty), bracket (text "x" empty) (text "x" empty)) ∷ [])
    ≡ (false, true, true) ∷ [])
    -- numbers by value: `007` is `7`, `00` is `0`, `70` is not `7`, and no number is a character; so too where a variable is repeated
    × (map all_three
    ((digits "007" empty, digits "7" empty)
    ∷ (digits "7" empty, digits "007" empty)
    ∷ (digits "0" empty, digits "00" empty)
    ∷ (digits "70" empty, digits "7" empty)
    ∷ (digits "7" empty, text "7" empty)
    ∷ (s_variable "A" (s_variable "A" empty), digits "7" (digits "007" empty))
    ∷ (e_variable "A" (text "x" (e_variable "A" empty)), digits "7" (digits "0" (text "x" (digits "07" (digits "000" empty)))))
    ∷ (t_variable "A" (t_variable "A" empty), bracket (digits "1" empty) (bracket (digits "10" empty) empty))
    ∷ [])
    ≡ (true, true, true)
    ∷ (true, true, true)
    ∷ (true, true, true)
    ∷ (false, false, false)
    ∷ (false, false, false)
    ∷ (true, true, true)
    ∷ (true, true, true)
    ∷ (false, false, false)
    ∷ [])
    -- the matches of `e.1 e.2` with `'a' 'b'`, in order
    × (matches_of (e_variable "1" (e_variable "2" empty), text "ab" empty)
    ≡ valued "2" "ab" (valued "1" "" none_bound)
    ∷ valued "2" "b" (valued "1" "a" none_bound)
    ∷ valued "2" "" (valued "1" "ab" none_bound)
    ∷ [])
    -- `s.a-b s.a_b` are two variables, `s.a s.A` are one
    × (map in_run
    ((s_variable "a-b" (s_variable "a_b" empty), text "xy" empty)
    ∷ (s_variable "a" (s_variable "A" empty), text "xy" empty)
    ∷ (s_variable "a" (s_variable "A" empty), text "xx" empty)
    ∷ [])
    ≡ true ∷ false ∷ true ∷ [])
    -- kinds tell variables apart: `s.A t.A e.A` with `'x' 'y' 'z'`
    × (map all_three ((s_variable "A" (t_variable "A" (e_variable "A" empty)), text "xyz" empty) ∷ []) ≡ (true, true, true) ∷ [])
    -- a call or a block at any depth: `(<F>)` and a block in a bracket match nothing
    × (map in_run
    ((bracket (call (marked 0 0 0) (named 0 "F") empty empty) empty, bracket empty empty)
    ∷ (bracket (block (marked 0 0 0) empty no_sentence empty) empty, bracket empty empty)
    ∷ (bracket empty empty, bracket empty empty)
    ∷ [])
    ≡ false ∷ false ∷ true ∷ [])
unfolding
    bytes_of characters same_bytes pattern_of is_literal literal_terms changed
    value_in splits same_terms after choices matches own_values shadows_with
match_examples = (refl, refl, refl, refl, refl, refl, refl)

-- Listings that are false, each in another way: `false_listings`, and the theorem `all_refuted`, by which the claim (specs/Claim.antt) refutes each. A claim
-- over fewer runs, calls, sentences or findings would be easier to prove, and would leave some of these unrefuted; tests/weaker_claims.py tries such claims.
-- Records are numbered as in a file.
-- docs/SPECIFICATION.md, 16.3.
use Rattle.std.specs.Prelude.{ℕ, zero, suc, refl}
use Prim.Native.String.{String}
use mathlib.Core.List.{List, [], ◌∷◌, Memᴰ}
use Rattle.std.proofs.Common.{inl, inr, arith}
use Rattle.names.specs.Name.{same_bytes}
use Rattle.law.specs.Tree.{Run, empty, bracket, block, no_sentence, sentence, no_condition, condition, Function, Law}
use Rattle.law.specs.Definition.{definition}
use Rattle.law.specs.Expression.{nothing}
use Rattle.law.specs.Examples.{bytes_of, marked}
use Rattle.matching.specs.Pattern.{pattern_of}
use Rattle.matching.specs.Match.{value_in, splits, same_terms, after, choices, matches}
use Rattle.matching.specs.Literal.{literal_terms, changed}
use Rattle.matching.specs.Examples.{characters, text, e_variable, s_variable, digits}
use Rattle.runs.specs.Machine.{give, answered, step, steps, run}
use Rattle.runs.specs.Claim.{NoFalseFinding}
use Rattle.runs.specs.Refuting.{shown}
use Rattle.runs.specs.Examples.{expressed, said, function, plain, calling, identifier}

pub record FalseListing : Type 0 where
  pub words : List ℕ
  pub law : Law

-- ---- the words of a finding, before those of later findings: lint, severity, span, a, b, the function's position, the subject

-- a call, by formats
abbrev pub recognition : ℕ → ℕ → List ℕ → List ℕ
recognition position subject later = 2 ∷ 1 ∷ 0 ∷ 0 ∷ 1 ∷ 0 ∷ position ∷ subject ∷ later

-- a second sentence, which the first shadows
abbrev pub dead : ℕ → ℕ → List ℕ → List ℕ
dead position subject later = 1 ∷ 1 ∷ 0 ∷ 0 ∷ 2 ∷ 1 ∷ position ∷ subject ∷ later

-- ---- the table

-- these words, of this law
abbrev pub false_of : List ℕ → Law → FalseListing
false_of words law = record { words = words; law = law }

-- so many calls of a function in a row, without arguments; their term records are counted from the first one's
unfoldable pub calls_of : String → ℕ → ℕ → Run → Run
calls_of f zero at rest = rest
calls_of f (suc n) at rest = calling at f empty (calls_of f n (suc at) rest)

abbrev pub false_listings : List FalseListing
false_listings =
    -- ---- recognition: the listed call finds a sentence whose left side matches
    -- `F { = <F>; }`: the run does not end
    false_of (recognition 0 0 [])
    (function "F" (plain 0 empty (calling 0 "F" empty empty) no_sentence)
    ∷ [])
    -- `F { = <G 'b'>; } G { 'a' = ; 'b' = ; }`: only the second sentence of G matches
    ∷ false_of (recognition 0 0 [])
    (function "F" (plain 0 empty (calling 0 "G" (text "b" empty) empty) no_sentence)
    ∷ function "G" (plain 1 (text "a" empty) empty (plain 2 (text "b" empty) empty no_sentence))
    ∷ [])
    -- `F { 'a' = <G 'b'>; 'b' = <G 'a'>; } G { 'a' = ; }`: the first finding, of `<G 'b'>`, is true, and the second, of `<G 'a'>`, is not
    ∷ false_of (recognition 0 1 (recognition 0 4 []))
    (function "F" (plain 0 (text "a" empty) (calling 1 "G" (text "b" empty) empty)
    (plain 1 (text "b" empty) (calling 4 "G" (text "a" empty) empty) no_sentence))
    ∷ function "G" (plain 2 (text "a" empty) empty no_sentence)
    ∷ [])
    -- `F { = <G>; } G { = ; }`: by literals, with severity 2 and a span
    ∷ false_of (2 ∷ 2 ∷ 6 ∷ 9 ∷ 2 ∷ 0 ∷ 0 ∷ 0 ∷ [])
    (function "F" (plain 0 empty (calling 0 "G" empty empty) no_sentence)
    ∷ function "G" (plain 1 empty empty no_sentence)
    ∷ [])
    -- `F { = <G>; } G { = <H>; } H { = ; }`: `<H>` stands in the second function
    ∷ false_of (recognition 1 1 [])
    (function "F" (plain 0 empty (calling 0 "G" empty empty) no_sentence)
    ∷ function "G" (plain 1 empty (calling 1 "H" empty empty) no_sentence)
    ∷ function "H" (plain 2 empty empty no_sentence)
    ∷ [])
    -- `F { = ; } G { = <F>; }`: only runs of the second function reach `<F>`
    ∷ false_of (recognition 1 0 [])
    (function "F" (plain 0 empty empty no_sentence)
    ∷ function "G" (plain 1 empty (calling 0 "F" empty empty) no_sentence)
    ∷ [])
    -- `F { = <G 'a'>; } G { 'b' = ; } G { 'a' = ; }`: only the last function of the name matches
    ∷ false_of (recognition 0 0 [])
    (function "F" (plain 0 empty (calling 0 "G" (text "a" empty) empty) no_sentence)
    ∷ function "G" (plain 1 (text "b" empty) empty no_sentence)
    ∷ function "G" (plain 2 (text "a" empty) empty no_sentence)
    ∷ [])
    -- `F { = <g_1>; } G-1 { = ; }`: the call spells its function's name in another way
    ∷ false_of (recognition 0 0 [])
    (function "F" (plain 0 empty (calling 0 "g_1" empty empty) no_sentence)
    ∷ function "G-1" (plain 1 empty empty no_sentence)
    ∷ [])
    -- `F { = [ : = <G>;]; } G { = ; }`: in a block's sentence
    ∷ false_of (recognition 0 1 [])
    (function "F" (plain 0 empty (block (marked 0 0 0) empty (plain 2 empty (calling 1 "G" empty empty) no_sentence) empty) no_sentence)
    ∷ function "G" (plain 1 empty empty no_sentence)
    ∷ [])
    -- `F { = [ : = [ : = <G>;];]; } G { = ; }`: in a block's sentence inside another block
    ∷ false_of (recognition 0 2 [])
    (function "F" (plain 0 empty (block (marked 0 0 0) empty (plain 2 empty (block (marked 1 0 0) empty
    (plain 3 empty (calling 2 "G" empty empty) no_sentence) empty) no_sentence) empty) no_sentence)
    ∷ function "G" (plain 1 empty empty no_sentence)
    ∷ [])
    -- `F { = [<G> : = ;]; } G { = ; }`: in a block's argument
    ∷ false_of (recognition 0 1 [])
    (function "F" (plain 0 empty (block (marked 0 0 0) (calling 1 "G" empty empty) (plain 2 empty empty no_sentence) empty) no_sentence)
    ∷ function "G" (plain 1 empty empty no_sentence)
    ∷ [])
    -- `F { , <G>: = ; } G { = ; }`: in a condition
    ∷ false_of (recognition 0 0 [])
    (function "F" (sentence (marked 0 0 0) empty (condition (calling 0 "G" empty empty) empty no_condition) empty no_sentence)
    ∷ function "G" (plain 1 empty empty no_sentence)
    ∷ [])
    -- `F { s.X, s.X: s.Y, <G s.Y>: = ; } G { s.X = ; }`: in a second condition, on what the first gave a value to
    ∷ false_of (recognition 0 3 [])
    (function "F" (sentence (marked 0 0 0) (s_variable "X" empty) (condition (s_variable "X" empty) (s_variable "Y" empty)
    (condition (calling 3 "G" (s_variable "Y" empty) empty) empty no_condition)) empty no_sentence)
    ∷ function "G" (plain 1 (s_variable "X" empty) empty no_sentence)
    ∷ [])
    -- `F { = (<G>); } G { = ; }`: in a bracket
    ∷ false_of (recognition 0 1 [])
    (function "F" (plain 0 empty (bracket (calling 1 "G" empty empty) empty) no_sentence)
    ∷ function "G" (plain 1 empty empty no_sentence)
    ∷ [])
    -- `F { = <G <H>>; } G { = ; } H { = ; }`: `<H>` is another call's argument
    ∷ false_of (recognition 0 1 [])
    (function "F" (plain 0 empty (calling 0 "G" (calling 1 "H" empty empty) empty) no_sentence)
    ∷ function "G" (plain 1 empty empty no_sentence)
    ∷ function "H" (plain 2 empty empty no_sentence)
    ∷ [])
    -- `F { = <G <H>>; } G { 'a' = ; } H { = 'a'; }`: `<G <H>>` is called on what H comes to
    ∷ false_of (recognition 0 0 [])
    (function "F" (plain 0 empty (calling 0 "G" (calling 1 "H" empty empty) empty) no_sentence)
    ∷ function "G" (plain 1 (text "a" empty) empty no_sentence)
    ∷ function "H" (plain 2 empty (text "a" empty) no_sentence)
    ∷ [])
    -- `F { = <G <H> <H>>; } G { 'ab' = ; }`: H is not defined, so that `<G <H> <H>>` needs two answers
    ∷ false_of (recognition 0 0 [])
    (function "F" (plain 0 empty (calling 0 "G" (calling 1 "H" empty (calling 2 "H" empty empty)) empty) no_sentence)
    ∷ function "G" (plain 1 (text "ab" empty) empty no_sentence)
    ∷ [])
    -- `F { (s.X) = <G (s.X)>; } G { (s.X) = ; }`: only arguments with brackets match, in the run and in the call
    ∷ false_of (recognition 0 2 [])
    (function "F" (plain 0 (bracket (s_variable "X" empty) empty) (calling 2 "G" (bracket (s_variable "X" empty) empty) empty) no_sentence)
    ∷ function "G" (plain 1 (bracket (s_variable "X" empty) empty) empty no_sentence)
    ∷ [])
    -- `F { Word = <G word>; } G { WORD = ; }`: only identifiers
    ∷ false_of (recognition 0 1 [])
    (function "F" (plain 0 (identifier "Word" empty) (calling 1 "G" (identifier "word" empty) empty) no_sentence)
    ∷ function "G" (plain 1 (identifier "WORD" empty) empty no_sentence)
    ∷ [])
    -- `F { 4294967296 = <G 4294967296>; } G { 4294967296 = ; }`: only numbers, here above 4294967295
    ∷ false_of (recognition 0 1 [])
    (function "F" (plain 0 (digits "4294967296" empty) (calling 1 "G" (digits "4294967296" empty) empty) no_sentence)
    ∷ function "G" (plain 1 (digits "4294967296" empty) empty no_sentence)
    ∷ [])
    -- `F { = <G 007>; } G { 7 = ; }`: by literals, and the number that matches is spelled in another way
    ∷ false_of (2 ∷ 1 ∷ 0 ∷ 0 ∷ 2 ∷ 0 ∷ 0 ∷ 0 ∷ [])
    (function "F" (plain 0 empty (calling 0 "G" (digits "007" empty) empty) no_sentence)
    ∷ function "G" (plain 1 (digits "7" empty) empty no_sentence)
    ∷ [])
    -- `F { = <G 'a'>; } G { s.X, s.X: 'b' = ; }`: the left side matches, though the condition fails
    ∷ false_of (recognition 0 0 [])
    (function "F" (plain 0 empty (calling 0 "G" (text "a" empty) empty) no_sentence)
    ∷ function "G" (sentence (marked 1 0 0) (s_variable "X" empty)
    (condition (s_variable "X" empty) (text "b" empty) no_condition) empty no_sentence)
    ∷ [])
    -- `F { = <G> .. <G>; } G { = ; }`, with 151 calls of G: the last of them is reached after 1,055 steps, and not before
    ∷ false_of (recognition 0 150 [])
    (function "F" (plain 0 empty (calls_of "G" 151 0 empty) no_sentence)
    ∷ function "G" (plain 1 empty empty no_sentence)
    ∷ [])
    -- ---- dead: the listed sentence is chosen
    -- `F { e.X = <F e.X>; }`: the run does not end
    ∷ false_of (dead 0 0 [])
    (function "F" (plain 0 (e_variable "X" empty) (calling 1 "F" (e_variable "X" empty) empty) no_sentence)
    ∷ [])
    -- `F { = s.X; }`: the result ends the run
    ∷ false_of (dead 0 0 [])
    (function "F" (plain 0 empty (s_variable "X" empty) no_sentence)
    ∷ [])
    -- `F { 'a' = ; 'b' = ; }`: the second sentence
    ∷ false_of (dead 0 1 [])
    (function "F" (plain 0 (text "a" empty) empty (plain 1 (text "b" empty) empty no_sentence))
    ∷ [])
    -- `F { s.X = ; 'a' = ; 'ab' = ; }`: the first finding, of the second sentence, is true, and the second, of the third sentence, is not
    ∷ false_of (dead 0 1 (dead 0 2 []))
    (function "F" (plain 0 (s_variable "X" empty) empty (plain 1 (text "a" empty) empty (plain 2 (text "ab" empty) empty no_sentence)))
    ∷ [])
    -- `F { = ; }`: severity 2, a span, and other numbers of sentences
    ∷ false_of (1 ∷ 2 ∷ 4 ∷ 6 ∷ 3 ∷ 2 ∷ 0 ∷ 0 ∷ [])
    (function "F" (plain 0 empty empty no_sentence)
    ∷ [])
    -- `F { = ; } G { = ; }`: the second function's sentence, which only its own runs choose
    ∷ false_of (dead 1 1 [])
    (function "F" (plain 0 empty empty no_sentence)
    ∷ function "G" (plain 1 empty empty no_sentence)
    ∷ [])
    -- `F { = ; } F { = ; }`: the sentence of the first of two functions of one name
    ∷ false_of (dead 0 0 [])
    (function "F" (plain 0 empty empty no_sentence)
    ∷ function "F" (plain 1 empty empty no_sentence)
    ∷ [])
    -- `F { e.X, e.X: 'a' = ; 'b' = ; }`: the first sentence matches too, and its condition fails
    ∷ false_of (dead 0 1 [])
    (function "F" (sentence (marked 0 0 0) (e_variable "X" empty) (condition (e_variable "X" empty) (text "a" empty) no_condition) empty
    (plain 1 (text "b" empty) empty no_sentence))
    ∷ [])
    -- `F { e.X e.Y, e.X: 'a' = ; }`: the first match of the left side leaves `e.X` empty, so that only a later one passes the condition
    ∷ false_of (dead 0 0 [])
    (function "F" (sentence (marked 0 0 0) (e_variable "X" (e_variable "Y" empty))
    (condition (e_variable "X" empty) (text "a" empty) no_condition) empty no_sentence)
    ∷ [])
    -- `F { e.X, e.X: e.Y e.Z, e.Y: 'a' = ; }`: the first match of the first condition leaves `e.Y` empty, so that only a later one passes the second
    ∷ false_of (dead 0 0 [])
    (function "F" (sentence (marked 0 0 0) (e_variable "X" empty) (condition (e_variable "X" empty) (e_variable "Y" (e_variable "Z" empty))
    (condition (e_variable "Y" empty) (text "a" empty) no_condition)) empty no_sentence)
    ∷ [])
    -- `F { , <G> <G>: 'ab' = ; }`: G is not defined, so that two answers are needed
    ∷ false_of (dead 0 0 [])
    (function "F" (sentence (marked 0 0 0) empty
    (condition (calling 0 "G" empty (calling 1 "G" empty empty)) (text "ab" empty) no_condition) empty no_sentence)
    ∷ [])
    -- `F { (s.X) = ; }`: only arguments with brackets match
    ∷ false_of (dead 0 0 [])
    (function "F" (plain 0 (bracket (s_variable "X" empty) empty) empty no_sentence)
    ∷ [])
    -- `F { Word = ; }`: only identifiers
    ∷ false_of (dead 0 0 [])
    (function "F" (plain 0 (identifier "Word" empty) empty no_sentence)
    ∷ [])
    -- `F { 4294967296 = ; }`: only numbers, here above 4294967295
    ∷ false_of (dead 0 0 [])
    (function "F" (plain 0 (digits "4294967296" empty) empty no_sentence)
    ∷ [])
    -- `F { , <G> .. <G>: = ; } G { = ; }`, with 150 calls of G: chosen after 1,054 steps, and not before
    ∷ false_of (dead 0 0 [])
    (function "F" (sentence (marked 0 0 0) empty (condition (calls_of "G" 150 0 empty) empty no_condition) empty no_sentence)
    ∷ function "G" (plain 1 empty empty no_sentence)
    ∷ [])
    ∷ []

-- ---- the theorem

abbrev pub AllRefuted : List FalseListing → Type 0
AllRefuted [] = Unit {0}
AllRefuted (l ∷ ls) = (NoFalseFinding l.law l.words → ⊥) × AllRefuted ls

abbrev of_first : {f : Function} {fs : Law} → Memᴰ f (f ∷ fs)
of_first = Memᴰ.head refl

abbrev of_second : {f g : Function} {fs : Law} → Memᴰ f (g ∷ f ∷ fs)
of_second = Memᴰ.tail (Memᴰ.head refl)

infixr 30 ◌and◌
abbrev ◌and◌ : {A B : Type 0} → A → B → A × B
a and b = (a, b)

-- in the table's order: the run, and which finding is false in it. Of recognition the sentence that matches, of dead where the function's sentence stands
pub all_refuted : AllRefuted false_listings
unfolding
    bytes_of characters calls_of same_bytes pattern_of literal_terms changed value_in splits same_terms after choices matches
    definition give answered step steps run
all_refuted =
    shown of_first nothing [] 5 ((0, omega arith, refl, refl), inl refl)
    and shown of_first nothing [] 6 ((0, omega arith, refl, refl), inr (inl refl))
    and shown of_first (said "b") [] 8 ((1, omega arith, refl, refl), inl refl)
    and shown of_first nothing [] 5 ((0, omega arith, refl, refl), inl refl)
    and shown of_first nothing [] 11 ((0, omega arith, refl, refl), inl refl)
    and shown of_second nothing [] 5 ((0, omega arith, refl, refl), inl refl)
    and shown of_first nothing [] 6 ((0, omega arith, refl, refl), inl refl)
    and shown of_first nothing [] 5 ((0, omega arith, refl, refl), inl refl)
    and shown of_first nothing [] 11 ((0, omega arith, refl, refl), inl refl)
    and shown of_first nothing [] 17 ((0, omega arith, refl, refl), inl refl)
    and shown of_first nothing [] 6 ((0, omega arith, refl, refl), inl refl)
    and shown of_first nothing [] 4 ((0, omega arith, refl, refl), inl refl)
    and shown of_first (said "a") [] 8 ((0, omega arith, refl, refl), inl refl)
    and shown of_first nothing [] 6 ((0, omega arith, refl, refl), inl refl)
    and shown of_first nothing [] 6 ((0, omega arith, refl, refl), inl refl)
    and shown of_first nothing [] 13 ((0, omega arith, refl, refl), inl refl)
    and shown of_first nothing (said "a" ∷ said "b" ∷ []) 11 ((0, omega arith, refl, refl), inl refl)
    and shown of_first (expressed (bracket (text "a" empty) empty)) [] 8 ((0, omega arith, refl, refl), inl refl)
    and shown of_first (expressed (identifier "Word" empty)) [] 6 ((0, omega arith, refl, refl), inl refl)
    and shown of_first (expressed (digits "4294967296" empty)) [] 6 ((0, omega arith, refl, refl), inl refl)
    and shown of_first nothing [] 6 ((0, omega arith, refl, refl), inl refl)
    and shown of_first nothing [] 6 ((0, omega arith, refl, refl), inl refl)
    and shown of_first nothing [] 1055 ((0, omega arith, refl, refl), inl refl)
    and shown of_first nothing [] 2 (inl (inl refl), (0, omega arith, refl, refl))
    and shown of_first nothing [] 2 (inl (inl refl), (0, omega arith, refl, refl))
    and shown of_first (said "b") [] 4 (inl (inr (inl refl)), (0, omega arith, refl, refl))
    and shown of_first (said "ab") [] 6 (inl (inr (inr (inl refl))), (1, omega arith, refl, refl))
    and shown of_first nothing [] 2 (inl (inl refl), (0, omega arith, refl, refl))
    and shown of_second nothing [] 2 (inr (inl (inl refl)), (0, omega arith, refl, refl))
    and shown of_first nothing [] 2 (inl (inl refl), (0, omega arith, refl, refl))
    and shown of_first (said "b") [] 8 (inl (inr (inl refl)), (0, omega arith, refl, refl))
    and shown of_first (said "a") [] 9 (inl (inl refl), (0, omega arith, refl, refl))
    and shown of_first (said "a") [] 12 (inl (inl refl), (0, omega arith, refl, refl))
    and shown of_first nothing (said "a" ∷ said "b" ∷ []) 10 (inl (inl refl), (0, omega arith, refl, refl))
    and shown of_first (expressed (bracket (text "a" empty) empty)) [] 2 (inl (inl refl), (0, omega arith, refl, refl))
    and shown of_first (expressed (identifier "Word" empty)) [] 2 (inl (inl refl), (0, omega arith, refl, refl))
    and shown of_first (expressed (digits "4294967296" empty)) [] 2 (inl (inl refl), (0, omega arith, refl, refl))
    and shown of_first nothing [] 1054 (inl (inl refl), (0, omega arith, refl, refl))
    and tt

-- Document 01's example of a listing and its small laws on findings, which it does not mark *, and further examples of the definitions, all by computation.
-- docs/SPECIFICATION.md, 4.6, 18.3, 18.5.
use Rattle.std.specs.Prelude.{ℕ, suc, Bool, true, false, List, [], ◌∷◌, ◌++◌, map, ◌≡◌, refl, replicate}
use Prim.Native.String.{String}
use Rattle.names.specs.Name.{every_byte, same_bytes, order_bytes}
use Rattle.file.specs.Answer.{Answer, refused, given, map_answer}
use Rattle.law.specs.Tree.{Run, empty, bracket, call, block, Sentences, no_sentence, sentence, no_condition, condition, Function, Law}
use Rattle.law.specs.Definition.{definition}
use Rattle.law.specs.Examples.{bytes_of, named, marked, example_law, with_block_law}
use Rattle.shapes.specs.Format.{size}
use Rattle.shapes.specs.Join.{join_rows}
use Rattle.shapes.specs.Disjoint.{disjoint_rows}
use Rattle.shapes.specs.Same.{same_shapes}
use Rattle.shapes.specs.Display.{spaced, display}
use Rattle.formats.specs.FormatOf.{pattern_shapes, chain, result_shapes}
use Rattle.formats.specs.Infer.{insert_name, names_of, find, renew, all_at, join_results, join_patterns, round, rounds_from, arguments, infer_within, infer}
use Rattle.formats.specs.Examples.{ones}
use Rattle.matching.specs.Pattern.{pattern_of}
use Rattle.matching.specs.Match.{value_in, splits, same_terms, after, choices, matches}
use Rattle.matching.specs.Literal.{is_literal, literal_terms}
use Rattle.matching.specs.Shadow.{own_values, shadows_with}
use Rattle.matching.specs.Examples.{s_variable, t_variable, e_variable, digits, characters, text}
use Rattle.lints.specs.Finding.{Finding, lint_of, word_a, finding_words, findings_from}
use Rattle.lints.specs.Lint.{lint_number}
use Rattle.lints.specs.Calls.{calls}
use Rattle.lints.specs.Dead.{earliest, dead_after, blocks, dead_remarks, dead_findings}
use Rattle.lints.specs.Recognition.{some_matches, compared, judged, recognition_remarks, recognition_findings, some_over, arguments_over}
use Rattle.lints.specs.Builtin.{macrodigits, unsigned, all_zero, first_fails, characters_of, domain_in, builtin_on, builtin_remarks, builtin_findings}
use Rattle.lints.specs.Open.{e_occurrences, open_in, open_remarks, open_findings}
use Rattle.lints.specs.Levels.{Override, Settings, overrides_allowed, settings_allowed, override_of, severity_of, is_shown, shown, listing_words}
use Rattle.lints.specs.Findings.{findings_of, formats_of, Listing, listing}
use Rattle.buffers.specs.Decimal.{digits_within, decimal}
use Rattle.lints.specs.Message.{claim_text, message}

-- ---- settings, and what is looked at

abbrev classic : Settings
classic = record { mode = 0; overrides = [] }

abbrev strict : Settings
strict = record { mode = 1; overrides = [] }

abbrev over : ℕ → ℕ → Override
over lint severity = record { lint = lint; severity = severity }

-- the words, the rounds, and whether the last changed nothing
abbrev answered : Settings → Law → Answer (List ℕ × ℕ × Bool)
answered s law = map_answer (λ (l : Listing). (listing_words s l.findings, l.inferred.rounds, l.inferred.settled)) (listing 64 s law)

-- lint, a and subject of each finding, strict
abbrev summary_of : Law → Answer (List (ℕ × ℕ × ℕ))
summary_of law =
    map_answer
    (λ (l : Listing). map {B = ℕ × ℕ × ℕ} (λ (f : Finding). (lint_number (lint_of f.claim), word_a f.claim, f.subject.at)) l.findings)
    (listing 64 strict law)

-- their texts
abbrev texts : Law → Answer (List (List ℕ))
texts law = map_answer (λ (l : Listing). map message l.findings) (listing 64 strict law)

-- ---- laws by what is written; sentences and calls have a record number, and spans do not matter

abbrev function : String → Sentences → Function
function f ss = record { name = named 0 f; sentences = ss }

abbrev plain : ℕ → Run → Run → Sentences → Sentences
plain at p r = sentence (marked at 0 0) p no_condition r

abbrev calling : ℕ → String → Run → Run → Run
calling at f = call (marked at 0 0) (named 0 f)

-- a block with two sentences, the second of them dead: `[argument : e.A = ; s.B = result;]`, its sentences from record `at` on
abbrev dead_block : ℕ → Run → Run → Run
dead_block at argument result =
    block (marked 0 0 0) argument (plain at (e_variable "A" empty) empty (plain (suc at) (s_variable "B" empty) result no_sentence)) empty

-- `G { = <f argument>; }`, where nothing else is defined
abbrev calls_only : String → Run → Law
calls_only f argument = function "G" (plain 9 empty (calling 0 f argument empty) no_sentence) ∷ []

-- `F { pattern = ; } G { = <F argument>; }`
abbrev asking : Run → Run → Law
asking pattern argument = function "F" (plain 0 pattern empty no_sentence) ∷ calls_only "F" argument

-- ---- document 01

abbrev DocumentLaws : Type 0
DocumentLaws =
    -- `F { e.X = 'a'; s.A = <F 1>; } H { 'q' = <H 2>; }`, as the listing program prints it
    (answered strict example_law ≡ given (1 ∷ 1 ∷ 15 ∷ 26 ∷ 2 ∷ 1 ∷ 0 ∷ 1 ∷ 2 ∷ 1 ∷ 40 ∷ 45 ∷ 1 ∷ 0 ∷ 1 ∷ 6 ∷ [], 2, true))
    -- "No functions: no findings, 1 round, settled."
    × (answered strict [] ≡ given ([], 1, true))
    -- "`<Add 1>` and `<Div 1 '-' 0>` are findings; `<Add 1 2 3>` is not; `<Numb>` is."
    × (summary_of (calls_only "Add" (ones 1)) ≡ given ((3, 1, 0) ∷ []))
    × (summary_of (calls_only "Div" (digits "1" (text "-" (digits "0" empty)))) ≡ given ((3, 2, 0) ∷ []))
    × (summary_of (calls_only "Add" (digits "1" (digits "2" (digits "3" empty)))) ≡ given [])
    × (summary_of (calls_only "Numb" empty) ≡ given ((3, 3, 0) ∷ []))

-- ---- lint 1

abbrev DeadLaws : Type 0
DeadLaws =
    -- the earliest that shadows: `F { 'a' = ; s.A = ; e.X, : = ; t.B = ; 'b' = ; e.Y = ; }`; the third has a condition, and nothing shadows the sixth
    (summary_of
    (function "F"
    (plain 0 (text "a" empty) empty
    (plain 1 (s_variable "A" empty) empty
    (sentence (marked 2 0 0) (e_variable "X" empty) (condition empty empty no_condition) empty
    (plain 3 (t_variable "B" empty) empty
    (plain 4 (text "b" empty) empty
    (plain 5 (e_variable "Y" empty) empty no_sentence)))))) ∷ [])
    ≡ given ((1, 5, 4) ∷ []))
    × (answered strict (function "F" (plain 0 (e_variable "X" empty) empty (plain 1 empty empty (plain 2 empty empty no_sentence))) ∷ [])
    ≡ given (1 ∷ 1 ∷ 0 ∷ 0 ∷ 2 ∷ 1 ∷ 0 ∷ 1 ∷ 1 ∷ 1 ∷ 0 ∷ 0 ∷ 3 ∷ 1 ∷ 0 ∷ 2 ∷ [], 2, true))
    -- a block's sentences count within the block, and the function is the one around it: `F { = ; } G { = [ : e.A = ; s.B = ;]; }`
    × (answered strict (function "F" (plain 0 empty empty no_sentence) ∷ function "G" (plain 1 empty (dead_block 2 empty empty) no_sentence) ∷ [])
    ≡ given (1 ∷ 1 ∷ 0 ∷ 0 ∷ 2 ∷ 1 ∷ 1 ∷ 3 ∷ [], 2, true))
    -- the order: the function's own sentences, pattern, a condition's result and pattern, result; in these, calls' arguments and brackets; at a block
    -- its argument, its own sentences, then inside them
    × (summary_of
    (function "F"
    (sentence (marked 0 0 0) (dead_block 2 empty empty)
    (condition (calling 0 "G" (dead_block 4 empty empty) empty) (bracket (dead_block 6 empty empty) empty) no_condition)
    (dead_block 8 (dead_block 10 empty empty) (dead_block 12 empty empty))
    (plain 1 (e_variable "X" empty) empty (plain 14 empty empty no_sentence))) ∷ [])
    ≡ given ((1, 3, 14) ∷ (1, 2, 3) ∷ (1, 2, 5) ∷ (1, 2, 7) ∷ (1, 2, 11) ∷ (1, 2, 9) ∷ (1, 2, 13) ∷ []))
    -- numbers by value: `F { 7 = ; 007 = ; 70 = ; s.A s.A = ; 0 00 = ; }`
    × (summary_of
    (function "F"
    (plain 0 (digits "7" empty) empty
    (plain 1 (digits "007" empty) empty
    (plain 2 (digits "70" empty) empty
    (plain 3 (s_variable "A" (s_variable "A" empty)) empty
    (plain 4 (digits "0" (digits "00" empty)) empty no_sentence))))) ∷ [])
    ≡ given ((1, 2, 1) ∷ (1, 5, 4) ∷ []))
    -- an outer variable is free in a block: `F { s.A e.X = [e.X : s.A = 1; s.B = 2;]; }`, here with a condition
    × (summary_of with_block_law ≡ given ((1, 2, 2) ∷ []))

-- ---- lint 2

abbrev RecognitionLaws : Type 0
RecognitionLaws =
    -- a literal argument that matches is no finding, else formats, else literals: `F { 'a' = ; }` with `'a'`, `1`, `'b'`
    (summary_of (asking (text "a" empty) (text "a" empty)) ≡ given [])
    × (summary_of (asking (text "a" empty) (digits "1" empty)) ≡ given ((2, 1, 0) ∷ []))
    × (summary_of (asking (text "a" empty) (text "b" empty)) ≡ given ((2, 2, 0) ∷ []))
    -- every sentence is looked at: `F { 'a' = ; 'b' = ; } G { = <F 'b'>; }`
    × (summary_of (function "F" (plain 0 (text "a" empty) empty (plain 1 (text "b" empty) empty no_sentence)) ∷ calls_only "F" (text "b" empty)) ≡ given [])
    -- brackets are literal: `F { ('a') = ; } G { = <F ('b')>; }`; a bracket is gone back into: `F { (e.A e.B) e.A = ; }` with `('x') 'x'`
    × (summary_of (asking (bracket (text "a" empty) empty) (bracket (text "b" empty) empty)) ≡ given ((2, 2, 0) ∷ []))
    × (summary_of (asking (bracket (e_variable "A" (e_variable "B" empty)) (e_variable "A" empty)) (bracket (text "x" empty) (text "x" empty)))
    ≡ given ((4, 3, 0) ∷ []))
    -- numbers by value: `F { 007 = ; }` with `7` and with `70`
    × (summary_of (asking (digits "007" empty) (digits "7" empty)) ≡ given [])
    × (summary_of (asking (digits "007" empty) (digits "70" empty)) ≡ given ((2, 2, 0) ∷ []))
    -- what is not literal: `s.X 'b'` is longer than `'a'`, `s.X` may match it
    × (summary_of (asking (text "a" empty) (s_variable "X" (text "b" empty))) ≡ given ((2, 1, 0) ∷ []))
    × (summary_of (asking (text "a" empty) (s_variable "X" empty)) ≡ given [])
    -- a function that is not defined, and one without sentences
    × (summary_of (calls_only "F" (text "b" empty)) ≡ given [])
    × (summary_of (function "f_1" no_sentence ∷ calls_only "F-1" (e_variable "X" empty)) ≡ given ((2, 1, 0) ∷ []))
    -- conditions are not looked at: `F { 'a', : 'b' = ; } G { = <F 'a'>; }`
    × (summary_of
    (function "F" (sentence (marked 0 0 0) (text "a" empty) (condition empty (text "b" empty) no_condition) empty no_sentence)
    ∷ calls_only "F" (text "a" empty))
    ≡ given [])
    -- a name defined twice: literal matching by the last, formats join: `F { 'a' = ; } F { 1 = ; }` with `'a'` and with `1`
    × (summary_of (function "F" (plain 0 (text "a" empty) empty no_sentence) ∷ asking (digits "1" empty) (text "a" empty)) ≡ given ((2, 2, 0) ∷ []))
    × (summary_of (function "F" (plain 0 (text "a" empty) empty no_sentence) ∷ asking (digits "1" empty) (digits "1" empty)) ≡ given [])
    -- a call before its argument, in conditions' results and in blocks too, and not in patterns: `F { 'a' = 1; }`, and a function with calls everywhere
    × (summary_of
    (function "F" (plain 0 (text "a" empty) (ones 1) no_sentence)
    ∷ function "G"
    (sentence (marked 1 0 0) (calling 0 "F" empty empty) (condition (calling 1 "F" empty empty) (calling 2 "F" empty empty) no_condition)
    (bracket (calling 3 "F" (calling 4 "F" empty empty) empty)
    (block (marked 5 0 0) (calling 6 "F" empty empty)
    (sentence (marked 2 0 0) (calling 7 "F" empty empty) (condition (calling 8 "F" empty empty) empty no_condition) (calling 9 "F" empty empty) no_sentence)
    (calling 10 "F" empty empty)))
    no_sentence)
    ∷ [])
    ≡ given ((2, 1, 1) ∷ (2, 1, 3) ∷ (2, 1, 4) ∷ (2, 1, 6) ∷ (2, 1, 8) ∷ (2, 1, 9) ∷ (2, 1, 10) ∷ []))
    -- refusal 10 by an argument that is compared: 65 characters where `e.X` matches them, where `'b'` does not, and where the function is not defined
    × (summary_of (asking (e_variable "X" empty) (characters (replicate 65 97) empty)) ≡ given [])
    × (summary_of (asking (text "b" empty) (characters (replicate 65 97) empty)) ≡ refused 10)
    × (summary_of (asking (text "b" empty) (characters (replicate 64 97) empty)) ≡ given ((2, 1, 0) ∷ []))
    × (summary_of (calls_only "F" (characters (replicate 65 97) empty)) ≡ given [])

-- ---- lint 3

-- the word a of a builtin call; 0 where there is no finding
abbrev first_a : List Finding → ℕ
first_a [] = 0
first_a (f ∷ fs) = word_a f.claim

abbrev failing : String → Run → ℕ
failing f argument = first_a (builtin_findings (calls_only f argument))

abbrev BuiltinLaws : Type 0
BuiltinLaws =
    (map {B = ℕ} (λ (q : String × Run). failing q.0 q.1)
    -- nothing, a sign alone, a first operand alone, a second operand that is a sign alone
    (("Add", empty)
    ∷ ("Sub", text "-" empty)
    ∷ ("Mul", digits "7" empty)
    ∷ ("Compare", text "+" (digits "7" empty))
    ∷ ("Divmod", digits "7" (text "-" empty))
    -- zero, by value; not where nothing is divided, nor where another macrodigit is not zero
    ∷ ("Mod", digits "7" (digits "00" (digits "0" empty)))
    ∷ ("Divmod", digits "7" (digits "0" empty))
    ∷ ("MUL", digits "7" (digits "0" empty))
    ∷ ("div", digits "7" (digits "0" (digits "1" empty)))
    -- undecided: a value over 4294967295, a second sign, a bracket, a variable, a character, a call
    ∷ ("Div", digits "4294967295" (digits "0" empty))
    ∷ ("Div", digits "4294967296" (digits "0" empty))
    ∷ ("Div", digits "000000000000000000004294967295" (digits "0" empty))
    ∷ ("Add", text "--" empty)
    ∷ ("Add", bracket (digits "1" empty) empty)
    ∷ ("Add", e_variable "X" empty)
    ∷ ("Add", text "1" empty)
    ∷ ("Add", digits "1" (calling 1 "F" empty empty))
    -- digits
    ∷ ("Numb", text "0123456789" empty)
    ∷ ("NUMB", text "12a" empty)
    ∷ ("Numb", digits "12" empty)
    ∷ ("Numb", s_variable "X" empty)
    -- no such builtin
    ∷ ("Symb", empty)
    ∷ [])
    ≡ 1 ∷ 1 ∷ 1 ∷ 1 ∷ 1 ∷ 2 ∷ 2 ∷ 0 ∷ 0 ∷ 2 ∷ 0 ∷ 2 ∷ 0 ∷ 0 ∷ 0 ∷ 0 ∷ 0 ∷ 0 ∷ 3 ∷ 0 ∷ 0 ∷ 0 ∷ [])
    -- also where the law defines the name: `Add { e.X = ; } G { = <Add 1>; }`
    × (summary_of (function "ADD" (plain 0 (e_variable "X" empty) empty no_sentence) ∷ calls_only "Add" (ones 1)) ≡ given ((3, 1, 0) ∷ []))

-- ---- lint 4

-- `F { e.X (e.X) = ; s.A e.X = ; e.X <F e.X> = ; e.1 e.2 e.3 = [ : e.1 e.2 = ;]; }`
abbrev open_law : Law
open_law =
    function "F"
    (plain 0 (e_variable "X" (bracket (e_variable "X" empty) empty)) empty
    (plain 1 (s_variable "A" (e_variable "X" empty)) empty
    (plain 2 (e_variable "X" (calling 0 "F" (e_variable "X" empty) empty)) empty
    (plain 3 (e_variable "1" (e_variable "2" (e_variable "3" empty)))
    (block (marked 1 0 0) empty (plain 4 (e_variable "1" (e_variable "2" empty)) empty no_sentence) empty)
    no_sentence)))) ∷ []

-- all four: `F { e.X = <Add 1>; e.1 e.2 = <H 2>; } H { 'q' = ; }`
abbrev four_lints : Law
four_lints =
    function "F"
    (plain 0 (e_variable "X" empty) (calling 0 "Add" (ones 1) empty)
    (plain 1 (e_variable "1" (e_variable "2" empty)) (calling 1 "H" (digits "2" empty) empty) no_sentence))
    ∷ function "H" (plain 2 (text "q" empty) empty no_sentence)
    ∷ []

abbrev OpenLaws : Type 0
OpenLaws =
    (summary_of open_law ≡ given ((4, 2, 0) ∷ (4, 3, 3) ∷ []))
    -- lint by lint, in the order of their numbers
    × (summary_of four_lints ≡ given ((1, 2, 1) ∷ (2, 1, 1) ∷ (3, 1, 0) ∷ (4, 2, 1) ∷ []))

-- ---- levels and mode

-- `F { e.X = ; e.A e.B = ; }` has a dead sentence, which is open too
abbrev dead_and_open : Law
dead_and_open = function "F" (plain 0 (e_variable "X" empty) empty (plain 1 (e_variable "A" (e_variable "B" empty)) empty no_sentence)) ∷ []

-- lint and severity of what is shown
abbrev levels : Settings → List (ℕ × ℕ)
levels s =
    map {B = ℕ × ℕ} (λ (f : Finding). (lint_number (lint_of f.claim), severity_of s (lint_of f.claim)))
    (shown s (dead_findings dead_and_open ++ open_findings dead_and_open))

abbrev LevelLaws : Type 0
LevelLaws =
    (map levels
    (strict
    ∷ classic
    ∷ record { mode = 1; overrides = over 1 3 ∷ [] }
    ∷ record { mode = 1; overrides = over 4 3 ∷ [] }
    ∷ record { mode = 0; overrides = over 4 2 ∷ over 4 3 ∷ over 1 0 ∷ [] }
    ∷ record { mode = 1; overrides = over 1 3 ∷ over 1 0 ∷ over 3 0 ∷ [] }
    ∷ [])
    ≡ ((1, 1) ∷ (4, 3) ∷ [])
    ∷ ((1, 1) ∷ [])
    ∷ ((4, 3) ∷ [])
    ∷ ((1, 1) ∷ [])
    ∷ ((1, 0) ∷ (4, 2) ∷ [])
    ∷ ((4, 3) ∷ [])
    ∷ [])
    × (map settings_allowed
    (strict
    ∷ record { mode = 2; overrides = [] }
    ∷ record { mode = 0; overrides = replicate 8 (over 4 3) }
    ∷ record { mode = 0; overrides = replicate 9 (over 4 3) }
    ∷ record { mode = 0; overrides = over 1 0 ∷ over 0 0 ∷ [] }
    ∷ record { mode = 0; overrides = over 5 0 ∷ [] }
    ∷ record { mode = 0; overrides = over 1 4 ∷ [] }
    ∷ [])
    ≡ true ∷ false ∷ true ∷ false ∷ false ∷ false ∷ false ∷ [])

-- ---- texts

abbrev TextLaws : Type 0
TextLaws =
    (texts example_law
    ≡ given
    (bytes_of "sentence 2 of `F` is unreachable: sentence 1 has no conditions and already matches every argument this one matches"
    ∷ bytes_of "`<H ...>` always fails: `H` accepts [C], but this call passes [N]"
    ∷ []))
    × (texts with_block_law
    ≡ given (bytes_of "sentence 2 of `a block in `F`` is unreachable: sentence 1 has no conditions and already matches every argument this one matches" ∷ []))
    -- the name as it is spelled at the call
    × (texts (function "Foo_Bar" (plain 0 (text "a" empty) empty no_sentence) ∷ calls_only "foo-bar" (text "b" empty))
    ≡ given (bytes_of "`<foo-bar ...>` always fails: no sentence of `foo-bar` matches this argument" ∷ []))
    × (texts (calls_only "add" (ones 1)) ≡ given (bytes_of "`<add ...>` always fails: expected exactly two integer numbers" ∷ []))
    × (texts (calls_only "Mod" (digits "1" (digits "0" empty))) ≡ given (bytes_of "`<Mod ...>` always fails: division by zero" ∷ []))
    × (texts (calls_only "Numb" empty) ≡ given (bytes_of "`<Numb ...>` always fails: expected a non-empty character string of decimal digits" ∷ []))
    × (texts (function "F" (plain 0 (e_variable "X" (e_variable "Y" empty)) empty no_sentence) ∷ [])
    ≡ given
    (bytes_of "sentence of `F` has 2 `e.`-variables in its pattern; matching may backtrack proportionally to the argument length to the power 2" ∷ []))
    -- numbers
    × (map decimal (0 ∷ 9 ∷ 10 ∷ 128 ∷ 509 ∷ []) ≡ map bytes_of ("0" ∷ "9" ∷ "10" ∷ "128" ∷ "509" ∷ []))

-- ---- all of them hold

pub examples : DocumentLaws × DeadLaws × RecognitionLaws × BuiltinLaws × OpenLaws × LevelLaws × TextLaws
unfolding
    bytes_of characters same_bytes order_bytes every_byte definition
    join_rows disjoint_rows size pattern_shapes chain result_shapes same_shapes insert_name names_of find renew all_at join_results join_patterns round rounds_from
    arguments infer_within infer pattern_of value_in splits same_terms after choices matches is_literal literal_terms own_values shadows_with spaced display
    finding_words findings_from calls earliest dead_after blocks dead_remarks dead_findings
    some_matches compared judged recognition_remarks recognition_findings some_over arguments_over
    macrodigits unsigned all_zero first_fails characters_of domain_in builtin_on builtin_remarks builtin_findings
    e_occurrences open_in open_remarks open_findings overrides_allowed settings_allowed override_of severity_of is_shown shown listing_words findings_of formats_of listing
    digits_within claim_text message
examples = (
  (refl, refl, refl, refl, refl, refl),
  (refl, refl, refl, refl, refl, refl),
  (refl, refl, refl, refl, refl, refl, refl, refl, refl, refl, refl, refl, refl, refl, refl, refl, refl, refl, refl, refl),
  (refl, refl),
  (refl, refl),
  (refl, refl),
  (refl, refl, refl, refl, refl, refl, refl, refl),
)

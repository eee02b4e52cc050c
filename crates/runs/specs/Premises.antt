-- The claim (specs/Claim.antt) and its premise, by computation: a law whose listed call is reached in a run, a law that breaks the claim where the
-- premise is dropped, and one that would break it of blocks' sentences. Each law is read from its file. Two things are no premises, and nothing breaks
-- without them: that no two functions have one folded name, and that no number has a needless leading zero.
-- docs/SPECIFICATION.md, 16.5.
use Rattle.std.specs.Prelude.{ℕ, zero, suc, ◌+◌, Bool, true, false, ◌≡◌, refl}
use mathlib.Core.List.Memᴰ
use mathlib.Core.List.{List, [], ◌∷◌, ◌++◌, flat_map}
use Rattle.std.proofs.Common.{inl, arith}
use Rattle.std.proofs.Math.Option.{Option, none, some}
use Rattle.names.specs.Name.{every_byte, same_bytes, order_bytes}
use Rattle.file.specs.Answer.{Answer, given, ◌>>=◌}
use Rattle.file.specs.Word.{word_at}
use Rattle.file.specs.Below.{every, total}
use Rattle.file.specs.Sections.{section, sections_of}
use Rattle.file.specs.Fields.{fields_allowed, term_allowed, spelled}
use Rattle.file.specs.Forest.{decode, forest_of}
use Rattle.file.specs.Head.{term_at, term_from}
use Rattle.law.specs.Tree.{character, number, symbol_kind, expression_kind, Run, empty, symbol, variable, call, block, Sentences, no_sentence, sentence, no_condition, Law, keep, skip}
use Rattle.law.specs.Definition.{definition}
use Rattle.law.specs.Expression as expression
use Rattle.law.specs.Expression.{Expression, nothing}
use Rattle.law.specs.Places.{first_sentence, block_first, first_condition, pattern_at, condition_result_at, result_at, pattern_part, result_part, condition_result_part, condition_pattern_part}
use Rattle.law.specs.Runs.{end_of, fits, used_up, runs_allowed, blocks_allowed}
use Rattle.law.specs.Reading.{forest_run, conditions_from, sentences_from, functions_from, tree_of}
use Rattle.law.specs.Depth.{deepest, depth_of}
use Rattle.law.specs.Variables.{variables_from, occurs, distinct, patterns_allowed}
use Rattle.law.specs.Law.{law_of}
use Rattle.law.specs.Examples.{example_file, example_law, with_block, with_block_law, bytes_of, named, marked, file_bytes, function_words, sentence_words, term_words}
use Rattle.shapes.specs.Format.{size}
use Rattle.shapes.specs.Join.{join_rows}
use Rattle.shapes.specs.Disjoint.{disjoint_rows}
use Rattle.shapes.specs.Same.{same_shapes}
use Rattle.formats.specs.FormatOf.{pattern_shapes, chain, result_shapes}
use Rattle.formats.specs.Infer.{insert_name, names_of, find, renew, all_at, join_results, join_patterns, round, rounds_from, arguments, infer_within, infer}
use Rattle.matching.specs.Pattern.{pattern_of}
use Rattle.matching.specs.Match.{none_bound, value_in, splits, same_terms, after, choices, matches}
use Rattle.matching.specs.Literal.{is_literal, literal_terms, changed}
use Rattle.matching.specs.Shadow.{own_values, shadows_with}
use Rattle.matching.specs.Examples.{characters}
use Rattle.lints.specs.Finding.{finding_words, findings_from}
use Rattle.lints.specs.Calls.{calls}
use Rattle.lints.specs.Dead.{earliest, dead_after, blocks, dead_remarks, dead_findings}
use Rattle.lints.specs.Recognition.{some_matches, compared, judged, recognition_remarks, recognition_findings, some_over, arguments_over}
use Rattle.lints.specs.Builtin.{macrodigits, unsigned, all_zero, first_fails, characters_of, domain_in, builtin_on, builtin_remarks, builtin_findings}
use Rattle.lints.specs.Open.{e_occurrences, open_in, open_remarks, open_findings}
use Rattle.lints.specs.Levels.{Settings, override_of, severity_of, is_shown, shown, listing_words}
use Rattle.lints.specs.Findings.{findings_of, formats_of, listing}
use Rattle.runs.specs.Machine.{Env, Stack, over, in_place, State, working, called, entered, trying, chosen, give, answered, step, steps, run, finished, stopped}
use Rattle.runs.specs.Claim.{NeverChosen, Lists, NoFalseFinding}
use Rattle.runs.specs.Examples.{said, function_at}

abbrev strict : Settings
strict = record { mode = 1; overrides = [] }

-- of a file: its law, whether its formats are settled, and the words of its findings
pub record Read : Type 0 where
  pub law : Law
  pub settled : Bool
  pub words : List ℕ

abbrev pub read_of : List ℕ → Answer Read
read_of bytes = do
  law ← law_of bytes
  l ← listing 64 strict law
  given (record { law = law; settled = l.inferred.settled; words = listing_words strict l.findings })

-- ---- needless leading zeros, in a block's sentence: `<F 007>` matches, and is not listed

abbrev zeros : List ℕ
zeros =
    file_bytes "F { 7 = ; } G { = [ : = <F 007>;]; }"
    (function_words 0 1 1 0 11 ∷ function_words 12 1 1 12 36 ∷ [])
    (sentence_words 1 0 0 4 8 ∷ sentence_words 0 0 1 16 33 ∷ sentence_words 0 0 2 22 31 ∷ [])
    []
    (term_words 2 4 1 0 4 5 ∷ term_words 8 1 0 0 18 33 ∷ term_words 7 25 1 1 24 31 ∷ term_words 2 27 3 0 27 30 ∷ [])

abbrev zeros_law : Law
zeros_law =
    record { name = named 0 "F"; sentences = sentence (marked 0 4 8) (symbol (number (named 4 "7")) empty) no_condition empty no_sentence }
    ∷ record {
      name = named 12 "G";
      sentences =
          sentence (marked 1 16 33) empty no_condition
          (block (marked 1 18 33) empty
          (sentence (marked 2 22 31) empty no_condition (call (marked 2 24 31) (named 25 "F") (symbol (number (named 27 "007")) empty) empty) no_sentence)
          empty)
          no_sentence;
    }
    ∷ []

-- ---- formats that are not settled

-- so many records, at places that are so many bytes apart
unfoldable pub apart : ℕ → ℕ → ℕ → (ℕ → List ℕ) → List (List ℕ)
apart zero step place record_at = []
apart (suc n) step place record_at = record_at place ∷ apart n step (place + step) record_at

abbrev number_at : ℕ → List ℕ
number_at place = term_words 2 place 1 0 place (place + 1)

-- F gives one character more than it is called on, then numbers. The first round finds a character and six numbers, and each later round finds that one
-- more of these may be a character; six rounds may run, so that the seventh term, which G wants to be a character, still counts as a number
abbrev unsettled : List ℕ
unsettled =
    file_bytes "F { = 'a' 1 1 1 1 1 1; 'x' e.X = 'a' <F e.X> 1 1 1 1 1 1; } G { s.1 s.2 s.3 s.4 s.5 s.6 'a' e.X = <G <F 'xxxxxx'>>; }"
    (function_words 0 1 2 0 59 ∷ function_words 60 1 1 60 117 ∷ [])
    (sentence_words 0 0 7 4 21 ∷ sentence_words 2 0 9 23 56 ∷ sentence_words 8 0 8 64 114 ∷ [])
    []
    ((term_words 0 97 0 0 7 8 ∷ apart 6 2 10 number_at)
    ++ (term_words 0 120 0 0 24 25 ∷ term_words 5 29 1 0 27 30 ∷ [])
    ++ (term_words 0 97 0 0 34 35 ∷ term_words 7 38 1 1 37 44 ∷ term_words 5 42 1 0 40 43 ∷ apart 6 2 45 number_at)
    ++ apart 6 4 64 (λ place. term_words 3 (place + 2) 1 0 place (place + 3))
    ++ (term_words 0 97 0 0 89 90 ∷ term_words 5 94 1 0 92 95 ∷ [])
    ++ (term_words 7 99 1 7 98 114 ∷ term_words 7 102 1 6 101 113 ∷ apart 6 1 105 (λ place. term_words 0 120 0 0 place (place + 1))))

-- the same of terms in a row
unfoldable pub in_row : ℕ → ℕ → ℕ → (ℕ → Run → Run) → Run → Run
in_row zero step place term-at rest = rest
in_row (suc n) step place term-at rest = term-at place (in_row n step (place + step) term-at rest)

abbrev numbers_at : ℕ → Run
numbers_at place = in_row 6 2 place (λ at. symbol (number (named at "1"))) empty

abbrev pub unsettled_law : Law
unsettled_law =
    record {
      name = named 0 "F";
      sentences =
          sentence (marked 0 4 21) empty no_condition (symbol (character 97) (numbers_at 10))
          (sentence (marked 1 23 56) (symbol (character 120) (variable expression_kind (named 29 "X") empty)) no_condition
          (symbol (character 97) (call (marked 10 37 44) (named 38 "F") (variable expression_kind (named 42 "X") empty) (numbers_at 45)))
          no_sentence);
    }
    ∷ record {
      name = named 60 "G";
      sentences =
          sentence (marked 2 64 114) (variable symbol_kind (named 66 "1")
          (variable symbol_kind (named 70 "2")
          (variable symbol_kind (named 74 "3")
          (variable symbol_kind (named 78 "4")
          (variable symbol_kind (named 82 "5")
          (variable symbol_kind (named 86 "6")
          (symbol (character 97)
          (variable expression_kind (named 94 "X") empty)))))))) no_condition
          (call (marked 26 98 114) (named 99 "G")
          (call (marked 27 101 113) (named 102 "F") (in_row 6 1 105 (λ at. symbol (character 120)) empty) empty)
          empty)
          no_sentence;
    }
    ∷ []

-- ---- the findings of each file: document 01's example, a block's sentence that is listed as dead, and the two files above

abbrev listed_words : List ℕ
listed_words = 1 ∷ 1 ∷ 15 ∷ 26 ∷ 2 ∷ 1 ∷ 0 ∷ 1 ∷ 2 ∷ 1 ∷ 40 ∷ 45 ∷ 1 ∷ 0 ∷ 1 ∷ 6 ∷ []

abbrev block_words : List ℕ
block_words = 1 ∷ 1 ∷ 45 ∷ 52 ∷ 2 ∷ 1 ∷ 0 ∷ 2 ∷ []

abbrev unsettled_words : List ℕ
unsettled_words = 2 ∷ 1 ∷ 98 ∷ 114 ∷ 1 ∷ 0 ∷ 1 ∷ 26 ∷ []

pub files_read :
    (read_of example_file ≡ given (record { law = example_law; settled = true; words = listed_words }))
    × (read_of with_block ≡ given (record { law = with_block_law; settled = true; words = block_words }))
    × (read_of zeros ≡ given (record { law = zeros_law; settled = true; words = [] }))
    × (read_of unsettled ≡ given (record { law = unsettled_law; settled = false; words = unsettled_words }))
unfolding
    bytes_of flat_map apart in_row
    law_of sections_of section word_at every total fields_allowed term_allowed spelled every_byte
    runs_allowed used_up fits blocks_allowed patterns_allowed distinct occurs same_bytes variables_from
    first_sentence block_first first_condition pattern_at condition_result_at result_at pattern_part result_part condition_result_part condition_pattern_part
    decode forest_of end_of term_at term_from tree_of functions_from sentences_from conditions_from forest_run keep skip deepest depth_of
    size join_rows disjoint_rows same_shapes pattern_shapes chain result_shapes
    order_bytes insert_name names_of find renew all_at join_results join_patterns round rounds_from arguments infer_within infer
    pattern_of value_in splits same_terms after choices matches is_literal literal_terms changed own_values shadows_with definition
    finding_words findings_from calls earliest dead_after blocks dead_remarks dead_findings
    some_matches compared judged recognition_remarks recognition_findings some_over arguments_over
    macrodigits unsigned all_zero first_fails characters_of domain_in builtin_on builtin_remarks builtin_findings
    e_occurrences open_in open_remarks open_findings override_of severity_of is_shown shown listing_words findings_of formats_of listing
files_read = (refl, refl, refl, refl)

-- ---- runs

-- what a state holds, where it is a call that is reached or a sentence that is chosen: the argument, the result, the values, what waits, the answers left
abbrev holds : State → Expression × Run × Env × Stack × List Expression
holds (working r env u k answers) = (u, r, env, k, answers)
holds (called place f v k answers) = (v, empty, none_bound, k, answers)
holds (entered n ss env v k answers) = (v, empty, env, k, answers)
holds (trying t k answers) = (nothing, empty, none_bound, k, answers)
holds (chosen i r env k answers) = (nothing, r, env, k, answers)
holds (finished v) = (v, empty, none_bound, over, [])
holds stopped = (nothing, empty, none_bound, over, [])

-- the sentences of a function that is defined
abbrev found_in : Option Sentences → Sentences
found_in none = no_sentence
found_in (some ss) = ss

-- a number as an expression
abbrev valued : ℕ → Expression
valued n = expression.Terms.symbol (expression.Literal.number n) nothing

-- in document 01's example `<H 2>`, record 6, is listed: it is reached, and ends the run
pub listed_reached :
    (run example_law (function_at example_law 1) (said "q") [] 6 ≡ called 6 (bytes_of "H") (valued 2) (in_place nothing empty none_bound over) [])
    × (run example_law (function_at example_law 1) (said "q") [] 10 ≡ stopped)
unfolding
    bytes_of characters same_bytes pattern_of literal_terms changed value_in splits same_terms after choices matches
    definition give answered step steps run
listed_reached = (refl, refl)

-- with formats that are not settled: `<G <F 'xxxxxx'>>`, record 26, is listed by formats, and G matches what F gives
abbrev call_reached : State
call_reached = run unsettled_law (function_at unsettled_law 1) (said "aaaaaaa") [] 127

pub unsettled_breaks : NoFalseFinding unsettled_law unsettled_words → ⊥
unfolding
    bytes_of characters in_row same_bytes pattern_of literal_terms changed value_in splits same_terms after choices matches
    definition give answered step steps run
unsettled_breaks h =
    h.recognition 26 (bytes_of "G") (holds call_reached).0 (holds call_reached).3 (holds call_reached).4
    (record {
      function = function_at unsettled_law 1;
      of_law = Memᴰ.tail (Memᴰ.head refl);
      argument = said "aaaaaaa";
      answers = [];
      steps = 127;
      comes = refl;
    })
    (0, omega arith, refl, refl)
    (found_in (definition unsettled_law (bytes_of "G"))) refl (inl refl)

-- of blocks' sentences it would be false: "a block's earlier sentence treats an outer variable as free", so that sentence 2 is listed, and yet chosen
abbrev sentence_chosen : State
sentence_chosen = run with_block_law (function_at with_block_law 0) (said "ab") (said "c" ∷ []) 17

pub blocks_break : NeverChosen with_block_law (Lists block_words 1) → ⊥
unfolding
    bytes_of characters same_bytes pattern_of literal_terms changed value_in splits same_terms after choices matches
    definition give answered step steps run
blocks_break h =
    h 2 (holds sentence_chosen).1 (holds sentence_chosen).2 (holds sentence_chosen).3 (holds sentence_chosen).4
    (record {
      function = function_at with_block_law 0;
      of_law = Memᴰ.head refl;
      argument = said "ab";
      answers = said "c" ∷ [];
      steps = 17;
      comes = refl;
    })
    (0, omega arith, refl, refl)

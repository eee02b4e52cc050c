-- The three calls on small files, by computation, every lent word included. Formats have at most one shape here, so that a store has 256 words.
-- docs/SPECIFICATION.md, 14.1, 14.2, 21.
use Rattle.std.specs.Prelude.{ℕ, ◌-◌, true, ◌≡◌, refl, length, replicate}
use mathlib.Core.List.{List, [], ◌∷◌, ◌++◌, flat_map, flatten}
use Rattle.names.specs.Name.{every_byte, same_bytes, order_bytes}
use Rattle.file.specs.Answer.{refused, given}
use Rattle.file.specs.Word.{word_at}
use Rattle.file.specs.Below.{every, total}
use Rattle.file.specs.Sections.{section, sections_of}
use Rattle.file.specs.Fields.{fields_allowed, term_allowed, spelled}
use Rattle.file.specs.Forest.{decode, forest_of}
use Rattle.file.specs.Head.{term_at, term_from}
unfoldable pub use Rattle.law.specs.Text.{bytes_of}
use Rattle.law.specs.Tree.{keep, skip}
use Rattle.law.specs.Definition.{definition}
use Rattle.law.specs.Places.{first_sentence, block_first, first_condition, pattern_at, condition_result_at, result_at, pattern_part, result_part, condition_result_part, condition_pattern_part}
use Rattle.law.specs.Runs.{end_of, fits, used_up, runs_allowed, blocks_allowed}
use Rattle.law.specs.Reading.{forest_run, conditions_from, sentences_from, functions_from, tree_of}
use Rattle.law.specs.Depth.{deepest, depth_of}
use Rattle.law.specs.Variables.{distinct, occurs, variables_from, patterns_allowed}
use Rattle.law.specs.Law.{law_of}
use Rattle.law.specs.Examples.{example_file, file_bytes, function_words, sentence_words, term_words}
use Rattle.shapes.specs.Format.{size}
use Rattle.shapes.specs.Join.{join_rows}
use Rattle.shapes.specs.Disjoint.{disjoint_rows}
use Rattle.shapes.specs.Same.{same_shapes}
use Rattle.shapes.specs.Display.{spaced, display}
use Rattle.shapes.specs.Words.{shape_words}
use Rattle.buffers.specs.Written.{written}
use Rattle.formats.specs.FormatOf.{pattern_shapes, chain, result_shapes}
use Rattle.formats.specs.Infer.{insert_name, names_of, find, renew, all_at, join_results, join_patterns, round, rounds_from, arguments, infer_within, infer}
use Rattle.formats.specs.Store.{entry_words, store_of}
use Rattle.matching.specs.Pattern.{pattern_of}
use Rattle.matching.specs.Match.{value_in, splits, same_terms, after, choices, matches}
use Rattle.matching.specs.Literal.{is_literal, literal_terms}
use Rattle.matching.specs.Shadow.{own_values, shadows_with}
use Rattle.lints.specs.Finding.{finding_words, findings_from}
use Rattle.lints.specs.Calls.{calls}
use Rattle.lints.specs.Dead.{earliest, dead_after, blocks, dead_remarks, dead_findings}
use Rattle.lints.specs.Recognition.{some_matches, compared, judged, recognition_remarks, recognition_findings, some_over, arguments_over}
use Rattle.lints.specs.Builtin.{macrodigits, unsigned, all_zero, first_fails, characters_of, domain_in, builtin_on, builtin_remarks, builtin_findings}
use Rattle.lints.specs.Open.{e_occurrences, open_in, open_remarks, open_findings}
use Rattle.lints.specs.Levels.{overrides_allowed, settings_allowed, override_of, severity_of, is_shown, shown, listing_words}
use Rattle.lints.specs.Findings.{findings_of, formats_of, listing}
use Rattle.buffers.specs.Decimal.{digits_within}
use Rattle.lints.specs.Message.{claim_text, message}
use Rattle.lints.specs.Levels.{settings_from}
use Rattle.pages.specs.Page.{left, right, line, heading, lines_from, page_lines, page}
use Rattle.listing.specs.Outcome.{front, findings_outcome, bytes_outcome, text_at, text_outcome, page_outcome}

-- a file without text, functions, sentences, conditions and terms
abbrev no_functions : List ℕ
no_functions = replicate 20 0

-- `F { e.1 e.2 = ; }`, and the text of its one finding, which ends in a digit
abbrev two_open : List ℕ
two_open =
    file_bytes "F12" (function_words 0 1 1 0 0 ∷ []) (sentence_words 2 0 0 0 0 ∷ []) [] (term_words 5 1 1 0 0 0 ∷ term_words 5 2 1 0 0 0 ∷ [])

abbrev power : List ℕ
power = bytes_of "sentence of `F` has 2 `e.`-variables in its pattern; matching may backtrack proportionally to the argument length to the power 2"

-- the page of document 01's example, strict
abbrev example_page : List ℕ
example_page =
    bytes_of "2                                                                      1" ++ 10
    ∷ bytes_of "F                        dead     deny          15         26          2" ++ 10
    ∷ bytes_of "H                        no match deny          40         45          1" ++ 10 ∷ []

-- what is lent: a store with one word more than it needs, or one word less
abbrev lent : List ℕ
lent = replicate 257 7

abbrev short : List ℕ
short = replicate 255 7

-- document 01's example, strict: two findings, two rounds, settled; of 17 words the last is kept
abbrev pub FindingsCalls : Type 0
FindingsCalls =
    ((findings_outcome 1 (settings_from 1 []) example_file lent (replicate 17 9)).answer ≡ given (record { findings = 2; rounds = 2; settled = true }))
    × ((findings_outcome 1 (settings_from 1 []) example_file lent (replicate 17 9)).findings
    ≡ 1 ∷ 1 ∷ 15 ∷ 26 ∷ 2 ∷ 1 ∷ 0 ∷ 1 ∷ 2 ∷ 1 ∷ 40 ∷ 45 ∷ 1 ∷ 0 ∷ 1 ∷ 6 ∷ 9 ∷ [])
    -- one word short: 11, and the store is filled
    × ((findings_outcome 1 (settings_from 1 []) example_file lent (replicate 15 9)).answer ≡ refused 11)
    × ((findings_outcome 1 (settings_from 1 []) example_file lent (replicate 15 9)).findings ≡ replicate 15 9)
    × ((findings_outcome 1 (settings_from 1 []) example_file lent (replicate 15 9)).store ≡ (findings_outcome 1 (settings_from 1 []) example_file lent (replicate 17 9)).store)
    -- lint 1 hidden by an override of 3, lint 2 given the severity 2
    × ((findings_outcome 1 (settings_from 1 (259 ∷ 514 ∷ [])) example_file lent (replicate 8 9)).findings ≡ 2 ∷ 2 ∷ 40 ∷ 45 ∷ 1 ∷ 0 ∷ 1 ∷ 6 ∷ [])
    -- no functions: no findings, one round, settled
    × (findings_outcome 1 (settings_from 0 []) no_functions lent (9 ∷ [])
    ≡ record {
      answer = given (record { findings = 0; rounds = 1; settled = true });
      store = replicate 256 0 ++ 7 ∷ [];
      findings = 9 ∷ [];
    })

-- 14 comes before 2, 2 before 15, 15 before 10; an argument over one shape is 10 also where lint 2 is hidden
abbrev pub Refusals : Type 0
Refusals =
    (findings_outcome 1 (settings_from 2 []) [] short [] ≡ record { answer = refused 14; store = short; findings = [] })
    × (findings_outcome 1 (settings_from 1 []) [] short [] ≡ record { answer = refused 2; store = short; findings = [] })
    × (findings_outcome 1 (settings_from 1 []) example_file short [] ≡ record { answer = refused 15; store = short; findings = [] })
    × (findings_outcome 0 (settings_from 1 (515 ∷ [])) example_file lent (9 ∷ []) ≡ record { answer = refused 10; store = replicate 128 0 ++ replicate 129 7; findings = 9 ∷ [] })

abbrev pub TextCalls : Type 0
TextCalls =
    ((text_outcome 1 (settings_from 1 []) example_file lent 1 (replicate 66 9)).answer ≡ given 65)
    × ((text_outcome 1 (settings_from 1 []) example_file lent 1 (replicate 66 9)).bytes
    ≡ bytes_of "`<H ...>` always fails: `H` accepts [C], but this call passes [N]" ++ 9 ∷ [])
    × ((text_outcome 1 (settings_from 1 []) example_file lent 2 []).answer ≡ refused 12)
    × ((text_outcome 1 (settings_from 1 []) example_file lent 1 (replicate 64 9)).answer ≡ refused 13)
    × ((text_outcome 1 (settings_from 1 []) example_file lent 1 (replicate 64 9)).bytes ≡ replicate 64 9)
    -- a text that fits exactly and ends in a digit, and a buffer that is one byte short
    × ((text_outcome 1 (settings_from 1 []) two_open lent 0 (replicate (length power) 9)).answer ≡ given (length power))
    × ((text_outcome 1 (settings_from 1 []) two_open lent 0 (replicate (length power) 9)).bytes ≡ power)
    × ((text_outcome 1 (settings_from 1 []) two_open lent 0 (replicate (length power - 1) 9)).answer ≡ refused 13)

abbrev pub PageCalls : Type 0
PageCalls =
    -- three lines of 73 bytes each; of 220 bytes the last is kept
    ((page_outcome 1 (settings_from 1 []) example_file lent (replicate 220 9)).answer ≡ given 219)
    × ((page_outcome 1 (settings_from 1 []) example_file lent (replicate 220 9)).bytes ≡ example_page ++ 9 ∷ [])
    × ((page_outcome 1 (settings_from 1 []) example_file lent (replicate 220 9)).store
    ≡ (findings_outcome 1 (settings_from 1 []) example_file lent (replicate 17 9)).store)
    -- a page that fits exactly
    × ((page_outcome 1 (settings_from 1 []) example_file lent (replicate 219 9)).answer ≡ given 219)
    × ((page_outcome 1 (settings_from 1 []) example_file lent (replicate 219 9)).bytes ≡ example_page)
    -- one byte short: 18, and the store is filled
    × (page_outcome 1 (settings_from 1 []) example_file lent (replicate 218 9)
    ≡ record {
      answer = refused 18;
      store = (findings_outcome 1 (settings_from 1 []) example_file lent (replicate 17 9)).store;
      bytes = replicate 218 9;
    })
    -- no functions: one heading
    × (page_outcome 1 (settings_from 1 []) no_functions lent (replicate 73 9)
    ≡ record {
      answer = given 73;
      store = replicate 256 0 ++ 7 ∷ [];
      bytes = bytes_of "0                                                                      1" ++ 10 ∷ [];
    })
    -- 14, 2, 15 and 10, in this order, also where no page fits
    × (page_outcome 1 (settings_from 2 []) [] short [] ≡ record { answer = refused 14; store = short; bytes = [] })
    × (page_outcome 1 (settings_from 1 []) [] short [] ≡ record { answer = refused 2; store = short; bytes = [] })
    × (page_outcome 1 (settings_from 1 []) example_file short [] ≡ record { answer = refused 15; store = short; bytes = [] })
    × (page_outcome 0 (settings_from 1 (515 ∷ [])) example_file lent (9 ∷ [])
    ≡ record { answer = refused 10; store = replicate 128 0 ++ replicate 129 7; bytes = 9 ∷ [] })

pub examples : FindingsCalls × Refusals × TextCalls × PageCalls
unfolding
    bytes_of flat_map same_bytes order_bytes every_byte definition
    law_of sections_of section word_at every total fields_allowed term_allowed spelled
    runs_allowed used_up fits blocks_allowed patterns_allowed distinct occurs variables_from
    first_sentence block_first first_condition pattern_at condition_result_at result_at pattern_part result_part condition_result_part condition_pattern_part
    decode forest_of end_of term_at term_from tree_of functions_from sentences_from conditions_from forest_run keep skip deepest depth_of
    join_rows disjoint_rows size pattern_shapes chain result_shapes same_shapes insert_name names_of find renew all_at join_results join_patterns round rounds_from
    arguments infer_within infer pattern_of value_in splits same_terms after choices matches is_literal literal_terms own_values shadows_with spaced display
    finding_words findings_from calls earliest dead_after blocks dead_remarks dead_findings
    some_matches compared judged recognition_remarks recognition_findings some_over arguments_over
    macrodigits unsigned all_zero first_fails characters_of domain_in builtin_on builtin_remarks builtin_findings
    e_occurrences open_in open_remarks open_findings overrides_allowed settings_allowed override_of severity_of is_shown shown listing_words findings_of formats_of listing
    digits_within claim_text message shape_words written entry_words store_of
    front findings_outcome bytes_outcome text_at
    left right line heading lines_from page_lines page flatten
examples = (
  (refl, refl, refl, refl, refl, refl, refl),
  (refl, refl, refl, refl),
  (refl, refl, refl, refl, refl, refl, refl, refl),
  (refl, refl, refl, refl, refl, refl, refl, refl, refl, refl, refl),
)

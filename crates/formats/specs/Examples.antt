-- Document 01's small laws about inference that it does not mark *, and further examples of the definitions, all by computation. Those marked * are the
-- table in specs/SmallLaws.antt of the crate `lints`.
-- docs/SPECIFICATION.md, 18.2.
use Rattle.std.specs.Prelude.{ℕ, zero, suc, Bool, true, false, ◌≡◌, refl, replicate}
use mathlib.Core.List.{List, [], ◌∷◌, ◌++◌, flat_map}
use Rattle.names.specs.Name.{every_byte, same_bytes, order_bytes}
use Rattle.file.specs.Answer.{Answer, refused, given}
use Rattle.file.specs.Word.{word_at}
use Rattle.file.specs.Below.{every, total}
use Rattle.file.specs.Sections.{section, sections_of}
use Rattle.file.specs.Fields.{fields_allowed, term_allowed, spelled}
use Rattle.file.specs.Forest.{decode, forest_of}
use Rattle.file.specs.Head.{term_at, term_from}
use Rattle.law.specs.Tree as tree
use Rattle.law.specs.Tree.{Name, Mark, Run, no_sentence, sentence, no_condition, Function, Law, keep, skip}
use Rattle.law.specs.Places.{first_sentence, block_first, first_condition, pattern_at, condition_result_at, result_at, pattern_part, result_part, condition_result_part, condition_pattern_part}
use Rattle.law.specs.Runs.{end_of, fits, used_up, runs_allowed, blocks_allowed}
use Rattle.law.specs.Reading.{forest_run, conditions_from, sentences_from, functions_from, tree_of}
use Rattle.law.specs.Depth.{deepest, depth_of}
use Rattle.law.specs.Variables.{variables_from, occurs, distinct, patterns_allowed}
use Rattle.law.specs.Law.{law_of}
use Rattle.law.specs.Examples.{bytes_of, unused_term, example_file}
use Rattle.shapes.specs.Leaf.{character, any_symbol}
use Rattle.shapes.specs.Format.{item, of, size, is_open}
use Rattle.shapes.specs.Join.{join_rows}
use Rattle.shapes.specs.Same.{same_shapes}
use Rattle.shapes.specs.Words.{shape_words}
use Rattle.shapes.specs.Examples.{closed, opened}
use Rattle.formats.specs.FormatOf.{pattern_shapes, chain, result_shapes}
use Rattle.formats.specs.Infer.{Inferred, insert_name, names_of, find, renew, all_at, join_results, join_patterns, round, rounds_from, arguments, infer_within, infer}
use Rattle.formats.specs.Store.{entry_words, store_of}
use Rattle.formats.specs.Call.{call_outcome}

-- the name F, and a mark: where things stand does not matter here
abbrev pub name_f : Name
name_f = record { start = 0; spelled = 70 ∷ [] }

abbrev pub mark : Mark
mark = record { at = 0; span_start = 0; span_end = 0 }

-- n times the number 1
abbrev pub ones : ℕ → Run
ones zero = Run.empty
ones (suc n) = Run.symbol (tree.Symbol.number (record { start = 0; spelled = 49 ∷ [] })) (ones n)

-- `F { = 'a' <F> 1 .. 1; }` with n times 1
abbrev pub growing : ℕ → Law
growing n =
    record {
      name = name_f;
      sentences = sentence mark Run.empty no_condition (Run.symbol (tree.Symbol.character 97) (Run.call mark name_f Run.empty (ones n))) no_sentence;
    } ∷ []

-- a law whose one sentence has a pattern, and nothing else
abbrev patterned : Run → Law
patterned p = record { name = name_f; sentences = sentence mark p no_condition Run.empty no_sentence } ∷ []

-- F takes a character and then anything, and gives nothing
abbrev opens_after_first : Inferred
opens_after_first = record {
  formats = record {
    arguments = record { name = 70 ∷ []; format = of (item character opened) } ∷ [];
    results = record { name = 70 ∷ []; format = of closed } ∷ [];
  };
  rounds = 2;
  settled = true;
}

-- ---- document 01

abbrev Inferences : Type 0
Inferences =
    -- "`F { = 'a' <F> 1 1 1; }`: 5 rounds, settled, open [character, three symbols]."
    (infer 64 (growing 3)
    ≡ given (record {
      formats = record {
        arguments = record { name = 70 ∷ []; format = of closed } ∷ [];
        results = record { name = 70 ∷ []; format = of (item character (item any_symbol (item any_symbol (item any_symbol opened)))) } ∷ [];
      };
      rounds = 5;
      settled = true;
    }))
    -- a call in a pattern is an open tail, as a block is: `F { 'a' <F> 1 = ; }`
    × (infer 64 (patterned (Run.symbol (tree.Symbol.character 97) (Run.call mark name_f Run.empty (ones 1)))) ≡ given opens_after_first)
    × (infer 64 (patterned (Run.symbol (tree.Symbol.character 97) (Run.block mark Run.empty no_sentence (ones 1)))) ≡ given opens_after_first)
    -- "No functions: no findings, 1 round, settled."
    × (infer 64 [] ≡ given (record { formats = record { arguments = []; results = [] }; rounds = 1; settled = true }))

inferences : Inferences
unfolding
    join_rows size pattern_shapes chain result_shapes same_shapes insert_name names_of find renew all_at join_results join_patterns round rounds_from arguments
    infer_within infer same_bytes order_bytes
inferences = (refl, refl, refl, refl)

-- ---- further examples of inference

-- a law whose one result is n times 1
abbrev flat : ℕ → Law
flat n = record { name = name_f; sentences = sentence mark Run.empty no_condition (ones n) no_sentence } ∷ []

-- a law whose one pattern is n times 1
abbrev asking : ℕ → Law
asking n = patterned (ones n)

-- a second function of the name F, spelled `f`, without sentences
abbrev again : Function
again = record { name = record { start = 0; spelled = 102 ∷ [] }; sentences = no_sentence }

-- how many rounds ran, and whether the last changed nothing; 0 for a refusal
abbrev rest_of : Answer Inferred → ℕ × Bool
rest_of (refused n) = (0, false)
rest_of (given i) = (i.rounds, i.settled)

abbrev Rounds : Type 0
Rounds =
    -- with four 1s the last round that may run changes the format, though the next would not
    (rest_of (infer 64 (growing 4)) ≡ (5, false))
    × (rest_of (infer_within 64 6 (growing 4)) ≡ (6, true))
    -- names are counted and not functions: a second function of the same name gives no round more
    × (rest_of (infer 64 (growing 4 ++ again ∷ [])) ≡ (5, false))
    -- the limit on shapes: 64 pass, 65 are refused, in a result and in a pattern
    × (rest_of (infer 64 (flat 64)) ≡ (2, true))
    × (infer 64 (flat 65) ≡ refused 10)
    × (rest_of (infer 64 (asking 64)) ≡ (2, true))
    × (infer 64 (asking 65) ≡ refused 10)
    × (infer 16 (flat 17) ≡ refused 10)
    -- a result that passes the limit only in the second round
    × (infer 64 (growing 32) ≡ refused 10)

rounds : Rounds
unfolding
    join_rows size pattern_shapes chain result_shapes same_shapes insert_name names_of find renew all_at join_results join_patterns round rounds_from arguments
    infer_within infer same_bytes order_bytes
rounds = (refl, refl, refl, refl, refl, refl, refl, refl, refl)

-- ---- calls

-- a store of n words
abbrev before : ℕ → List ℕ
before n = replicate n 7

abbrev Calls : Type 0
Calls =
    -- a store that is too short, by far and by one word
    (call_outcome 64 example_file (7 ∷ 8 ∷ []) ≡ record { answer = refused 15; store = 7 ∷ 8 ∷ [] })
    × (call_outcome 1 example_file (before 255) ≡ record { answer = refused 15; store = before 255 })
    -- a file that is refused comes first
    × (call_outcome 64 (unused_term 9) (7 ∷ 8 ∷ []) ≡ record { answer = refused 5; store = 7 ∷ 8 ∷ [] })
    -- over the limit on shapes: zeros, and the words past the store stay
    × (call_outcome 0 example_file (before 130) ≡ record { answer = refused 10; store = replicate 128 0 ++ before 2 })
    -- `F { e.X = 'a'; s.A = <F 1>; } H { 'q' = <H 2>; }`, two words for a format: F's argument and result are [..], H's argument [C] and its result []
    × (call_outcome 1 example_file (before 258)
    ≡ record {
      answer = given (record { rounds = 2; settled = true });
      store = (256 ∷ 0 ∷ 256 ∷ 0 ∷ 1 ∷ 0 ∷ 0 ∷ 0 ∷ []) ++ replicate 248 0 ++ before 2;
    })

calls : Calls
unfolding
    bytes_of flat_map law_of sections_of section word_at every total fields_allowed term_allowed spelled every_byte
    runs_allowed used_up fits blocks_allowed patterns_allowed distinct occurs same_bytes variables_from
    first_sentence block_first first_condition pattern_at condition_result_at result_at pattern_part result_part condition_result_part condition_pattern_part
    decode forest_of end_of term_at term_from tree_of functions_from sentences_from conditions_from forest_run keep skip deepest depth_of
    order_bytes join_rows size is_open shape_words pattern_shapes chain result_shapes same_shapes insert_name names_of find renew all_at join_results join_patterns
    round rounds_from arguments infer_within infer entry_words store_of call_outcome
calls = (refl, refl, refl, refl, refl)

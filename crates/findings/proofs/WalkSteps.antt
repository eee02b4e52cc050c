-- What is met in a part of the term records, in sentences, in conditions and in functions, one at a time; how each step leaves what is collected; and
-- that each step goes to something smaller.
use Prim.Native.Nat.{ℕ, zero, suc, ◌+◌, ◌*◌, ◌-◌, ◌≤◌, ◌<◌, ◌/◌}
use mathlib.Core.Bool.{Bool, true, false}
use mathlib.Core.List.{List, [], ◌++◌, append-nil}
use mathlib.Core.Path.{◌≡◌, refl, sym, ap, ◌∙◌}
use native.Mathlib.Omega.{arith}
use native.Mathlib.Nat.{add_assoc, add-zero, le_of_lt}
use native.Mathlib.Numerals.{add-one}
use lib.ListN.{length, take, drop, get_or, length-take}
use lib.Dec.{eqb}
use borrow.Author.Tests.{eq-eqb, ne_eqb}
use Rattle.file.specs.Word.{word_at}
use Rattle.file.specs.Forest.{contents, rest}
use Rattle.file.specs.Head.{term_at}
use Rattle.file.specs.Sections.{File, file_of}
use Rattle.law.specs.Tree.{empty, no_sentence, keep}
use Rattle.law.specs.Places.{block_first, sentences_of, first_sentence, conditions_of, first_condition, pattern_at, result_at, pattern_part}
use Rattle.law.specs.Places.{result_part, condition_result_at, condition_result_size, condition_result_part, condition_pattern_part}
use Rattle.law.specs.Code.Terms.{Owns, sentences_in}
use Rattle.law.specs.Runs.{end_of}
use Rattle.law.specs.Reading.{mark_at, run_of, own, sentences_at, conditions_from, tree_of}
use Rattle.law.specs.Code.Index.{Indexed, Readable, PartAt}
use Rattle.law.proofs.Parts.{part_word, terms_word, terms_contents}
use Rattle.law.proofs.RunLaws.{end_high, run_empty, run_node, fits_first_lem}
use Rattle.law.proofs.Functions.{functions_at, tree_functions_lem, function_reads, functions_end as functions-over, kept_reads}
use Rattle.law.proofs.PartLaws.{part_length, part_at, part_inside, part_leaf, part_end_lem, part_sentences, contents_part, rest_part}
use Rattle.law.proofs.PartLaws.{part_small, pattern_part_lem, result_part_lem, condition_result_part_lem, condition_pattern_part_lem}
use Rattle.law.proofs.PlaceLaws.{function_inside}
use Rattle.law.proofs.IndexLaws.{functions_limit, sentences_limit, conditions_limit, terms_limit, sentences_before, conditions_before_lem, owns, owned, condition_result_fits}
use Rattle.formats.specs.Infer.{Formats}
use Rattle.formats.specs.declared.slots.Slots.{Slots}
use Rattle.matching.specs.Match.{when, each}
use Rattle.sentences.specs.Entry.{argument_part, argument_in}
use Rattle.matching.specs.Code.Part.{from}
use Rattle.matching.proofs.CutLaws.{from_length, from_from, from_all}
use Rattle.lints.specs.Open.{open_in}
use Rattle.lints.specs.Code.Records.{Prepared}
use denote.Enum.Bare.{sameb}
use Rattle.lints.specs.Lint.{lint_number}
use Rattle.lints.specs.contracts.levels.Lint.{the_type}
use Rattle.lints.specs.declared.levels.Lint.{Lint}
use Rattle.lints.specs.declared.levels.Lint.TheVariants.{Dead, Recognition, Builtin, Open}
use Rattle.lints.specs.Code.Overrides.{lint_meant}
use Rattle.findings.specs.declared.Task.{Task}
use Rattle.findings.specs.Code.Events.{Event, Sink, collect}
use Rattle.findings.specs.Code.Walk.{walked}
use Rattle.findings.specs.Code.Tasks.{number_of, call_events, block_events, calls_at, run_events, term_events, inside_events}
use Rattle.findings.specs.Code.Tasks.{condition_events, function_events, functions_events, lint_events, at_position}
use Rattle.findings.specs.Code.Tasks.{remark_events}
use Rattle.findings.proofs.CollectLaws.{collect_append, collect_none, collect_then}
use Rattle.findings.proofs.WalkLaws.{run_size, sentences_size, conditions_size, term_size, calls_of, words_calls, run_walked, term_walked, leaf_walked, block_none, own_block}

-- a lint by its number
pub is_dead_lint : {l : Lint} → l ≡ Dead → lint_number (lint_meant l) ≡ 1
is_dead_lint e = rw e

pub not_dead_lint : (l : Lint) → (l ≡ Dead → ⊥) → lint_number (lint_meant l) ≡ 1 → ⊥
not_dead_lint Dead n e = n refl
not_dead_lint Recognition n e = omega (arith, e)
not_dead_lint Builtin n e = omega (arith, e)
not_dead_lint Open n e = omega (arith, e)

pub is_open_lint : (l : Lint) {is : Bool} → is ≡ sameb the_type l Open → is ≡ true → lint_number (lint_meant l) ≡ 4
is_open_lint Dead e h = cc
is_open_lint Recognition e h = cc
is_open_lint Builtin e h = cc
is_open_lint Open e h = refl

pub not_open_lint : (l : Lint) {is : Bool} → is ≡ sameb the_type l Open → is ≡ false → lint_number (lint_meant l) ≡ 4 → ⊥
not_open_lint Dead e h k = omega (arith, k)
not_open_lint Recognition e h k = omega (arith, k)
not_open_lint Builtin e h k = omega (arith, k)
not_open_lint Open e h k = cc

module _ (file : File) where
  own_none : (t : ℕ) → own file t 0 ≡ no_sentence
  unfolding own keep
  own_none t = refl

  contents_none : (at : ℕ) (p : List ℕ) → word_at p 12 ≡ 0 → run_of file (own file) at (contents 24 end_of p) ≡ empty
  unfolding end_of
  contents_none at p z = run_empty file (own file) at (contents 24 end_of p) (omega (arith, length-take (end_of p - 24) (drop 24 p), z))

  -- the calls at the first record of a part
  calls_at_lem : Readable file → (at : ℕ) (p : List ℕ) → PartAt file at p → 24 ≤ length p
      → calls_at file at ≡ calls_of file.text.records (mark_at at p 16) (term_at p 0) (run_of file (own file) (at + 1) (contents 24 end_of p))
  unfolding term_at argument_in argument_part
  calls_at_lem readable at p part some =
      let start : 24 * at + 0 ≡ 24 * at = omega arith in
      let few : 0 < part.count = omega (arith, part_length file readable at p part) in
      let n : ℕ = word_at file.terms.records (24 * at + 12) in
      let word = terms_word file readable.whole at part.count part.inside in
      let fit = (fits_first_lem file readable.whole at part.count n part.inside few (rw part.same at part.fit) refl).0 in
      rw (
        part.same,
        terms_contents file readable.whole at part.count part.inside n (word 12 (omega arith)) fit,
        word 0 (omega arith),
        word 4 (omega arith),
        word 8 (omega arith),
        word 16 (omega arith),
        word 20 (omega arith),
        start,
        ← add_assoc (24 * at) 16 4,
      )
      (words_calls file.text.records (mark_at at file.terms.records (24 * at + 16)) (word_at file.terms.records (24 * at + 4))
      (word_at file.terms.records (24 * at + 8)) (argument_in file at) (word_at file.terms.records (24 * at)))

  -- a symbol or a variable is one record
  leaf_end : Readable file → (at : ℕ) (p : List ℕ) → PartAt file at p → 24 ≤ length p → word_at p 0 < 6 → 24 ≡ end_of p
  leaf_end readable at p part some h = omega (arith, part_end_lem file readable at p part some, part_leaf file readable at p part some h)

-- ---- what is met

module _ (file : File) (formats : Formats) (task : Task) where
  -- in a part of the term records whose first record is number `at`, as a run, in its first term, and as a pattern
  abbrev pub run_met : ℕ → List ℕ → List Event
  run_met at p = run_events (tree_of file) formats task (run_of file (own file) at p)

  abbrev pub term_met : ℕ → List ℕ → List Event
  term_met at p = term_events (tree_of file) formats task (run_of file (own file) at p)

  abbrev pub pattern_met : ℕ → List ℕ → List Event
  pattern_met at p = when (eqb (number_of task) 1) (run_met at p)

  -- at a term record, and at a block's own sentences
  abbrev pub calls_met : ℕ → List Event
  calls_met at = each (call_events (tree_of file) formats task) (calls_at file at)

  abbrev pub own_met : ℕ → ℕ → List Event
  own_met n s = block_events task (keep n (sentences_at file s))

  -- in n sentences from s on
  abbrev pub sentences_met : ℕ → ℕ → List Event
  sentences_met n s = inside_events (tree_of file) formats task (keep n (sentences_at file s))

  -- in n conditions of a sentence s, from the condition c on
  abbrev pub conditions_met : ℕ → ℕ → ℕ → List Event
  conditions_met s n c = condition_events (tree_of file) formats task (conditions_from file (own file) s n c)

  -- in the function f, and in the functions from f on
  abbrev pub function_met : ℕ → List Event
  function_met f = function_events (tree_of file) formats (at_position task f) (keep (sentences_of file f) (sentences_at file (first_sentence file f)))

  abbrev pub functions_met : ℕ → List Event
  functions_met f = functions_events (tree_of file) formats task f (functions_at file f)

  run_none : (at : ℕ) (p : List ℕ) → length p < 24 → run_met at p ≡ []
  unfolding walked
  run_none at p h = rw (run_empty file (own file) at p h)

  -- the first term of a part, and the records after it
  run_first : (at : ℕ) (p : List ℕ) → 24 ≤ length p → run_met at p ≡ term_met at p ++ run_met (at + 1 + word_at p 12) (rest 24 end_of p)
  run_first at p some =
      rw (run_node file (own file) at p some)
      (run_walked (call_events (tree_of file) formats task) (block_events task) (eqb (number_of task) 1) file.text.records (own file) at (mark_at at p 16)
      (term_at p 0) (run_of file (own file) (at + 1) (contents 24 end_of p)) (run_of file (own file) (at + 1 + word_at p 12) (rest 24 end_of p)))

  -- nothing is met in a symbol or a variable
  leaf_none : (at : ℕ) (p : List ℕ) → 24 ≤ length p → word_at p 0 < 6 → term_met at p ≡ []
  unfolding term_at
  leaf_none at p some h =
      rw (run_node file (own file) at p some)
      (leaf_walked (call_events (tree_of file) formats task) (block_events task) (eqb (number_of task) 1) file.text.records (own file) at (mark_at at p 16)
      (word_at p 4) (word_at p 8) (run_of file (own file) (at + 1) (contents 24 end_of p))
      (run_of file (own file) (at + 1 + word_at p 12) (rest 24 end_of p)) (word_at p 0) h)

  module _ (readable : Readable file) where
    -- what is met in it; e is where its contents end
    term_first : (at e : ℕ) (p : List ℕ) → PartAt file at p → 24 ≤ length p → e ≡ end_of p
        → term_met at p
        ≡ calls_met at
        ++ run_met (at + 1) (take (e - 24) (drop 24 p))
        ++ own_met (sentences_in (term_at p 0)) (block_first file at)
        ++ sentences_met (sentences_in (term_at p 0)) (block_first file at)
    unfolding own
    term_first at e p part some end =
        rw (end, run_node file (own file) at p some, calls_at_lem file readable at p part some)
        (term_walked (call_events (tree_of file) formats task) (block_events task) (eqb (number_of task) 1) file.text.records (own file) at (mark_at at p 16)
        (term_at p 0) (word_at p 12) (run_of file (own file) (at + 1) (contents 24 end_of p)) (run_of file (own file) (at + 1 + word_at p 12) (rest 24 end_of p))
        (part_inside file readable at p part some)
        (contents_none file (at + 1) p)
        (own_none file at)
        (block_none task))

    -- one sentence, and the sentences after it
    sentences_first : (n s : ℕ) → s < file.sentences.count → sentences_met (suc n) s ≡ sentences_met 1 s ++ sentences_met n (suc s)
    unfolding walked keep
    sentences_first n s h = rw (kept_reads file readable n s h, kept_reads file readable 0 s h) (simp append-nil)

    -- its pattern, its conditions and its result
    sentence_parts : (s : ℕ) → s < file.sentences.count
        → sentences_met 1 s
        ≡ pattern_met (pattern_at file s) (pattern_part file s)
        ++ conditions_met s (conditions_of file s) (first_condition file s)
        ++ run_met (result_at file s) (result_part file s)
    unfolding walked keep
    sentence_parts s h = rw (kept_reads file readable 0 s h) (simp append-nil)

  -- one condition, and the conditions after it
  conditions_first : (s n c : ℕ)
      → conditions_met s (suc n) c
      ≡ run_met (condition_result_at file s c) (condition_result_part file s c)
      ++ pattern_met (condition_result_at file s c + condition_result_size file c) (condition_pattern_part file s c)
      ++ conditions_met s n (suc c)
  unfolding walked conditions_from
  conditions_first s n c = refl

  own_met_none : (s : ℕ) → own_met 0 s ≡ []
  unfolding keep
  own_met_none s = block_none task

  sentences_none : (s : ℕ) → sentences_met 0 s ≡ []
  unfolding walked keep
  sentences_none s = refl

  conditions_none : (s c : ℕ) → conditions_met s 0 c ≡ []
  unfolding walked conditions_from
  conditions_none s c = refl

  functions_first : (f : ℕ) → f < file.functions.count → functions_met f ≡ function_met f ++ functions_met (suc f)
  unfolding functions_events
  functions_first f h = rw (function_reads file f h)

  functions_none : (f : ℕ) → file.functions.count ≤ f → functions_met f ≡ []
  unfolding functions_events
  functions_none f h = rw (functions-over file f h)

-- ---- what is collected

module _ (file : File) (formats : Formats) (task : Task) where
  -- what is collected from a sink on
  abbrev pub after : Sink → List Event → Sink
  after s es = collect task.room s es

  -- a pattern is gone through in lint 1 only
  pub pattern_passed : (at : ℕ) (p : List ℕ) (s : Sink) → ((number_of task) ≡ 1 → ⊥) → s ≡ after s (pattern_met file formats task at p)
  pattern_passed at p s h = rw (ne_eqb (number_of task) 1 h) (collect_none task.room s)

  pub pattern_walked : (at : ℕ) (p : List ℕ) (s t : Sink) → (number_of task) ≡ 1 → t ≡ after s (run_met file formats task at p)
      → t ≡ after s (pattern_met file formats task at p)
  pattern_walked at p s t h q = q ∙ ap (λ (b : Bool). after s (when b (run_met file formats task at p))) (sym (eq-eqb (number_of task) 1 h))

  module _ (readable : Readable file) where
    -- the first term of a part, with all that is inside it
    pub term_steps : (at e count first : ℕ) (p : List ℕ) (s called inside noted t : Sink) → PartAt file at p → 24 ≤ length p → e ≡ end_of p
        → count ≡ sentences_in (term_at p 0) → first ≡ block_first file at
        → called ≡ after s (calls_met file formats task at)
        → inside ≡ after called (run_met file formats task (at + 1) (take (e - 24) (drop 24 p)))
        → noted ≡ after inside (own_met file formats task count first)
        → t ≡ after noted (sentences_met file formats task count first)
        → t ≡ after s (term_met file formats task at p)
    term_steps at e count first p s called inside noted t part some end c f h i j k =
        rw (term_first file formats task readable at e p part some end, ← c, ← f)
        (collect_then task.room s noted t _ _
        (collect_then task.room s inside noted _ _ (collect_then task.room s called inside _ _ h i) j) k)

    -- a term without sentences
    pub term_ends : (at e count : ℕ) (p : List ℕ) (s called inside : Sink) → PartAt file at p → 24 ≤ length p → e ≡ end_of p
        → count ≡ sentences_in (term_at p 0) → count ≡ 0
        → called ≡ after s (calls_met file formats task at)
        → inside ≡ after called (run_met file formats task (at + 1) (take (e - 24) (drop 24 p)))
        → inside ≡ after s (term_met file formats task at p)
    term_ends at e count p s called inside part some end c z h i =
        let none = collect_none task.room inside in
        term_steps at e 0 (block_first file at) p s called inside inside inside part some end (sym z ∙ c) refl h i
        (rw (own_met_none file formats task (block_first file at)) none)
        (rw (sentences_none file formats task (block_first file at)) none)

    -- a sentence
    pub sentence_steps : (s at next : ℕ) (p r : List ℕ) (start left asked t : Sink) → s < file.sentences.count
        → at ≡ pattern_at file s → p ≡ pattern_part file s → next ≡ result_at file s → r ≡ result_part file s
        → left ≡ after start (pattern_met file formats task at p)
        → asked ≡ after left (conditions_met file formats task s (conditions_of file s) (first_condition file s))
        → t ≡ after asked (run_met file formats task next r)
        → t ≡ after start (sentences_met file formats task 1 s)
    sentence_steps s at next p r start left asked t h a b c d i j k =
        rw (sentence_parts file formats task readable s h, ← a, ← b, ← c, ← d)
        (collect_then task.room start asked t _ _ (collect_then task.room start left asked _ _ i j) k)

    -- the sentences that a loop has left, after i of them
    pub sentences_next : (count first i : ℕ) (whole now next : Sink) → i < count → first + count ≤ file.sentences.count
        → whole ≡ after now (sentences_met file formats task (count - i) (first + i))
        → next ≡ after now (sentences_met file formats task 1 (first + i))
        → whole ≡ after next (sentences_met file formats task (count - (i + 1)) (first + (i + 1)))
    sentences_next count first i whole now next h l inv e =
        let left : count - i ≡ suc (count - (i + 1)) = omega arith in
        let place : first + (i + 1) ≡ suc (first + i) = omega arith in
        inv
        ∙ rw (left, sentences_first file formats task readable (count - (i + 1)) (first + i) (omega arith))
        (rw (collect_append task.room now, ← e, place) refl)

  pub sentences_start_lem : (count first : ℕ) (start : Sink)
      → after start (sentences_met file formats task count first) ≡ after start (sentences_met file formats task (count - 0) (first + 0))
  sentences_start_lem count first start =
      let left : count - 0 ≡ count = omega arith in
      let place : first + 0 ≡ first = omega arith in
      rw (left, place)

  pub sentences_end : (count first i : ℕ) (whole now : Sink) → count ≤ i
      → whole ≡ after now (sentences_met file formats task (count - i) (first + i)) → now ≡ whole
  sentences_end count first i whole now h inv =
      let left : count - i ≡ 0 = omega arith in
      collect_none task.room now ∙ sym (rw (left, sentences_none file formats task (first + i)) at inv)

  -- the conditions that a loop has left, after i of them
  pub conditions_next : (s count first i at next : ℕ) (p w : List ℕ) (whole now left t : Sink) → i < count
      → at ≡ condition_result_at file s (first + i) → p ≡ condition_result_part file s (first + i)
      → next ≡ condition_result_size file (first + i) → w ≡ condition_pattern_part file s (first + i)
      → whole ≡ after now (conditions_met file formats task s (count - i) (first + i))
      → left ≡ after now (run_met file formats task at p)
      → t ≡ after left (pattern_met file formats task (at + next) w)
      → whole ≡ after t (conditions_met file formats task s (count - (i + 1)) (first + (i + 1)))
  conditions_next s count first i at next p w whole now left t h a b c d inv j k =
      let less : count - i ≡ suc (count - (i + 1)) = omega arith in
      let place : first + (i + 1) ≡ suc (first + i) = omega arith in
      let both = rw (a, b, c, d) at (collect_then task.room now left t _ _ j k) in
      inv
      ∙ rw (less, conditions_first file formats task s (count - (i + 1)) (first + i))
      (rw (
        collect_append task.room now (run_met file formats task (condition_result_at file s (first + i)) (condition_result_part file s (first + i))
            ++ pattern_met file formats task (condition_result_at file s (first + i) + condition_result_size file (first + i)) (condition_pattern_part file s (first + i))),
        ← both,
        place,
      ) refl)

  pub conditions_start_lem : (s count first : ℕ) (start : Sink) → first ≡ first_condition file s → count ≡ conditions_of file s
      → after start (conditions_met file formats task s (conditions_of file s) (first_condition file s))
      ≡ after start (conditions_met file formats task s (count - 0) (first + 0))
  conditions_start_lem s count first start f c =
      let left : count - 0 ≡ conditions_of file s = omega (arith, c) in
      let place : first + 0 ≡ first_condition file s = omega (arith, f) in
      rw (left, place)

  pub conditions_end : (s count first i : ℕ) (whole now : Sink) → count ≤ i
      → whole ≡ after now (conditions_met file formats task s (count - i) (first + i)) → now ≡ whole
  conditions_end s count first i whole now h inv =
      let left : count - i ≡ 0 = omega arith in
      collect_none task.room now ∙ sym (rw (left, conditions_none file formats task s (first + i)) at inv)

  -- a function: lint 4 looks at its own sentences only
  module _ (f count first : ℕ) (number : count ≡ sentences_of file f) (from : first ≡ first_sentence file f) where
    pub function_open : (s t : Sink) → (number_of task) ≡ 4 → t ≡ after s (remark_events task (open_in (keep count (sentences_at file first))))
        → t ≡ after s (function_events (tree_of file) formats task (keep (sentences_of file f) (sentences_at file (first_sentence file f))))
    unfolding function_events
    function_open s t h e = rw (eq-eqb (number_of task) 4 h, ← number, ← from) e

    pub function_steps : (s noted t : Sink) → ((number_of task) ≡ 4 → ⊥) → noted ≡ after s (own_met file formats task count first)
        → t ≡ after noted (sentences_met file formats task count first)
        → t ≡ after s (function_events (tree_of file) formats task (keep (sentences_of file f) (sentences_at file (first_sentence file f))))
    unfolding function_events
    function_steps s noted t h i j =
        rw (ne_eqb (number_of task) 4 h, ← number, ← from, ← own_block task (keep count (sentences_at file first)))
        (collect_then task.room s noted t _ _ i j)

  -- the functions that a loop has left, after f of them
  pub functions_start_lem : (start : Sink) → after start (lint_events (tree_of file) formats task) ≡ after start (functions_met file formats task 0)
  functions_start_lem start = ap (λ fs. after start (functions_events (tree_of file) formats task 0 fs)) (tree_functions_lem file)

  pub functions_next : (f : ℕ) (whole now next : Sink) → f < file.functions.count → whole ≡ after now (functions_met file formats task f)
      → next ≡ after now (function_met file formats task f) → whole ≡ after next (functions_met file formats task (f + 1))
  functions_next f whole now next h inv e =
      inv ∙ rw (functions_first file formats task f h, collect_append task.room now, ← e, add-one f) refl

  pub functions_end : (f : ℕ) (whole now : Sink) → file.functions.count ≤ f → whole ≡ after now (functions_met file formats task f) → now ≡ whole
  functions_end f whole now h inv = collect_none task.room now ∙ sym (rw (functions_none file formats task f h) at inv)

-- ---- what is smaller

module _ (file : File) where
  -- how much there is to go through in a part, for its first term, as a run and as a pattern, in sentences, in one sentence and in its conditions; a part
  -- counts whole also where only its first term is gone through
  abbrev pub term_work : ℕ → List ℕ → ℕ
  term_work at p = 8 * run_size (run_of file (own file) at p)

  abbrev pub run_work : ℕ → List ℕ → ℕ
  run_work at p = 8 * run_size (run_of file (own file) at p) + 1

  abbrev pub pattern_work : ℕ → List ℕ → ℕ
  pattern_work at p = 8 * run_size (run_of file (own file) at p) + 2

  abbrev pub conditions_work : ℕ → ℕ
  conditions_work s = 8 * conditions_size (conditions_from file (own file) s (conditions_of file s) (first_condition file s)) + 3

  abbrev pub sentence_work : ℕ → ℕ
  sentence_work s = 8 * sentences_size (keep 1 (sentences_at file s)) + 5

  abbrev pub sentences_work : ℕ → ℕ → ℕ
  sentences_work n s = 8 * sentences_size (keep n (sentences_at file s)) + 6

  module _ (readable : Readable file) where
    run_size_lem : (at e : ℕ) (p : List ℕ) → PartAt file at p → 24 ≤ length p → e ≡ end_of p
        → run_size (run_of file (own file) at p)
        ≡ suc (run_size (run_of file (own file) (at + 1) (take (e - 24) (drop 24 p)))
        + (sentences_size (keep (sentences_in (term_at p 0)) (sentences_at file (block_first file at)))
        + run_size (run_of file (own file) (at + 1 + word_at p 12) (take (length p - e) (drop e p)))))
    unfolding own
    run_size_lem at e p part some end =
        rw (end, run_node file (own file) at p some)
        (term_size file.text.records (own file) at (mark_at at p 16) (term_at p 0) (word_at p 12) (run_of file (own file) (at + 1) (contents 24 end_of p))
        (run_of file (own file) (at + 1 + word_at p 12) (rest 24 end_of p))
        (part_inside file readable at p part some)
        (contents_none file (at + 1) p)
        (own_none file at))

    -- what is inside the first term of a part, its sentences, and what is after it
    pub inside_less : (at e t : ℕ) (p : List ℕ) → PartAt file at p → 24 ≤ length p → e ≡ end_of p → term_work at p ≡ t
        → run_work (at + 1) (take (e - 24) (drop 24 p)) < t
    inside_less at e t p part some end m = omega (arith, run_size_lem at e p part some end, m)

    pub entered_less : (at count first t : ℕ) (p : List ℕ) → PartAt file at p → 24 ≤ length p → count ≡ sentences_in (term_at p 0) → first ≡ block_first file at
        → term_work at p ≡ t → sentences_work count first < t
    entered_less at count first t p part some c f m = rw (c, f) (omega (arith, run_size_lem at (end_of p) p part some refl, m))

    after_less : (at : ℕ) (p : List ℕ) → PartAt file at p → 24 ≤ length p
        → run_size (run_of file (own file) (at + 1 + word_at p 12) (rest 24 end_of p)) ≤ run_size (run_of file (own file) at p)
    after_less at p part some = omega (arith, run_size_lem at (end_of p) p part some refl)

    sentences_size_lem : (n s : ℕ) → s < file.sentences.count
        → sentences_size (keep (suc n) (sentences_at file s)) ≡ sentences_size (keep 1 (sentences_at file s)) + sentences_size (keep n (sentences_at file (suc s)))
    unfolding run_size keep
    sentences_size_lem n s h = rw (kept_reads file readable n s h, kept_reads file readable 0 s h) (omega arith)

    sentence_size : (s : ℕ) → s < file.sentences.count
        → sentences_size (keep 1 (sentences_at file s))
        ≡ suc (run_size (run_of file (own file) (pattern_at file s) (pattern_part file s))
        + (conditions_size (conditions_from file (own file) s (conditions_of file s) (first_condition file s))
        + run_size (run_of file (own file) (result_at file s) (result_part file s))))
    unfolding run_size keep
    sentence_size s h = rw (kept_reads file readable 0 s h) (omega arith)

    -- a sentence's pattern, conditions and result
    pub pattern_less : (s at t : ℕ) (p : List ℕ) → s < file.sentences.count → at ≡ pattern_at file s → p ≡ pattern_part file s → sentence_work s ≡ t
        → pattern_work at p < t
    pattern_less s at t p h a b m = rw (a, b) (omega (arith, sentence_size s h, m))

    pub conditions_less : (s t : ℕ) → s < file.sentences.count → sentence_work s ≡ t → conditions_work s < t
    conditions_less s t h m = omega (arith, sentence_size s h, m)

    pub result_less : (s at t : ℕ) (p : List ℕ) → s < file.sentences.count → at ≡ result_at file s → p ≡ result_part file s → sentence_work s ≡ t
        → run_work at p < t
    result_less s at t p h a b m = rw (a, b) (omega (arith, sentence_size s h, m))

    -- one of some sentences
    sentence_in : (n s i : ℕ) → i < n → s + n ≤ file.sentences.count
        → sentences_size (keep 1 (sentences_at file (s + i))) ≤ sentences_size (keep n (sentences_at file s))
    sentence_in zero s i h l = absurd (omega arith)
    sentence_in (suc n) s zero h l =
        let place : s + 0 ≡ s = omega arith in
        rw place (omega (arith, sentences_size_lem n s (omega arith)))
    sentence_in (suc n) s (suc i) h l =
        let place : s + suc i ≡ suc s + i = omega arith in
        rw place (omega (arith, sentences_size_lem n s (omega arith), sentence_in n (suc s) i (omega arith) (omega arith)))

    pub sentence_less : (count first i t : ℕ) → i < count → first + count ≤ file.sentences.count → sentences_work count first ≡ t
        → sentence_work (first + i) < t
    sentence_less count first i t h l m = omega (arith, sentence_in count first i h l, m)

  conditions_size_lem : (s n c : ℕ)
      → conditions_size (conditions_from file (own file) s (suc n) c)
      ≡ suc (run_size (run_of file (own file) (condition_result_at file s c) (condition_result_part file s c))
      + (run_size (run_of file (own file) (condition_result_at file s c + condition_result_size file c) (condition_pattern_part file s c))
      + conditions_size (conditions_from file (own file) s n (suc c))))
  unfolding run_size conditions_from
  conditions_size_lem s n c = refl

  -- one of some conditions
  condition_in : (s n c i : ℕ) → i < n
      → run_size (run_of file (own file) (condition_result_at file s (c + i)) (condition_result_part file s (c + i)))
      + run_size (run_of file (own file) (condition_result_at file s (c + i) + condition_result_size file (c + i)) (condition_pattern_part file s (c + i)))
      < conditions_size (conditions_from file (own file) s n c)
  condition_in s zero c i h = absurd (omega arith)
  condition_in s (suc n) c zero h =
      let place : c + 0 ≡ c = omega arith in
      rw place (omega (arith, conditions_size_lem s n c))
  condition_in s (suc n) c (suc i) h =
      let place : c + suc i ≡ suc c + i = omega arith in
      rw place (omega (arith, conditions_size_lem s n c, condition_in s n (suc c) i (omega arith)))

  pub condition_result_less : (s i at t : ℕ) (p : List ℕ) → i < conditions_of file s → at ≡ condition_result_at file s (first_condition file s + i)
      → p ≡ condition_result_part file s (first_condition file s + i) → conditions_work s ≡ t → run_work at p < t
  condition_result_less s i at t p h a b m = rw (a, b) (omega (arith, condition_in s (conditions_of file s) (first_condition file s) i h, m))

  pub condition_pattern_less : (s i at n t : ℕ) (p : List ℕ) → i < conditions_of file s → at ≡ condition_result_at file s (first_condition file s + i)
      → n ≡ condition_result_size file (first_condition file s + i) → p ≡ condition_pattern_part file s (first_condition file s + i) → conditions_work s ≡ t → pattern_work (at + n) p < t
  condition_pattern_less s i at n t p h a b c m = rw (a, b, c) (omega (arith, condition_in s (conditions_of file s) (first_condition file s) i h, m))

  -- a pattern as a run
  pub run_less : (at t : ℕ) (p : List ℕ) → pattern_work at p ≡ t → run_work at p < t
  run_less at t p m = omega (arith, m)

-- ---- a loop over the records of a part

module _ (file : File) (formats : Formats) (task : Task) where
  -- what it has left from the byte i on is a part too, and no larger; what is met there, collected from now on, is what is met in the whole part
  pub record Left (at : ℕ) (p : List ℕ) (start now : Sink) (i : ℕ) : Type 0 where
    pub within : i ≤ length p
    pub part : PartAt file (at + i / 24) (from i p)
    pub smaller : run_size (run_of file (own file) (at + i / 24) (from i p)) ≤ run_size (run_of file (own file) at p)
    pub met : after file formats task start (run_met file formats task at p) ≡ after file formats task now (run_met file formats task (at + i / 24) (from i p))

  pub left_start : (at : ℕ) (p : List ℕ) (start : Sink) → PartAt file at p → Left at p start start 0
  left_start at p start part =
      let place : at + 0 / 24 ≡ at = omega arith in
      record {
        within = omega arith;
        part = rw (place, from_all p) part;
        smaller = rw (place, from_all p) (omega arith);
        met = rw (place, from_all p);
      }

module _ {file : File} {formats : Formats} {task : Task} {at i : ℕ} {p : List ℕ} {start now : Sink} (left : Left file formats task at p start now i) where
  -- no record is left
  pub left_end : length p ≤ i → now ≡ after file formats task start (run_met file formats task at p)
  left_end h =
      collect_none task.room now
      ∙ sym (rw (run_none file formats task (at + i / 24) (from i p) (omega (arith, from_length i p))) at left.met)

  pub next_within : {e : ℕ} → e ≤ length (from i p) → i + e ≤ length p
  next_within h = omega (arith, from_length i p, left.within)

  -- a byte that is left is one of a whole record
  pub left_more : Readable file → i < length p → i + 24 ≤ length p
  left_more readable h = omega (arith, from_length i p, part_length file readable (at + i / 24) (from i p) left.part)

  module _ (more : i + 24 ≤ length p) where
    pub left_some : 24 ≤ length (from i p)
    left_some = omega (arith, from_length i p)

    -- the first term that is left
    pub first_less : (t : ℕ) → run_work file at p ≡ t → term_work file (at + i / 24) (from i p) < t
    first_less t m = omega (arith, left.smaller, m)

    -- the records after it; e is where its contents end
    pub left_next : Readable file → PartAt file at p → (e : ℕ) (next : Sink) → e ≡ end_of (from i p)
        → next ≡ after file formats task now (term_met file formats task (at + i / 24) (from i p)) → Left file formats task at p start next (i + e)
    left_next readable whole e next end first =
        let n : ℕ = word_at (from i p) 12 in
        let size : e ≡ 24 + 24 * n = end ∙ part_end_lem file readable (at + i / 24) (from i p) left.part left_some in
        let place : at + (i + e) / 24 ≡ at + i / 24 + 1 + n =
        omega (arith, size, from_length i p, left.within, part_length file readable at p whole, part_length file readable (at + i / 24) (from i p) left.part) in
        let rest_is : from (i + e) p ≡ rest 24 end_of (from i p) = sym (from_from e i p) ∙ ap (λ k. from k (from i p)) end in
        let rest-here = rest_part file readable (at + i / 24) (from i p) left.part left_some in
        record {
          within = next_within (rw end (end_high (from i p)));
          part = rw (place, rest_is) rest-here;
          smaller = rw (place, rest_is) (omega (arith, after_less file readable (at + i / 24) (from i p) left.part left_some, left.smaller));
          met =
              left.met
              ∙ rw (place, rest_is, run_first file formats task (at + i / 24) (from i p) left_some, collect_append task.room now, ← first) refl;
        }

    -- the records after a symbol or a variable
    pub leaf_next : Readable file → PartAt file at p → (kind : ℕ) → kind ≡ word_at p i → kind < 6 → Left file formats task at p start now (i + 24)
    leaf_next readable whole kind k h =
        let word : word_at (from i p) 0 ≡ word_at p i = part_word i (length p - i) 0 p (omega arith) ∙ ap (word_at p) (add-zero i) in
        let leaf : word_at (from i p) 0 < 6 = omega (arith, k, word) in
        left_next readable whole 24 now (leaf_end file readable (at + i / 24) (from i p) left.part left_some leaf)
        (rw (leaf_none file formats task (at + i / 24) (from i p) left_some leaf) (collect_none task.room now))

-- ---- what is read of a prepared law

module _ {bytes index : List ℕ} {slots : Slots} {store : List ℕ} {limit : ℕ} (prepared : Prepared bytes index slots store limit) where
  indexed : Indexed bytes index
  indexed = prepared.asked.indexed

  readable : Readable (file_of bytes)
  readable = prepared.asked.readable

  -- a part's length
  pub run_small : (at : ℕ) (p : List ℕ) → PartAt (file_of bytes) at p → length p ≤ 12288
  run_small at p part = part_small bytes index indexed readable at p part

  -- the first record of a part
  module _ (at : ℕ) (p : List ℕ) (part : PartAt (file_of bytes) at p) (some : 24 ≤ length p) where
    pub at_inside : at < (file_of bytes).terms.count
    at_inside = part_at (file_of bytes) readable at p part some

    pub at_small : at < 512
    at_small = omega (arith, at_inside, terms_limit bytes index indexed)

    -- where a block's sentences start, and that they are in the file
    pub block_reads : (first : ℕ) → first ≡ get_or index (460 + at) 0 → first ≡ block_first (file_of bytes) at
    block_reads first e = e ∙ indexed.words.blocks at at_inside

    pub block_inside : (first count : ℕ) → first ≡ get_or index (460 + at) 0 → count ≡ sentences_in (term_at p 0)
        → first + count ≤ (file_of bytes).sentences.count
    block_inside first count f c = rw (block_reads first f, c) (part_sentences (file_of bytes) readable at p part some)

    -- what is inside it
    pub inside_part : (e : ℕ) → e ≡ end_of p → PartAt (file_of bytes) (at + 1) (take (e - 24) (drop 24 p))
    inside_part e q = rw q (contents_part (file_of bytes) readable at p part some)

  pub sentences_small : (file_of bytes).sentences.count ≤ 128
  sentences_small = sentences_limit bytes index indexed

  -- the parts of a sentence
  module _ (s : ℕ) (inside : s < (file_of bytes).sentences.count) where
    pub pattern_reads : (at : ℕ) (p : List ℕ) → at ≡ pattern_at (file_of bytes) s → p ≡ pattern_part (file_of bytes) s → PartAt (file_of bytes) at p
    pattern_reads at p a b = rw (a, b) (pattern_part_lem (file_of bytes) readable s inside)

    pub result_reads : (at : ℕ) (p : List ℕ) → at ≡ result_at (file_of bytes) s → p ≡ result_part (file_of bytes) s → PartAt (file_of bytes) at p
    result_reads at p a b = rw (a, b) (result_part_lem (file_of bytes) readable s inside)

    -- its conditions: the first of them, and their number
    pub conditions_first_reads : (first : ℕ) → first ≡ get_or index (73 + s) 0 → first ≡ first_condition (file_of bytes) s
    conditions_first_reads first e = e ∙ indexed.words.first_conditions s (le_of_lt inside)

    pub conditions_next_reads : (next : ℕ) → next ≡ get_or index (73 + (s + 1)) 0 → next ≡ first_condition (file_of bytes) s + conditions_of (file_of bytes) s
    conditions_next_reads next e = e ∙ conditions_before_lem bytes index indexed s inside

    pub conditions_count : (first next : ℕ) → first ≡ get_or index (73 + s) 0 → next ≡ get_or index (73 + (s + 1)) 0 → next - first ≡ conditions_of (file_of bytes) s
    conditions_count first next a b = omega (arith, conditions_first_reads first a, conditions_next_reads next b)

    -- one of them, as a loop reaches it
    module _ (first count i : ℕ) (from : first ≡ first_condition (file_of bytes) s) (all : count ≡ conditions_of (file_of bytes) s) (within : i < count) where
      pub condition_owned : Owns (file_of bytes) s (first + i)
      condition_owned = rw from (owns bytes index indexed s i inside (omega (arith, all)))

      pub condition_inside : first + i < (file_of bytes).conditions.count
      condition_inside = owned bytes index indexed s (first + i) condition_owned

      pub condition_small : first + i < 128
      condition_small = omega (arith, condition_inside, conditions_limit bytes index indexed)

      pub condition_result_reads : (at : ℕ) (p : List ℕ) → at ≡ condition_result_at (file_of bytes) s (first + i) → p ≡ condition_result_part (file_of bytes) s (first + i)
          → PartAt (file_of bytes) at p
      condition_result_reads at p a b = rw (a, b) (condition_result_part_lem (file_of bytes) readable s (first + i) condition_owned)

      pub condition_pattern_reads : (at n : ℕ) (p : List ℕ) → at ≡ condition_result_at (file_of bytes) s (first + i) → n ≡ condition_result_size (file_of bytes) (first + i)
          → p ≡ condition_pattern_part (file_of bytes) s (first + i) → PartAt (file_of bytes) (at + n) p
      condition_pattern_reads at n p a b c = rw (a, b, c) (condition_pattern_part_lem (file_of bytes) readable s (first + i) condition_owned)

      pub condition_pattern_small : (at n : ℕ) → at ≡ condition_result_at (file_of bytes) s (first + i) → n ≡ condition_result_size (file_of bytes) (first + i) → at + n ≤ 512
      condition_pattern_small at n a b = omega (arith, condition_result_fits bytes index indexed s (first + i) condition_owned, terms_limit bytes index indexed, a, b)

      -- each is smaller than the conditions
      pub asked_falls : (at t : ℕ) (p : List ℕ) → at ≡ condition_result_at (file_of bytes) s (first + i) → p ≡ condition_result_part (file_of bytes) s (first + i)
          → conditions_work (file_of bytes) s ≡ t → run_work (file_of bytes) at p < t
      asked_falls at t p a b m =
          condition_result_less (file_of bytes) s i at t p (omega (arith, all)) (a ∙ ap (λ c. condition_result_at (file_of bytes) s (c + i)) from)
          (b ∙ ap (λ c. condition_result_part (file_of bytes) s (c + i)) from) m

      pub wanted_falls : (at n t : ℕ) (p : List ℕ) → at ≡ condition_result_at (file_of bytes) s (first + i) → n ≡ condition_result_size (file_of bytes) (first + i)
          → p ≡ condition_pattern_part (file_of bytes) s (first + i) → conditions_work (file_of bytes) s ≡ t → pattern_work (file_of bytes) (at + n) p < t
      wanted_falls at n t p a b c m =
          condition_pattern_less (file_of bytes) s i at n t p (omega (arith, all)) (a ∙ ap (λ c. condition_result_at (file_of bytes) s (c + i)) from)
          (b ∙ ap (λ c. condition_result_size (file_of bytes) (c + i)) from) (c ∙ ap (λ c. condition_pattern_part (file_of bytes) s (c + i)) from) m

  -- a function's own sentences: the first of them, their number, and that they are in the file
  module _ (f : ℕ) (inside : f < (file_of bytes).functions.count) where
    pub function_small : f < 64
    function_small = omega (arith, inside, functions_limit bytes index indexed)

    module _ (first next : ℕ) (from : first ≡ get_or index (8 + f) 0) (to : next ≡ get_or index (8 + (f + 1)) 0) where
      pub sentences_first_reads : first ≡ first_sentence (file_of bytes) f
      sentences_first_reads = from ∙ indexed.words.first_sentences f (le_of_lt inside)

      pub sentences_next_reads : next ≡ first + sentences_of (file_of bytes) f
      sentences_next_reads = omega (arith, to, sentences_before bytes index indexed f inside, sentences_first_reads)

      pub sentences_count : next - first ≡ sentences_of (file_of bytes) f
      sentences_count = omega (arith, sentences_next_reads)

      pub sentences_inside : first + (next - first) ≤ (file_of bytes).sentences.count
      sentences_inside = omega (arith, sentences_next_reads, sentences_first_reads, function_inside (file_of bytes) indexed.used f inside)

  pub functions_read : (count : ℕ) → count ≡ get_or index 4 0 → count ≡ (file_of bytes).functions.count
  functions_read count e = e ∙ indexed.words.functions

  pub functions_few : get_or index 4 0 ≤ 64
  functions_few = omega (arith, indexed.words.functions, functions_limit bytes index indexed)

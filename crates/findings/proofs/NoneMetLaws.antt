-- Where the functions have all sentences no block has any, so that lint 1 meets nothing inside the functions' sentences. Where there is no call, lints 2
-- and 3 meet nothing there.
use Prim.Native.Nat.{ℕ, zero, suc, ◌+◌, ◌*◌, ◌-◌, ◌≤◌, ◌<◌}
use mathlib.Core.Bool.{Bool, true, false}
use mathlib.Core.List.{List, [], ◌∷◌}
use mathlib.Core.Path.{◌≡◌, refl, ap, ◌∙◌}
use native.Mathlib.Omega.{arith}
use lib.ListN.{get_or}
use lib.Dec.{eqb}
use borrow.Author.Tests.{not-true, eqb-true, eqb-false, eq-eqb, ne_eqb}
use Rattle.file.specs.Forest.{Forest, end, node}
use Rattle.file.specs.Head.{term_from, term_at}
use Rattle.file.specs.Word.{word_at}
use Rattle.file.specs.Sections.{File, file_of}
use Rattle.file.specs.declared.Term.{Term}
use Rattle.file.specs.declared.Term.TheVariants.{Symbol as Symbolic, SVariable, TVariable, EVariable, Bracket, Call, Block}
use Rattle.lints.specs.Calls.{Call as CallOf}
use Rattle.law.specs.Tree.{Name, Mark, Symbol, Run, empty, symbol, variable, bracket, call, block, Sentences, no_sentence, sentence, Conditions, no_condition, condition, Law, keep}
use Rattle.law.specs.Places.{sentences_of, first_sentence, block_first, condition_result_at, condition_result_size, condition_result_part}
use Rattle.law.specs.Places.{condition_pattern_part, conditions_of, first_condition, pattern_at, pattern_part, result_at, result_part}
use Rattle.law.specs.Runs.{term_forest}
use Rattle.law.specs.Reading.{mark_at, term_run, forest_run, run_of, conditions_from, sentences_from, sentences_at, own}
use Rattle.law.specs.Code.Index.{Indexed, Readable}
use Rattle.law.proofs.PlaceLaws.{block_start, block_grows}
use Rattle.law.proofs.Functions.{keep_none, kept_reads, function_reads}
use Rattle.formats.specs.Infer.{Formats}
use Rattle.formats.specs.declared.slots.Slots.{Slots}
use Rattle.matching.specs.Match.{when}
use Rattle.matching.specs.Literal.{InDigits}
use Rattle.lints.proofs.Everywhere.{EveryRun, EverySentence, EveryCondition}
use Rattle.lints.proofs.Records.{OfCalls, InBlock, functions_every}
use Rattle.findings.specs.declared.Task.{Task}
use Rattle.findings.specs.Code.Events.{Event, Sink, collect}
use Rattle.findings.specs.Code.Walk.{walked, walked_sentences, walked_conditions}
use Rattle.findings.specs.Code.Tasks.{number_of, call_events, block_events, inside_events, none_inside}
use Rattle.findings.proofs.CollectLaws.{collect_none}
use Rattle.findings.proofs.WalkLaws.{calls_of, words_calls, block_none}

-- the blocks then have no sentence, whatever number their records say
no_own : (file : File) → first_sentence file file.functions.count ≡ file.sentences.count → (t n : ℕ) → own file t n ≡ no_sentence
unfolding own sentences_at sentences_from
no_own file all t n =
    let none : file.sentences.count - block_first file t ≡ 0 = omega (arith, all, block_start file, block_grows file 0 t (omega arith)) in
    rw none (keep_none n)

module _ (on_call : CallOf → List Event) (on_block : Sentences → List Event) (no_call : (c : CallOf) → on_call c ≡ []) (no_block : on_block no_sentence ≡ []) where
  module _ (give : ℕ → ℕ → Sentences) (none : (t n : ℕ) → give t n ≡ no_sentence) (text : List ℕ) where
    none_in_term : (at : ℕ) (mark : Mark) (x : Term) (inside after : Run) → walked on_call on_block true inside ≡ [] → walked on_call on_block true after ≡ []
        → walked on_call on_block true (term_run text give at mark x inside after) ≡ []
    unfolding walked
    none_in_term at mark (Symbolic x) inside after i a = a
    none_in_term at mark (SVariable x y) inside after i a = a
    none_in_term at mark (TVariable x y) inside after i a = a
    none_in_term at mark (EVariable x y) inside after i a = a
    none_in_term at mark Bracket inside after i a = rw (i, a)
    none_in_term at mark (Call x y) inside after i a = rw (no_call, i, a)
    none_in_term at mark (Block n) inside after i a = rw (none at n, no_block, i, a)

    none_in_forest : (at : ℕ) (f : Forest) → walked on_call on_block true (forest_run text give at f) ≡ []
    unfolding forest_run walked
    none_in_forest at end = refl
    none_in_forest at (node s inside after) =
        none_in_term at (mark_at at s 16) (term_at s 0) (forest_run text give (at + 1) inside) (forest_run text give (at + 1 + word_at s 12) after)
        (none_in_forest (at + 1) inside)
        (none_in_forest (at + 1 + word_at s 12) after)

  module _ (file : File) (all : first_sentence file file.functions.count ≡ file.sentences.count) where
    none_in_run : (at : ℕ) (p : List ℕ) → walked on_call on_block true (run_of file (own file) at p) ≡ []
    none_in_run at p = none_in_forest (own file) (no_own file all) file.text.records at (term_forest p)

    none_in_conditions : (s n c : ℕ) → walked_conditions on_call on_block true (conditions_from file (own file) s n c) ≡ []
    unfolding walked conditions_from
    none_in_conditions s zero c = refl
    none_in_conditions s (suc n) c =
        rw (
          none_in_run (condition_result_at file s c) (condition_result_part file s c),
          none_in_run (condition_result_at file s c + condition_result_size file c) (condition_pattern_part file s c),
          none_in_conditions s n (suc c),
        )

    none_in_sentences : Readable file → (n s : ℕ) → s + n ≤ file.sentences.count → walked_sentences on_call on_block true (keep n (sentences_at file s)) ≡ []
    unfolding walked keep
    none_in_sentences readable zero s h = refl
    none_in_sentences readable (suc n) s h =
        rw (
          kept_reads file readable n s (omega arith),
          none_in_run (pattern_at file s) (pattern_part file s),
          none_in_conditions s (conditions_of file s) (first_condition file s),
          none_in_run (result_at file s) (result_part file s),
          none_in_sentences readable n (suc s) (omega arith),
        )

-- lint 1 meets nothing at a call
dead_calls : (law : Law) (formats : Formats) (task : Task) → (number_of task) ≡ 1 → (c : CallOf) → call_events law formats task c ≡ []
unfolding call_events
dead_calls law formats task e c = rw e

-- lint 1, where the functions have all sentences
no_blocks_inside : (bytes index : List ℕ) (law : Law) (formats : Formats) (task : Task) → Indexed bytes index → Readable (file_of bytes) → (number_of task) ≡ 1
    → get_or index (8 + get_or index 4 0) 0 ≡ get_or index 5 0
    → (n s : ℕ) → s + n ≤ (file_of bytes).sentences.count → inside_events law formats task (keep n (sentences_at (file_of bytes) s)) ≡ []
no_blocks_inside bytes index law formats task indexed readable lint same n s h =
    let words = indexed.words in
    let place : get_or index (8 + (file_of bytes).functions.count) 0 ≡ get_or index 5 0 = rw words.functions at same in
    let all : first_sentence (file_of bytes) (file_of bytes).functions.count ≡ (file_of bytes).sentences.count =
    omega (arith, place, words.first_sentences (file_of bytes).functions.count (omega arith), words.sentences) in
    rw (eq-eqb (number_of task) 1 lint)
    (none_in_sentences (call_events law formats task) (block_events task) (dead_calls law formats task lint) (block_none task) (file_of bytes) all readable n s h)

-- ---- where there is no call

abbrev NoCall : ℕ → Name → Run → Type 0
NoCall t f q = ⊥

module _ (on_call : CallOf → List Event) (on_block : Sentences → List Event) (no_block : (ss : Sentences) → on_block ss ≡ [])
    (OfSymbol : Symbol → Type 0) (OfBlock : ℕ → Type 0) where
  mutual
    unfolding walked

    none_called : (r : Run) → EveryRun OfSymbol NoCall OfBlock r → walked on_call on_block false r ≡ []
    none_called empty h = refl
    none_called (symbol a after) h = none_called after h.1
    none_called (variable k i after) h = none_called after h
    none_called (bracket inside after) h = rw (none_called inside h.0, none_called after h.1)
    none_called (call m f inside after) h = absurd h.0
    none_called (block m inside ss after) h =
        rw (none_called inside h.0, no_block ss, none_called_sentences ss h.1.1, none_called after h.2)

    none_called_sentences : (ss : Sentences) → EverySentence OfSymbol NoCall OfBlock ss → walked_sentences on_call on_block false ss ≡ []
    none_called_sentences no_sentence h = refl
    none_called_sentences (sentence m p cs r ss) h =
        rw (none_called_conditions cs h.1, none_called r h.2, none_called_sentences ss h.3)

    none_called_conditions : (cs : Conditions) → EveryCondition OfSymbol NoCall OfBlock cs → walked_conditions on_call on_block false cs ≡ []
    none_called_conditions no_condition h = refl
    none_called_conditions (condition r p cs) h = rw (none_called r h.0, none_called_conditions cs h.2)

-- a record that is a call is of kind 7
called : (b : Bool) (c d : CallOf) → when b (c ∷ []) ≡ d ∷ [] → b ≡ true
called true c d e = refl
called false c d e = let z : ◌≡◌ {A = ℕ} 0 1 = cc in absurd (omega arith)

call_kind : (mark : Mark) (a b kind x y : ℕ) → term_from kind a b ≡ Call x y → kind ≡ 7
call_kind mark a b kind x y e = eqb-true kind 7 (called (eqb kind 7) _ _ (words_calls [] mark a b empty kind ∙ ap (λ w. calls_of [] mark w empty) e))

-- lints 2 and 3, in the sentences of a function
no_calls_inside : (file : File) (law : Law) (formats : Formats) (task : Task) → Readable file → ((number_of task) ≡ 1 → ⊥)
    → ((t : ℕ) → t < file.terms.count → word_at file.terms.records (24 * t) ≡ 7 → ⊥)
    → (f : ℕ) → f < file.functions.count → inside_events law formats task (keep (sentences_of file f) (sentences_at file (first_sentence file f))) ≡ []
unfolding block_events term_at
no_calls_inside file law formats task readable other none f h =
    let no_call_lem : OfCalls file NoCall = λ t a b inside e part. none t inside (call_kind (mark_at t file.terms.records (24 * t + 16)) _ _ _ a b e) in
    let every = rw (function_reads file f h) at (functions_every file readable NoCall no_call_lem (file.functions.count - f) f (omega arith)) in
    rw (ne_eqb (number_of task) 1 other)
    (none_called_sentences (call_events law formats task) (block_events task) (λ ss. rw (ne_eqb (number_of task) 1 other)) InDigits (InBlock file)
    (keep (sentences_of file f) (sentences_at file (first_sentence file f))) every.0)

-- ---- a function

pub nothing_inside : (bytes index : List ℕ) (slots : Slots) (law : Law) (formats : Formats) (task : Task) → Indexed bytes index → Readable (file_of bytes)
    → ((t : ℕ) → t < (file_of bytes).terms.count → word_at (file_of bytes).terms.records (24 * t) ≡ 7 → slots.has_call ≡ true)
    → none_inside index slots (number_of task) ≡ true → (f n s : ℕ) → f < (file_of bytes).functions.count → n ≡ sentences_of (file_of bytes) f
    → s ≡ first_sentence (file_of bytes) f → s + n ≤ (file_of bytes).sentences.count → (noted : Sink)
    → noted ≡ collect task.room noted (inside_events law formats task (keep n (sentences_at (file_of bytes) s)))
nothing_inside bytes index slots law formats task indexed readable marked alone f n s inside count first h noted =
    rw (go (eqb (number_of task) 1) refl) (collect_none task.room noted)
  where
    go : (is : Bool) → eqb (number_of task) 1 ≡ is → inside_events law formats task (keep n (sentences_at (file_of bytes) s)) ≡ []
    go true e =
        no_blocks_inside bytes index law formats task indexed readable (eqb-true (number_of task) 1 e) (eqb-true _ _ (rw e at alone)) n s h
    go false e =
        let none : slots.has_call ≡ false = not-true slots.has_call (rw e at alone) in
        rw (count, first)
        (no_calls_inside (file_of bytes) law formats task readable (eqb-false (number_of task) 1 e)
        (λ t l k. let some : slots.has_call ≡ true = marked t l k in cc) f inside)

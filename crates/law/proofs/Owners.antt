-- Every sentence is a function's or a block's, and that block stands in an earlier sentence. So refusal 8 bounds the depth of every sentence.
use Prim.Native.Nat.{ℕ, zero, suc, ◌+◌, ◌*◌, ◌-◌, ◌≤◌, ◌<◌}
use mathlib.Core.List.{List}
use mathlib.Core.Bool.{true}
use mathlib.Core.Path.{◌≡◌}
use native.Mathlib.Omega.{arith}
use native.Mathlib.Nat.{zero-add, add-zero}
use native.Mathlib.Decide.{dec_lt}
use lib.ListN.{length}
use Rattle.file.specs.Word.{word_at}
use Rattle.file.specs.Sections.{File}
use Rattle.file.specs.Fields.{fields_allowed}
use Rattle.file.specs.Head.{term_at}
use Rattle.file.specs.declared.Term.{Term}
use Rattle.file.specs.declared.Term.TheVariants.{Symbol, SVariable, TVariable, EVariable, Bracket, Call, Block}
use Rattle.law.specs.Tree.{Mark, Run, Sentences, keep}
use Rattle.law.specs.Places.{
  sentences_of,
  pattern_size,
  conditions_of,
  result_size,
  condition_result_size,
  condition_pattern_size,
  block_size,
  first_sentence,
  block_first,
  first_condition,
  pattern_at,
  condition_result_at,
  result_at,
  terms_at,
  pattern_part,
  result_part,
  condition_result_part,
  condition_pattern_part,
}
use Rattle.law.specs.Runs.{run_fits, used_up, runs_allowed}
use Rattle.law.specs.Reading.{mark_at, term_run, run_of, tree_of, sentences_at, own}
use Rattle.law.specs.Depth.{deepest, deepest_sentences, depth_of}
use Rattle.law.proofs.PlaceLaws.{
  sentence_start_lem,
  sentence_next,
  block_next,
  block_start,
  condition_next,
  pattern_start,
  asked_first,
  asked_next,
  asked_last,
  pattern_next,
  sentences_used,
  terms_used,
  block_inside,
  pattern_inside,
  result_inside,
  asked_inside,
}
use Rattle.law.proofs.RunLaws.{run_first, by_records}
use Rattle.law.proofs.Terms.{InsideAllowed, block_size_lem, inside_allowed}
use Rattle.law.specs.Code.Terms.{sentences_in}
use Rattle.law.proofs.Allowed.{all_used, pattern_fits, result_fits, condition_result_fits, condition_pattern_fits, block_after}
use Rattle.law.specs.Code.Index.{Readable}
use Rattle.law.proofs.DepthLaws.{sentences_grow, PartsDepth, kept_depth, function_parts_depth, condition_parts_depth}

-- a value between the first and the last of some numbers is between two that follow one another
pub step_around : (f : ℕ → ℕ) (a n x : ℕ) → f a ≤ x → x < f (a + n) → (k : ℕ) × (a ≤ k) × (k < a + n) × (f k ≤ x) × (x < f (suc k))
step_around f a zero x low high = absurd (let same : a + 0 ≡ a = add-zero a in let l : x < f a = rw same at high in omega arith)
step_around f a (suc n) x low high = go (dec_lt x (f (a + n))) (step_around f a n x low)
  where
    go : Dec (x < f (a + n)) → (x < f (a + n) → (k : ℕ) × (a ≤ k) × (k < a + n) × (f k ≤ x) × (x < f (suc k)))
        → (k : ℕ) × (a ≤ k) × (k < a + suc n) × (f k ≤ x) × (x < f (suc k))
    go (yes l) before =
        let (k, from, below, under, over) = before l in
        (k, from, omega arith, under, over)
    go (no l) before =
        let same : a + suc n ≡ suc (a + n) = omega arith in
        (a + n, omega arith, omega arith, omega arith, rw same at high)

module _ (file : File) where
  -- the function that a sentence stands in, if it stands in one
  pub function_of_lem : (s : ℕ) → s < first_sentence file file.functions.count
      → (f : ℕ) × (f < file.functions.count) × (first_sentence file f ≤ s) × (s < first_sentence file f + sentences_of file f)
  function_of_lem s l =
      let (f, from, below, under, over) = step_around (first_sentence file) 0 file.functions.count s (omega (arith, sentence_start_lem file)) (rw zero-add l) in
      (f, omega arith, under, rw (← sentence_next file f) over)

  module _ (used : used_up file ≡ true) where
    -- the block that a sentence stands in, if it stands in no function
    pub block_of : (s : ℕ) → first_sentence file file.functions.count ≤ s → s < file.sentences.count
        → (t : ℕ) × (t < file.terms.count) × (block_first file t ≤ s) × (s < block_first file t + block_size file t)
    block_of s low high =
        let (t, from, below, under, over) =
        step_around (block_first file) 0 file.terms.count s (omega (arith, block_start file)) (rw (zero-add, sentences_used file used) high) in
        (t, omega arith, under, rw (← block_next file t) over)

    -- the sentence that a term stands in
    pub sentence_of_lem : (t : ℕ) → t < file.terms.count
        → (s : ℕ) × (s < file.sentences.count) × (pattern_at file s ≤ t) × (t < pattern_at file (suc s))
    sentence_of_lem t l =
        let (s, from, below, under, over) =
        step_around (pattern_at file) 0 file.sentences.count t (omega (arith, pattern_start file)) (rw (zero-add, terms_used file used) l) in
        (s, omega arith, under, over)

module _ (file : File) (whole : length file.terms.records ≡ 24 * file.terms.count) (fields : fields_allowed file ≡ true)
    (own : ℕ → ℕ → Sentences) where
  -- no sentences of a block among some records are deeper than the run of those records
  abbrev Holds : ℕ → ℕ → Type 0
  Holds at count = (t d : ℕ) → at ≤ t → t < at + count → 0 < block_size file t
      → deepest_sentences (own t (block_size file t)) (suc d) ≤ deepest (run_of file own at (terms_at file at count)) d

  -- the sentences of a block are no deeper than the block
  here : (text : List ℕ) (at d : ℕ) (mark : Mark) (x : Term) (inside after : Run) → 0 < sentences_in x
      → deepest_sentences (own at (sentences_in x)) (suc d) ≤ deepest (term_run text own at mark x inside after) d
  unfolding deepest
  here text at d mark (Symbol x) inside after some = absurd (omega arith)
  here text at d mark (SVariable a b) inside after some = absurd (omega arith)
  here text at d mark (TVariable a b) inside after some = absurd (omega arith)
  here text at d mark (EVariable a b) inside after some = absurd (omega arith)
  here text at d mark Bracket inside after some = absurd (omega arith)
  here text at d mark (Call a b) inside after some = absurd (omega arith)
  here text at d mark (Block n) inside after some = omega arith

  -- the run inside a term is no deeper than the term
  inner : (text : List ℕ) (at d n : ℕ) (mark : Mark) (x : Term) (inside after : Run) → InsideAllowed x n → 0 < n
      → deepest inside (suc d) ≤ deepest (term_run text own at mark x inside after) d
  unfolding deepest
  inner text at d n mark (Symbol x) inside after allowed some = absurd (omega arith)
  inner text at d n mark (SVariable a b) inside after allowed some = absurd (omega arith)
  inner text at d n mark (TVariable a b) inside after allowed some = absurd (omega arith)
  inner text at d n mark (EVariable a b) inside after allowed some = absurd (omega arith)
  inner text at d n mark Bracket inside after allowed some = omega arith
  inner text at d n mark (Call a b) inside after allowed some = omega arith
  inner text at d n mark (Block m) inside after allowed some = omega arith

  -- the run after a term is no deeper than the term with it
  outer : (text : List ℕ) (at d : ℕ) (mark : Mark) (x : Term) (inside after : Run)
      → deepest after d ≤ deepest (term_run text own at mark x inside after) d
  unfolding deepest
  outer text at d mark (Symbol x) inside after = omega arith
  outer text at d mark (SVariable a b) inside after = omega arith
  outer text at d mark (TVariable a b) inside after = omega arith
  outer text at d mark (EVariable a b) inside after = omega arith
  outer text at d mark Bracket inside after = omega arith
  outer text at d mark (Call a b) inside after = omega arith
  outer text at d mark (Block n) inside after = omega arith

  holds_first : (at count n : ℕ) → at + count ≤ file.terms.count → word_at file.terms.records (24 * at + 12) ≡ n → 1 + n ≤ count
      → Holds (at + 1) n → Holds (at + 1 + n) (count - (1 + n)) → Holds at count
  holds_first at count n inside word fit in-holds out-holds t d low high some =
      rw (run_first file whole own at count n inside word fit) (go (dec_lt at t) (dec_lt t (at + 1 + n)))
    where
      x : Term
      x = term_at file.terms.records (24 * at)

      mark : Mark
      mark = mark_at at file.terms.records (24 * at + 16)

      within : Run
      within = run_of file own (at + 1) (terms_at file (at + 1) n)

      after : Run
      after = run_of file own (at + 1 + n) (terms_at file (at + 1 + n) (count - (1 + n)))

      go : Dec (at < t) → Dec (t < at + 1 + n)
          → deepest_sentences (own t (block_size file t)) (suc d) ≤ deepest (term_run file.text.records own at mark x within after) d
      go (no l) e =
          let same : t ≡ at = omega arith in
          let size : block_size file at ≡ sentences_in x = block_size_lem file fields at (omega arith) in
          let blocks : 0 < sentences_in x = rw size at (rw same at some) in
          rw (same, size) (here file.text.records at d mark x within after blocks)
      go (yes l) (yes m) =
          omega (
            arith,
            sentences_grow (own t (block_size file t)) (suc d) (suc (suc d)) (omega arith),
            in-holds t (suc d) (omega arith) (omega arith) some,
            inner file.text.records at d n mark x within after (rw word at (inside_allowed file fields at (omega arith))) (omega arith),
          )
      go (yes l) (no m) = omega (arith, out-holds t d (omega arith) (omega arith) some, outer file.text.records at d mark x within after)

  pub run_holds : (at count : ℕ) → at + count ≤ file.terms.count → run_fits (terms_at file at count) ≡ true → Holds at count
  run_holds = by_records file whole Holds (λ at t d low high some. absurd (omega arith)) holds_first

module _ (file : File) (readable : Readable file) where
  used : used_up file ≡ true
  used = all_used file readable.runs

  -- a run of a sentence that holds a block
  run_block_depth : (d bound t at count : ℕ) → at + count ≤ file.terms.count → run_fits (terms_at file at count) ≡ true
      → at ≤ t → t < at + count → 0 < block_size file t → deepest (run_of file (own file) at (terms_at file at count)) d ≤ bound
      → deepest_sentences (own file t (block_size file t)) (suc d) ≤ bound
  run_block_depth d bound t at count inside fit low high some h =
      omega (arith, run_holds file readable.whole readable.fields (own file) at count inside fit t d low high some)

  -- the sentences of a block are no deeper than the sentence that it stands in
  pub sentence_block_depth : (d bound s t : ℕ) → s < file.sentences.count → pattern_at file s ≤ t → t < pattern_at file (suc s)
      → 0 < block_size file t
      → PartsDepth file s d bound → deepest_sentences (own file t (block_size file t)) (suc d) ≤ bound
  unfolding pattern_part result_part condition_result_part condition_pattern_part
  sentence_block_depth d bound s t inside low high some parts =
      go (dec_lt t (pattern_at file s + pattern_size file s)) (dec_lt t (result_at file s))
    where
      runs : runs_allowed file ≡ true
      runs = readable.runs

      in_condition_lem : (c : ℕ) → first_condition file s ≤ c → c < first_condition file (suc s) → condition_result_at file s c ≤ t
          → t < condition_result_at file s (suc c)
          → Dec (t < condition_result_at file s c + condition_result_size file c) → deepest_sentences (own file t (block_size file t)) (suc d) ≤ bound
      in_condition_lem c from below under over (yes l) =
          run_block_depth d bound t (condition_result_at file s c) (condition_result_size file c) (omega (arith, asked_inside file used s c inside below))
          (condition_result_fits file runs s inside c from below)
          under l some
          (condition_parts_depth file s d bound c from below parts).0
      in_condition_lem c from below under over (no l) =
          run_block_depth d bound t (condition_result_at file s c + condition_result_size file c) (condition_pattern_size file c)
          (omega (arith, asked_inside file used s c inside below))
          (condition_pattern_fits file runs s inside c from below)
          (omega arith) (omega (arith, asked_next file s c)) some
          (condition_parts_depth file s d bound c from below parts).1

      go : Dec (t < pattern_at file s + pattern_size file s) → Dec (t < result_at file s) → deepest_sentences (own file t (block_size file t)) (suc d) ≤ bound
      go (yes l) e =
          run_block_depth d bound t (pattern_at file s) (pattern_size file s) (pattern_inside file used s inside) (pattern_fits file runs s inside)
          low l some
          parts.pattern
      go (no l) (yes m) =
          let ends : condition_result_at file s (first_condition file s + conditions_of file s) ≡ result_at file s =
          rw (← condition_next file s) (asked_last file s) in
          let (c, from, below, under, over) =
          step_around (condition_result_at file s) (first_condition file s) (conditions_of file s) t (omega (arith, asked_first file s)) (omega arith) in
          in_condition_lem c from (omega (arith, condition_next file s)) under over (dec_lt t (condition_result_at file s c + condition_result_size file c))
      go (no l) (no m) =
          run_block_depth d bound t (result_at file s) (result_size file s) (result_inside file used s inside) (result_fits file runs s inside)
          (omega arith) (omega (arith, pattern_next file s)) some
          parts.result

  -- refusal 8 bounds every sentence, by the sentence that its block stands in
  depth_by_fuel : depth_of (tree_of file) ≤ 32 → (k s : ℕ) → s < k → s < file.sentences.count → PartsDepth file s 0 32
  unfolding own
  depth_by_fuel depth zero s l inside = absurd (omega arith)
  depth_by_fuel depth (suc k) s l inside = go (dec_lt s (first_sentence file file.functions.count))
      (λ s₁ m. depth_by_fuel depth k s₁ (omega arith) (omega arith))
    where
      go : Dec (s < first_sentence file file.functions.count) → ((s₁ : ℕ) → s₁ < s → PartsDepth file s₁ 0 32) → PartsDepth file s 0 32
      go (yes m) earlier =
          let (f, below, under, over) = function_of_lem file s m in
          let place : first_sentence file f + (s - first_sentence file f) ≡ s = omega arith in
          rw place at (function_parts_depth file readable depth f (s - first_sentence file f) below (omega arith))
      go (no m) earlier =
          let (t, below, under, over) = block_of file used s (omega arith) inside in
          let (s₁, within, low, high) = sentence_of_lem file used t below in
          let some : 0 < block_size file t = omega arith in
          let before : s₁ < s = omega (arith, block_after file readable.blocks s₁ within t low high some) in
          let owned : deepest_sentences (keep (block_size file t) (sentences_at file (block_first file t))) 0 ≤ 32 =
          omega (
            arith,
            sentence_block_depth 0 32 s₁ t within low high some (earlier s₁ before),
            sentences_grow (own file t (block_size file t)) 0 1 (omega arith),
          ) in
          let place : block_first file t + (s - block_first file t) ≡ s = omega arith in
          rw place at
          (kept_depth file readable 0 32 (block_size file t) (block_first file t) (s - block_first file t) (block_inside file used t below) (omega arith) owned)

  -- inside every sentence, a function's or a block's, at most 32 brackets, calls and blocks are around a term
  pub parts_depth : depth_of (tree_of file) ≤ 32 → (s : ℕ) → s < file.sentences.count → PartsDepth file s 0 32
  parts_depth depth s inside = depth_by_fuel depth (suc s) s (omega arith) inside

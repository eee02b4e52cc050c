-- Depth (specs/Depth.antt): the parts of a law are no deeper than the law, so that refusal 8 bounds each of them.
use Prim.Native.Nat.{ℕ, zero, suc, ◌+◌, ◌-◌, ◌≤◌, ◌<◌}
use mathlib.Core.List.{[], ◌∷◌}
use mathlib.Core.Path.{◌≡◌}
use native.Mathlib.Omega.{arith}
use native.Mathlib.Nat.{add-zero}
use lib.ListN.{length, get_or}
use Rattle.file.specs.Sections.{File}
use Rattle.law.specs.Tree.{
  Name,
  Symbol,
  Kind,
  Mark,
  Run,
  empty,
  symbol,
  variable,
  bracket,
  call,
  block,
  Sentences,
  no_sentence,
  sentence,
  Conditions,
  no_condition,
  condition,
  Function,
  Law,
  keep,
  skip,
}
use Rattle.law.specs.Places.{
  sentences_of,
  conditions_of,
  condition_result_size,
  first_sentence,
  first_condition,
  pattern_at,
  condition_result_at,
  result_at,
  pattern_part,
  result_part,
  condition_result_part,
  condition_pattern_part,
}
use Rattle.law.specs.Reading.{run_of, conditions_from, sentence_at, tree_of, sentences_at, own}
use Rattle.law.specs.Depth.{deepest, deepest_sentences, deepest_conditions, depth_of}
use Rattle.law.proofs.PlaceLaws.{condition_next, function_inside}
use Rattle.law.proofs.Allowed.{all_used}
use Rattle.law.specs.Code.Index.{Readable}
use Rattle.law.proofs.Functions.{skip_keep, skip_at, kept_reads, tree_length, tree_function}

-- a bound of a whole bounds its parts; a run inside a term is one deeper
module _ (d bound : ℕ) where
  pub symbol_depth : (x : Symbol) (after : Run) → deepest (symbol x after) d ≤ bound → (d ≤ bound) × (deepest after d ≤ bound)
  unfolding deepest
  symbol_depth x after h = omega arith

  pub variable_depth : (k : Kind) (i : Name) (after : Run) → deepest (variable k i after) d ≤ bound → (d ≤ bound) × (deepest after d ≤ bound)
  unfolding deepest
  variable_depth k i after h = omega arith

  pub bracket_depth : (inside after : Run) → deepest (bracket inside after) d ≤ bound
      → (d ≤ bound) × (deepest inside (suc d) ≤ bound) × (deepest after d ≤ bound)
  unfolding deepest
  bracket_depth inside after h = omega arith

  pub call_depth : (m : Mark) (f : Name) (inside after : Run) → deepest (call m f inside after) d ≤ bound
      → (d ≤ bound) × (deepest inside (suc d) ≤ bound) × (deepest after d ≤ bound)
  unfolding deepest
  call_depth m f inside after h = omega arith

  pub block_depth : (m : Mark) (inside : Run) (ss : Sentences) (after : Run) → deepest (block m inside ss after) d ≤ bound
      → (d ≤ bound) × (deepest inside (suc d) ≤ bound) × (deepest_sentences ss (suc d) ≤ bound) × (deepest after d ≤ bound)
  unfolding deepest
  block_depth m inside ss after h = omega arith

  pub sentence_depth : (m : Mark) (p : Run) (cs : Conditions) (r : Run) (ss : Sentences) → deepest_sentences (sentence m p cs r ss) d ≤ bound
      → (deepest p d ≤ bound) × (deepest_conditions cs d ≤ bound) × (deepest r d ≤ bound) × (deepest_sentences ss d ≤ bound)
  unfolding deepest
  sentence_depth m p cs r ss h = omega arith

  pub condition_depth : (r p : Run) (cs : Conditions) → deepest_conditions (condition r p cs) d ≤ bound
      → (deepest r d ≤ bound) × (deepest p d ≤ bound) × (deepest_conditions cs d ≤ bound)
  unfolding deepest
  condition_depth r p cs h = omega arith

-- with more around it, a run is as deep or deeper
mutual
  unfolding deepest

  pub run_grows : (run : Run) (d e : ℕ) → d ≤ e → deepest run d ≤ deepest run e
  run_grows empty d e h = omega arith
  run_grows (symbol x after) d e h = omega (arith, run_grows after d e h)
  run_grows (variable k i after) d e h = omega (arith, run_grows after d e h)
  run_grows (bracket inside after) d e h = omega (arith, run_grows after d e h, run_grows inside (suc d) (suc e) (omega arith))
  run_grows (call m f inside after) d e h = omega (arith, run_grows after d e h, run_grows inside (suc d) (suc e) (omega arith))
  run_grows (block m inside ss after) d e h =
      omega (arith, run_grows after d e h, run_grows inside (suc d) (suc e) (omega arith), sentences_grow ss (suc d) (suc e) (omega arith))

  pub sentences_grow : (ss : Sentences) (d e : ℕ) → d ≤ e → deepest_sentences ss d ≤ deepest_sentences ss e
  sentences_grow no_sentence d e h = omega arith
  sentences_grow (sentence m p cs r ss) d e h = omega (arith, run_grows p d e h, conditions_grow cs d e h, run_grows r d e h, sentences_grow ss d e h)

  pub conditions_grow : (cs : Conditions) (d e : ℕ) → d ≤ e → deepest_conditions cs d ≤ deepest_conditions cs e
  conditions_grow no_condition d e h = omega arith
  conditions_grow (condition r p cs) d e h = omega (arith, run_grows r d e h, run_grows p d e h, conditions_grow cs d e h)

-- the sentences after some are no deeper than all
pub skip_depth : (n : ℕ) (ss : Sentences) (d : ℕ) → deepest_sentences (skip n ss) d ≤ deepest_sentences ss d
unfolding skip deepest
skip_depth zero ss d = omega arith
skip_depth (suc n) no_sentence d = omega arith
skip_depth (suc n) (sentence m p cs r ss) d = omega (arith, skip_depth n ss d)

-- a function is no deeper than its law
pub law_depth : (law : Law) (none : Function) (i : ℕ) → i < length law → deepest_sentences (get_or law i none).sentences 0 ≤ depth_of law
unfolding depth_of
law_depth [] none i h = absurd (omega arith)
law_depth (f ∷ law) none zero h = omega arith
law_depth (f ∷ law) none (suc i) h = omega (arith, law_depth law none i (omega arith))

-- no function
nobody : Function
nobody = record { name = record { start = 0; spelled = [] }; sentences = no_sentence }

-- a function of a file that refusal 8 lets pass
pub function_depth : (file : File) → depth_of (tree_of file) ≤ 32 → (f : ℕ) → f < file.functions.count
    → deepest_sentences (keep (sentences_of file f) (sentences_at file (first_sentence file f))) 0 ≤ 32
function_depth file depth f inside =
    let within : deepest_sentences (get_or (tree_of file) f nobody).sentences 0 ≤ depth_of (tree_of file) =
    law_depth (tree_of file) nobody f (omega (arith, tree_length file)) in
    let named : deepest_sentences (keep (sentences_of file f) (sentences_at file (first_sentence file f))) 0 ≤ depth_of (tree_of file) =
    rw (tree_function file nobody f inside) at within in
    omega arith

-- a bound of the parts of a sentence that has d brackets, calls and blocks around it
pub record PartsDepth (file : File) (s d bound : ℕ) : Type 0 where
  pub pattern : deepest (run_of file (own file) (pattern_at file s) (pattern_part file s)) d ≤ bound
  pub conditions : deepest_conditions (conditions_from file (own file) s (conditions_of file s) (first_condition file s)) d ≤ bound
  pub result : deepest (run_of file (own file) (result_at file s) (result_part file s)) d ≤ bound

module _ (file : File) (readable : Readable file) where
  -- the parts of one of n sentences from s on
  pub kept_depth : (d bound n s i : ℕ) → s + n ≤ file.sentences.count → i < n → deepest_sentences (keep n (sentences_at file s)) d ≤ bound
      → PartsDepth file (s + i) d bound
  kept_depth d bound n s i inside l h =
      let left : n - i ≡ suc (n - suc i) = omega arith in
      let after : skip i (keep n (sentences_at file s)) ≡ sentence_at file (own file) (s + i) (keep (n - suc i) (sentences_at file (suc (s + i)))) =
      rw (skip_keep i n (sentences_at file s), skip_at file i s, left) (kept_reads file readable (n - suc i) (s + i) (omega arith)) in
      let within : deepest_sentences (skip i (keep n (sentences_at file s))) d ≤ bound = omega (arith, skip_depth i (keep n (sentences_at file s)) d) in
      let (p, cs, r, ss) = sentence_depth d bound _ _ _ _ _ (rw after at within) in
      record { pattern = p; conditions = cs; result = r }

  -- the parts of a function's sentence
  pub function_parts_depth : depth_of (tree_of file) ≤ 32 → (f i : ℕ) → f < file.functions.count → i < sentences_of file f
      → PartsDepth file (first_sentence file f + i) 0 32
  function_parts_depth depth f i inside l =
      kept_depth 0 32 (sentences_of file f) (first_sentence file f) i
      (function_inside file (all_used file readable.runs) f inside)
      l
      (function_depth file depth f inside)

-- the result and the pattern of one of so many conditions from c on
pub conditions_parts_depth : (file : File) (own : ℕ → ℕ → Sentences) (s d bound left c i : ℕ) → i < left
    → deepest_conditions (conditions_from file own s left c) d ≤ bound
    → (deepest (run_of file own (condition_result_at file s (c + i)) (condition_result_part file s (c + i))) d ≤ bound)
    × (deepest (run_of file own (condition_result_at file s (c + i) + condition_result_size file (c + i)) (condition_pattern_part file s (c + i))) d ≤ bound)
unfolding conditions_from
conditions_parts_depth file own s d bound zero c i l h = absurd (omega arith)
conditions_parts_depth file own s d bound (suc left) c zero l h =
    let (asked, wanted, more) = condition_depth d bound _ _ _ h in
    rw add-zero (asked, wanted)
conditions_parts_depth file own s d bound (suc left) c (suc i) l h =
    let (asked, wanted, more) = condition_depth d bound _ _ _ h in
    let place : c + suc i ≡ suc c + i = omega arith in
    rw place (conditions_parts_depth file own s d bound left (suc c) i (omega arith) more)

-- of a condition c of a sentence s
pub condition_parts_depth : (file : File) (s d bound c : ℕ) → first_condition file s ≤ c → c < first_condition file (suc s) → PartsDepth file s d bound
    → (deepest (run_of file (own file) (condition_result_at file s c) (condition_result_part file s c)) d ≤ bound)
    × (deepest (run_of file (own file) (condition_result_at file s c + condition_result_size file c) (condition_pattern_part file s c)) d ≤ bound)
condition_parts_depth file s d bound c low high parts =
    let place : first_condition file s + (c - first_condition file s) ≡ c = omega arith in
    rw place at
    (conditions_parts_depth file (own file) s d bound (conditions_of file s) (first_condition file s) (c - first_condition file s)
    (omega (arith, condition_next file s))
    parts.conditions)

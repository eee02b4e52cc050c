-- Places in a file (specs/Places.antt) follow one another, and where the sections are used up exactly they lie inside their sections.
use Prim.Native.Nat.{ℕ, suc, ◌+◌, ◌≤◌, ◌<◌}
use mathlib.Core.Bool.{true}
use mathlib.Core.Path.{◌≡◌, refl}
use native.Mathlib.Omega.{arith}
use lib.Dec.{eqb}
use borrow.Author.Tests.{eqb-true}
use Rattle.file.specs.Below.{total}
use Rattle.file.specs.Sections.{File}
use Rattle.file.proofs.Below.{total_mono}
use Rattle.law.specs.Places.{
  sentences_of,
  pattern_size,
  conditions_of,
  result_size,
  condition_result_size,
  condition_pattern_size,
  block_size,
  first_sentence,
  block_first,
  first_condition,
  pattern_at,
  condition_result_at,
  result_at,
}
use Rattle.law.specs.Runs.{used_up}
use Rattle.law.proofs.Tests.{three_hold}

module _ (file : File) where
  -- the sentences of a function stand after those of the functions before it
  pub sentence_start_lem : first_sentence file 0 ≡ 0
  unfolding first_sentence total
  sentence_start_lem = refl

  pub sentence_next : (f : ℕ) → first_sentence file (suc f) ≡ first_sentence file f + sentences_of file f
  unfolding first_sentence total
  sentence_next f = refl

  -- the sentences of a block stand after those of the blocks before it, and those of the blocks after all functions'
  pub block_next : (t : ℕ) → block_first file (suc t) ≡ block_first file t + block_size file t
  unfolding block_first total
  block_next t = omega arith

  pub block_start : block_first file 0 ≡ first_sentence file file.functions.count
  unfolding block_first total
  block_start = omega arith

  -- the conditions of a sentence stand after those of the sentences before it
  pub condition_start : first_condition file 0 ≡ 0
  unfolding first_condition total
  condition_start = refl

  pub condition_next : (s : ℕ) → first_condition file (suc s) ≡ first_condition file s + conditions_of file s
  unfolding first_condition total
  condition_next s = refl

  -- the terms of a sentence stand after those of the sentences before it: pattern, each condition's result and pattern, result
  pub pattern_start : pattern_at file 0 ≡ 0
  unfolding pattern_at first_condition total
  pattern_start = refl

  pub asked_first : (s : ℕ) → condition_result_at file s (first_condition file s) ≡ pattern_at file s + pattern_size file s
  unfolding pattern_at condition_result_at
  asked_first s = omega arith

  pub asked_next : (s c : ℕ) → condition_result_at file s (suc c) ≡ condition_result_at file s c + condition_result_size file c + condition_pattern_size file c
  unfolding condition_result_at total
  asked_next s c = omega arith

  pub asked_last : (s : ℕ) → condition_result_at file s (first_condition file (suc s)) ≡ result_at file s
  unfolding condition_result_at result_at
  asked_last s = refl

  pub pattern_next : (s : ℕ) → pattern_at file (suc s) ≡ result_at file s + result_size file s
  unfolding pattern_at result_at total
  pattern_next s = omega arith

  -- places grow
  pub sentence_grows : (f g : ℕ) → f ≤ g → first_sentence file f ≤ first_sentence file g
  unfolding first_sentence
  sentence_grows f g h = total_mono f g (sentences_of file) h

  pub block_grows : (t u : ℕ) → t ≤ u → block_first file t ≤ block_first file u
  unfolding block_first
  block_grows t u h = omega (arith, total_mono t u (block_size file) h)

  pub condition_grows : (s t : ℕ) → s ≤ t → first_condition file s ≤ first_condition file t
  unfolding first_condition
  condition_grows s t h = total_mono s t (conditions_of file) h

  pub asked_grows : (s c d : ℕ) → c ≤ d → condition_result_at file s c ≤ condition_result_at file s d
  unfolding condition_result_at
  asked_grows s c d h = omega (arith, total_mono c d (λ i. condition_result_size file i + condition_pattern_size file i) h)

  pub pattern_grows : (s t : ℕ) → s ≤ t → pattern_at file s ≤ pattern_at file t
  unfolding pattern_at
  pattern_grows s t h =
      omega (
        arith,
        total_mono s t (λ i. pattern_size file i + result_size file i) h,
        total_mono (first_condition file s) (first_condition file t) (λ i. condition_result_size file i + condition_pattern_size file i) (condition_grows s t h),
      )

  -- the parts of a sentence end where the next sentence begins, or before
  pub pattern_within : (s : ℕ) → pattern_at file s + pattern_size file s ≤ pattern_at file (suc s)
  pattern_within s =
      omega (
        arith,
        asked_first s,
        asked_last s,
        pattern_next s,
        asked_grows s (first_condition file s) (first_condition file (suc s)) (condition_grows s (suc s) (omega arith)),
      )

  pub result_within : (s : ℕ) → pattern_at file s ≤ result_at file s
  result_within s =
      omega (
        arith,
        asked_first s,
        asked_last s,
        asked_grows s (first_condition file s) (first_condition file (suc s)) (condition_grows s (suc s) (omega arith)),
      )

  -- of a condition of the sentence
  pub asked_after : (s c : ℕ) → first_condition file s ≤ c → pattern_at file s ≤ condition_result_at file s c
  asked_after s c h = omega (arith, asked_first s, asked_grows s (first_condition file s) c h)

  pub asked_within : (s c : ℕ) → c < first_condition file (suc s)
      → condition_result_at file s c + condition_result_size file c + condition_pattern_size file c ≤ pattern_at file (suc s)
  asked_within s c h = omega (arith, asked_next s c, asked_last s, pattern_next s, asked_grows s (suc c) (first_condition file (suc s)) h)

  module _ (used : used_up file ≡ true) where
    -- sections 3, 4 and 5 are used up exactly
    all_used :
        (block_first file file.terms.count ≡ file.sentences.count)
        × (first_condition file file.sentences.count ≡ file.conditions.count)
        × (pattern_at file file.sentences.count ≡ file.terms.count)
    unfolding used_up
    all_used =
        let (sentences, conditions, terms) =
        three_hold
        (eqb (block_first file file.terms.count) file.sentences.count)
        (eqb (first_condition file file.sentences.count) file.conditions.count)
        (eqb (pattern_at file file.sentences.count) file.terms.count)
        used in
        (eqb-true _ _ sentences, eqb-true _ _ conditions, eqb-true _ _ terms)

    pub sentences_used : block_first file file.terms.count ≡ file.sentences.count
    sentences_used = all_used.0

    pub conditions_used : first_condition file file.sentences.count ≡ file.conditions.count
    conditions_used = all_used.1

    pub terms_used : pattern_at file file.sentences.count ≡ file.terms.count
    terms_used = all_used.2

    -- the sentences of a function, and of a block, are records of section 3
    pub function_inside : (f : ℕ) → f < file.functions.count → first_sentence file f + sentences_of file f ≤ file.sentences.count
    function_inside f h =
        omega (
          arith,
          sentences_used,
          block_start,
          sentence_next f,
          sentence_grows (suc f) file.functions.count h,
          block_grows 0 file.terms.count (omega arith),
        )

    pub block_inside : (t : ℕ) → t < file.terms.count → block_first file t + block_size file t ≤ file.sentences.count
    block_inside t h = omega (arith, sentences_used, block_next t, block_grows (suc t) file.terms.count h)

    -- where the functions have all sentences, no block has any
    pub blocks_empty : first_sentence file file.functions.count ≡ file.sentences.count → (t : ℕ) → t < file.terms.count
        → block_size file t ≡ 0
    blocks_empty all t h = omega (arith, block_inside t h, block_start, block_grows 0 t (omega arith))

    -- the conditions of a sentence are records of section 4
    pub conditions_inside : (s : ℕ) → s < file.sentences.count → first_condition file s + conditions_of file s ≤ file.conditions.count
    conditions_inside s h = omega (arith, conditions_used, condition_next s, condition_grows (suc s) file.sentences.count h)

    -- the terms of a sentence are records of section 5
    pub terms_inside : (s : ℕ) → s < file.sentences.count → pattern_at file (suc s) ≤ file.terms.count
    terms_inside s h = omega (arith, terms_used, pattern_grows (suc s) file.sentences.count h)

    pub pattern_inside : (s : ℕ) → s < file.sentences.count → pattern_at file s + pattern_size file s ≤ file.terms.count
    pattern_inside s h = omega (arith, terms_inside s h, pattern_within s)

    pub result_inside : (s : ℕ) → s < file.sentences.count → result_at file s + result_size file s ≤ file.terms.count
    result_inside s h = omega (arith, terms_inside s h, pattern_next s)

    pub asked_inside : (s c : ℕ) → s < file.sentences.count → c < first_condition file (suc s)
        → condition_result_at file s c + condition_result_size file c + condition_pattern_size file c ≤ file.terms.count
    asked_inside s c h k = omega (arith, terms_inside s h, asked_within s c k)

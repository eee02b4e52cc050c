-- The sentences of a file that refusals 5 to 7 let pass, read in record order: every block has its own sentences, wherever it stands.
use Prim.Native.Nat.{ℕ, zero, suc, ◌+◌, ◌*◌, ◌-◌, ◌≤◌, ◌<◌}
use mathlib.Core.List.{List}
use mathlib.Core.Bool.{true}
use mathlib.Core.Path.{◌≡◌, refl}
use native.Mathlib.Omega.{arith}
use native.Mathlib.Nat.{sub-zero, zero-sub, add-zero, suc-sub-suc}
use lib.ListN.{length}
use Rattle.file.specs.Word.{word_at}
use Rattle.file.specs.Sections.{File}
use Rattle.file.specs.Fields.{fields_allowed}
use Rattle.file.specs.Head.{term_at}
use Rattle.file.specs.declared.Term.{Term}
use Rattle.file.specs.declared.Term.TheVariants.{Symbol, SVariable, TVariable, EVariable, Bracket, Call, Block}
use Rattle.law.specs.Tree.{Mark, Run, Sentences, no_sentence, keep, skip}
use Rattle.law.specs.Places.{
  pattern_size,
  conditions_of,
  result_size,
  condition_result_size,
  condition_pattern_size,
  block_size,
  block_first,
  first_condition,
  pattern_at,
  condition_result_at,
  result_at,
  terms_at,
  pattern_part,
  result_part,
  condition_result_part,
  condition_pattern_part,
}
use Rattle.law.specs.Runs.{run_fits}
use Rattle.law.specs.Reading.{term_run, run_of, conditions_from, own_in, sentence_at, sentences_from, sentences_at, own}
use Rattle.law.proofs.PlaceLaws.{condition_next, pattern_next, pattern_within, result_within, asked_after, asked_within, terms_inside}
use Rattle.law.proofs.RunLaws.{run_none, run_first, by_records}
use Rattle.law.proofs.Terms.{block_size_lem}
use Rattle.law.specs.Code.Terms.{sentences_in}
use Rattle.law.proofs.Allowed.{all_used, pattern_fits, result_fits, condition_result_fits, condition_pattern_fits, block_after}
use Rattle.law.specs.Code.Index.{Readable}

-- sentences after some of them
pub skip_from : (file : File) (d left s : ℕ) → skip d (sentences_from file left s) ≡ sentences_from file (left - d) (s + d)
unfolding skip sentences_from
skip_from file zero left s = rw (sub-zero, add-zero)
skip_from file (suc d) zero s = rw zero-sub
skip_from file (suc d) (suc left) s =
    let start : s + suc d ≡ suc s + d = omega arith in
    rw (suc-sub-suc left d, start) (skip_from file d left (suc s))

-- no sentence is left
pub sentences_end : (file : File) (s : ℕ) → file.sentences.count ≤ s → sentences_at file s ≡ no_sentence
unfolding sentences_at sentences_from
sentences_end file s h =
    let none : file.sentences.count - s ≡ 0 = omega arith in
    rw none

-- two ways to give blocks their sentences that agree at a term
term_same : (text : List ℕ) (own₁ own₂ : ℕ → ℕ → Sentences) (at : ℕ) (mark : Mark) (x : Term) (inside after : Run)
    → own₁ at (sentences_in x) ≡ own₂ at (sentences_in x) → term_run text own₁ at mark x inside after ≡ term_run text own₂ at mark x inside after
term_same text own₁ own₂ at mark (Symbol x) inside after h = refl
term_same text own₁ own₂ at mark (SVariable a b) inside after h = refl
term_same text own₁ own₂ at mark (TVariable a b) inside after h = refl
term_same text own₁ own₂ at mark (EVariable a b) inside after h = refl
term_same text own₁ own₂ at mark Bracket inside after h = refl
term_same text own₁ own₂ at mark (Call a b) inside after h = refl
term_same text own₁ own₂ at mark (Block n) inside after h = rw h

module _ (file : File) (whole : length file.terms.records ≡ 24 * file.terms.count) (fields : fields_allowed file ≡ true)
    (own₁ own₂ : ℕ → ℕ → Sentences) where
  -- they agree at the blocks of some records
  abbrev pub Agree : ℕ → ℕ → Type 0
  Agree at count = (t : ℕ) → at ≤ t → t < at + count → own₁ t (block_size file t) ≡ own₂ t (block_size file t)

  abbrev Same : ℕ → ℕ → Type 0
  Same at count = Agree at count → run_of file own₁ at (terms_at file at count) ≡ run_of file own₂ at (terms_at file at count)

  same_first_lem : (at count n : ℕ) → at + count ≤ file.terms.count → word_at file.terms.records (24 * at + 12) ≡ n → 1 + n ≤ count
      → Same (at + 1) n → Same (at + 1 + n) (count - (1 + n)) → Same at count
  same_first_lem at count n inside word fit inner outer agree =
      let here : own₁ at (sentences_in (term_at file.terms.records (24 * at))) ≡ own₂ at (sentences_in (term_at file.terms.records (24 * at))) =
      rw (block_size_lem file fields at (omega arith)) at (agree at (omega arith) (omega arith)) in
      rw (
        run_first file whole own₁ at count n inside word fit,
        run_first file whole own₂ at count n inside word fit,
        inner (λ t l m. agree t (omega arith) (omega arith)),
        outer (λ t l m. agree t (omega arith) (omega arith)),
      )
      (term_same file.text.records own₁ own₂ at _ (term_at file.terms.records (24 * at)) _ _ here)

  -- a run that fits is read alike by two ways to give blocks their sentences that agree at its blocks
  pub run_same : (at count : ℕ) → at + count ≤ file.terms.count → run_fits (terms_at file at count) ≡ true
      → Agree at count → run_of file own₁ at (terms_at file at count) ≡ run_of file own₂ at (terms_at file at count)
  run_same = by_records file whole Same (λ at agree. rw (run_none file whole own₁ at, run_none file whole own₂ at)) same_first_lem

-- the first n of two lists of sentences, which are the same unless n is 0
keep_same : (n : ℕ) (x y : Sentences) → (0 < n → x ≡ y) → keep n x ≡ keep n y
unfolding keep
keep_same zero x y h = refl
keep_same (suc n) x y h = rw (h (omega arith))

module _ (file : File) (readable : Readable file) (s : ℕ) (inside : s < file.sentences.count) where
  -- the sentences after s, of which blocks in s pick their own
  abbrev picked : ℕ → ℕ → Sentences
  picked = own_in file s (sentences_at file (suc s))

  -- a block that stands in s picks its own
  pub picked_own : (t : ℕ) → pattern_at file s ≤ t → t < pattern_at file (suc s) → picked t (block_size file t) ≡ own file t (block_size file t)
  unfolding own sentences_at
  picked_own t low high =
      keep_same (block_size file t) (skip (block_first file t - suc s) (sentences_at file (suc s))) (sentences_at file (block_first file t))
      λ some.
      let after : s < block_first file t = block_after file readable.blocks s inside t low high some in
      let place : suc s + (block_first file t - suc s) ≡ block_first file t = omega arith in
      let left : file.sentences.count - suc s - (block_first file t - suc s) ≡ file.sentences.count - block_first file t = omega arith in
      rw (skip_from file (block_first file t - suc s) (file.sentences.count - suc s) (suc s), place, left)

  -- a run of s
  run_reads : (at count : ℕ) → pattern_at file s ≤ at → at + count ≤ pattern_at file (suc s) → run_fits (terms_at file at count) ≡ true
      → run_of file picked at (terms_at file at count) ≡ run_of file (own file) at (terms_at file at count)
  run_reads at count low high fit =
      run_same file readable.whole readable.fields picked (own file) at count
      (omega (arith, terms_inside file (all_used file readable.runs) s inside)) fit
      (λ t l m. picked_own t (omega arith) (omega arith))

  -- the conditions of s
  conditions_read : (left c : ℕ) → first_condition file s ≤ c → c + left ≤ first_condition file (suc s)
      → conditions_from file picked s left c ≡ conditions_from file (own file) s left c
  unfolding conditions_from condition_result_part condition_pattern_part
  conditions_read zero c low high = refl
  conditions_read (suc left) c low high =
      rw (
        run_reads (condition_result_at file s c) (condition_result_size file c) (asked_after file s c low) (omega (arith, asked_within file s c (omega arith)))
            (condition_result_fits file readable.runs s inside c low (omega arith)),
        run_reads (condition_result_at file s c + condition_result_size file c) (condition_pattern_size file c)
            (omega (arith, asked_after file s c low)) (asked_within file s c (omega arith))
            (condition_pattern_fits file readable.runs s inside c low (omega arith)),
        conditions_read left (suc c) (omega arith) (omega arith),
      )

  -- the sentence s, with the own sentences of each of its blocks, before the sentences after it
  pub sentence_reads : sentences_at file s ≡ sentence_at file (own file) s (sentences_at file (suc s))
  unfolding sentences_at sentences_from pattern_part result_part
  sentence_reads =
      let left : file.sentences.count - s ≡ suc (file.sentences.count - suc s) = omega arith in
      rw (
        left,
        run_reads (pattern_at file s) (pattern_size file s) (omega arith) (pattern_within file s) (pattern_fits file readable.runs s inside),
        conditions_read (conditions_of file s) (first_condition file s) (omega arith) (omega (arith, condition_next file s)),
        run_reads (result_at file s) (result_size file s) (result_within file s) (omega (arith, pattern_next file s))
            (result_fits file readable.runs s inside),
      )

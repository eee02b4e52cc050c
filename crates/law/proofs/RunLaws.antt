-- A run of term records (specs/Runs.antt and Reading.antt), record by record.
use Prim.Native.Nat.{ℕ, zero, suc, ◌+◌, ◌*◌, ◌-◌, ◌≤◌, ◌<◌}
use mathlib.Core.List.{List}
use mathlib.Core.Bool.{true, ◌&&◌}
use mathlib.Core.Path.{◌≡◌, refl}
use native.Mathlib.Omega.{arith}
use native.Mathlib.Nat.{le_refl, add_assoc}
use lib.ListN.{length}
use lib.Dec.{leb}
use borrow.Author.Tests.{leb-true}
use Rattle.file.specs.Word.{word_at}
use Rattle.file.specs.Sections.{File}
use Rattle.file.specs.Forest.{end, node, contents, rest}
use Rattle.file.specs.Head.{term_at}
use Rattle.file.proofs.Forest.{forest_end, forest_node}
use Rattle.law.specs.Tree.{empty, Sentences}
use Rattle.law.specs.Places.{terms_at}
use Rattle.law.specs.Runs.{end_of, term_forest, fits, run_fits}
use Rattle.law.specs.Reading.{mark_at, term_run, forest_run, run_of}
use Rattle.law.proofs.Tests.{three_hold}
use Rattle.law.proofs.Parts.{terms_length, terms_word, terms_contents, terms_rest}

-- the contents of a run's first record end after the record and inside the run
pub end_low : (s : List ℕ) → 24 ≤ length s → 24 ≤ end_of s
unfolding end_of
end_low s h = omega arith

pub end_high : (s : List ℕ) → end_of s ≤ length s
unfolding end_of
end_high s = omega arith

-- too few bytes for a record are no forest
pub terms_none : (s : List ℕ) → length s < 24 → term_forest s ≡ end
terms_none s h = forest_end 24 end_of (omega arith) end_low end_high s h

-- a run's first record, with the forests of its contents and of the rest
pub terms_node : (s : List ℕ) → 24 ≤ length s → term_forest s ≡ node s (term_forest (contents 24 end_of s)) (term_forest (rest 24 end_of s))
terms_node s h = forest_node 24 end_of (omega arith) end_low end_high s h

-- a run fits exactly when its first record does, and its contents and the rest do
pub fits_none : (s : List ℕ) → length s < 24 → run_fits s ≡ true
unfolding fits
fits_none s h = rw (terms_none s h)

pub fits_node : (s : List ℕ) → 24 ≤ length s
    → run_fits s ≡ leb (24 + 24 * word_at s 12) (length s) && run_fits (contents 24 end_of s) && run_fits (rest 24 end_of s)
unfolding fits
fits_node s h = rw (terms_node s h)

module _ (file : File) (own : ℕ → ℕ → Sentences) where
  -- too few bytes for a record are the empty run
  pub run_empty : (at : ℕ) (p : List ℕ) → length p < 24 → run_of file own at p ≡ empty
  unfolding forest_run
  run_empty at p h = rw (terms_none p h)

  -- a run's first record, with the runs of its contents and of the rest
  pub run_node : (at : ℕ) (p : List ℕ) → 24 ≤ length p
      → run_of file own at p
      ≡ term_run file.text.records own at (mark_at at p 16) (term_at p 0)
      (run_of file own (at + 1) (contents 24 end_of p))
      (run_of file own (at + 1 + word_at p 12) (rest 24 end_of p))
  unfolding forest_run
  run_node at p h = rw (terms_node p h)

module _ (file : File) (whole : length file.terms.records ≡ 24 * file.terms.count) where
  -- no records are the empty run
  pub run_none : (own : ℕ → ℕ → Sentences) (at : ℕ) → run_of file own at (terms_at file at 0) ≡ empty
  run_none own at = run_empty file own at (terms_at file at 0) (omega arith)

  -- so many records from one on: the first, the n inside it, and those after them
  pub run_first : (own : ℕ → ℕ → Sentences) (at count n : ℕ) → at + count ≤ file.terms.count
      → word_at file.terms.records (24 * at + 12) ≡ n → 1 + n ≤ count
      → run_of file own at (terms_at file at count)
      ≡ term_run file.text.records own at (mark_at at file.terms.records (24 * at + 16)) (term_at file.terms.records (24 * at))
      (run_of file own (at + 1) (terms_at file (at + 1) n))
      (run_of file own (at + 1 + n) (terms_at file (at + 1 + n) (count - (1 + n))))
  unfolding term_at
  run_first own at count n inside word fit =
      let start : 24 * at + 0 ≡ 24 * at = omega arith in
      let first : word_at (terms_at file at count) 12 ≡ n = rw (terms_word file whole at count inside 12 (omega arith)) word in
      rw (
        run_node file own at (terms_at file at count) (omega (arith, terms_length file whole at count inside)),
        terms_contents file whole at count inside n first fit,
        terms_rest file whole at count inside n first fit,
        first,
        terms_word file whole at count inside 0 (omega arith),
        terms_word file whole at count inside 4 (omega arith),
        terms_word file whole at count inside 8 (omega arith),
        terms_word file whole at count inside 16 (omega arith),
        terms_word file whole at count inside 20 (omega arith),
        start,
        ← add_assoc (24 * at) 16 4,
      )

  -- a run that fits: its first record's n stays inside the run, and the n records inside it and those after them fit
  pub fits_first_lem : (at count n : ℕ) → at + count ≤ file.terms.count → 0 < count → run_fits (terms_at file at count) ≡ true
      → word_at file.terms.records (24 * at + 12) ≡ n
      → (1 + n ≤ count) × (run_fits (terms_at file (at + 1) n) ≡ true) × (run_fits (terms_at file (at + 1 + n) (count - (1 + n))) ≡ true)
  fits_first_lem at count n inside some fit word =
      let part : List ℕ = terms_at file at count in
      let size : length part ≡ 24 * count = terms_length file whole at count inside in
      let first : word_at part 12 ≡ n = rw (terms_word file whole at count inside 12 (omega arith)) word in
      let (head, inner, outer) =
      three_hold (leb (24 + 24 * word_at part 12) (length part)) (run_fits (contents 24 end_of part)) (run_fits (rest 24 end_of part))
      (rw (fits_node part (omega arith)) at fit) in
      let passes : 1 + n ≤ count = omega (arith, leb-true (24 + 24 * word_at part 12) (length part) head) in (
        passes,
        rw (terms_contents file whole at count inside n first passes) at inner,
        rw (terms_rest file whole at count inside n first passes) at outer,
      )

  -- what holds of no records, and of a record with those inside it and those after it, holds of every run that fits
  module _ (P : ℕ → ℕ → Type 0) (none : (at : ℕ) → P at 0)
      (one : (at count n : ℕ) → at + count ≤ file.terms.count → word_at file.terms.records (24 * at + 12) ≡ n → 1 + n ≤ count
      → P (at + 1) n → P (at + 1 + n) (count - (1 + n)) → P at count) where
    by_fuel : (k at count : ℕ) → count ≤ k → at + count ≤ file.terms.count → run_fits (terms_at file at count) ≡ true → P at count
    by_fuel zero at count h inside fit =
        let z : count ≡ 0 = omega arith in
        rw z (none at)
    by_fuel (suc k) at zero h inside fit = none at
    by_fuel (suc k) at (suc count) h inside fit =
        let n : ℕ = word_at file.terms.records (24 * at + 12) in
        let (passes, inner, outer) = fits_first_lem at (suc count) n inside (omega arith) fit refl in
        one at (suc count) n inside refl passes
        (by_fuel k (at + 1) n (omega arith) (omega arith) inner)
        (by_fuel k (at + 1 + n) (suc count - (1 + n)) (omega arith) (omega arith) outer)

    pub by_records : (at count : ℕ) → at + count ≤ file.terms.count → run_fits (terms_at file at count) ≡ true → P at count
    by_records at count inside fit = by_fuel count at count (le_refl count) inside fit

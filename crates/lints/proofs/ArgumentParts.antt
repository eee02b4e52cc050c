-- The records inside a term record of a file are a run: the argument of a call (`PartAt`).
use Prim.Native.Nat.{ℕ, suc, ◌+◌, ◌*◌, ◌-◌, ◌≤◌, ◌<◌}
use mathlib.Core.Bool.{true}
use mathlib.Core.List.{List}
use mathlib.Core.Path.{◌≡◌, refl}
use native.Mathlib.Omega.{arith}
use native.Mathlib.Decide.{dec_lt}
use Rattle.file.specs.Word.{word_at}
use Rattle.file.specs.Sections.{File}
use Rattle.law.specs.Places.{pattern_size, conditions_of, result_size, condition_result_size, condition_pattern_size, first_condition, pattern_at}
use Rattle.law.specs.Places.{condition_result_at, result_at, terms_at, pattern_part, result_part, condition_result_part, condition_pattern_part}
use Rattle.law.specs.Runs.{run_fits, used_up}
use Rattle.law.specs.Code.Index.{Readable, PartAt}
use Rattle.law.proofs.PlaceLaws.{condition_next, asked_first, asked_next, asked_last, pattern_next, pattern_inside, result_inside, asked_inside}
use Rattle.law.proofs.RunLaws.{fits_first_lem, by_records}
use Rattle.law.proofs.Allowed.{all_used, pattern_fits, result_fits, condition_result_fits, condition_pattern_fits}
use Rattle.law.proofs.Owners.{step_around, sentence_of_lem}
use Rattle.sentences.specs.Entry.{argument_part}
use Rattle.sentences.proofs.Arguments.{record_inside}

module _ (file : File) (readable : Readable file) where
  -- the records inside a record fit
  abbrev InsideFits : ℕ → Type 0
  InsideFits t = run_fits (terms_at file (t + 1) (word_at file.terms.records (24 * t + 12))) ≡ true

  -- in some records that fit, those inside each of them do
  abbrev Holds : ℕ → ℕ → Type 0
  Holds at count = run_fits (terms_at file at count) ≡ true → (t : ℕ) → at ≤ t → t < at + count → InsideFits t

  holds_first : (at count n : ℕ) → at + count ≤ file.terms.count → word_at file.terms.records (24 * at + 12) ≡ n → 1 + n ≤ count
      → Holds (at + 1) n → Holds (at + 1 + n) (count - (1 + n)) → Holds at count
  holds_first at count n inside word few in-holds out-holds fit t low high = go (dec_lt at t) (dec_lt t (at + 1 + n))
    where
      fits : (1 + n ≤ count) × (run_fits (terms_at file (at + 1) n) ≡ true) × (run_fits (terms_at file (at + 1 + n) (count - (1 + n))) ≡ true)
      fits = fits_first_lem file readable.whole at count n inside (omega arith) fit word

      go : Dec (at < t) → Dec (t < at + 1 + n) → InsideFits t
      go (no l) e =
          let same : t ≡ at = omega arith in
          rw (same, word) fits.1
      go (yes l) (yes m) = in-holds fits.1 t (omega arith) (omega arith)
      go (yes l) (no m) = out-holds fits.2 t (omega arith) (omega arith)

  run_inside : (at count t : ℕ) → at + count ≤ file.terms.count → run_fits (terms_at file at count) ≡ true → at ≤ t → t < at + count → InsideFits t
  run_inside at count t inside fit low high =
      by_records file readable.whole Holds (λ at fit t low high. absurd (omega arith)) holds_first at count inside fit fit t low high

  used : used_up file ≡ true
  used = all_used file readable.runs

  -- in the pattern, a condition or the result of its sentence
  sentence_inside : (s t : ℕ) → s < file.sentences.count → pattern_at file s ≤ t → t < pattern_at file (suc s) → InsideFits t
  unfolding pattern_part result_part condition_result_part condition_pattern_part
  sentence_inside s t inside low high = go (dec_lt t (pattern_at file s + pattern_size file s)) (dec_lt t (result_at file s))
    where
      in_condition_lem : (c : ℕ) → first_condition file s ≤ c → c < first_condition file (suc s) → condition_result_at file s c ≤ t → t < condition_result_at file s (suc c)
          → Dec (t < condition_result_at file s c + condition_result_size file c) → InsideFits t
      in_condition_lem c from below under over (yes l) =
          run_inside (condition_result_at file s c) (condition_result_size file c) t (omega (arith, asked_inside file used s c inside below))
          (condition_result_fits file readable.runs s inside c from below)
          under l
      in_condition_lem c from below under over (no l) =
          run_inside (condition_result_at file s c + condition_result_size file c) (condition_pattern_size file c) t (omega (arith, asked_inside file used s c inside below))
          (condition_pattern_fits file readable.runs s inside c from below)
          (omega arith) (omega (arith, asked_next file s c))

      go : Dec (t < pattern_at file s + pattern_size file s) → Dec (t < result_at file s) → InsideFits t
      go (yes l) e =
          run_inside (pattern_at file s) (pattern_size file s) t (pattern_inside file used s inside) (pattern_fits file readable.runs s inside) low l
      go (no l) (yes m) =
          let ends : condition_result_at file s (first_condition file s + conditions_of file s) ≡ result_at file s = rw (← condition_next file s) (asked_last file s) in
          let (c, from, below, under, over) =
          step_around (condition_result_at file s) (first_condition file s) (conditions_of file s) t (omega (arith, asked_first file s)) (omega arith) in
          in_condition_lem c from (omega (arith, condition_next file s)) under over (dec_lt t (condition_result_at file s c + condition_result_size file c))
      go (no l) (no m) =
          run_inside (result_at file s) (result_size file s) t (result_inside file used s inside) (result_fits file readable.runs s inside)
          (omega arith) (omega (arith, pattern_next file s))

  -- the argument of a call is a run
  pub argument_here : {t at : ℕ} {part : List ℕ} → t < file.terms.count → at ≡ t + 1 → part ≡ argument_part file t → PartAt file at part
  unfolding argument_part
  argument_here {t} {at} {part} l e same =
      let (s, within, low, high) = sentence_of_lem file used t l in
      rw (e, same)
      (record {
        count = word_at file.terms.records (24 * t + 12);
        inside = record_inside file readable t l;
        same = refl;
        fit = sentence_inside s t within low high;
      })

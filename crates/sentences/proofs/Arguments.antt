-- The records inside a term record of an accepted file are term records too.
use Prim.Native.Nat.{ℕ, suc, ◌+◌, ◌*◌, ◌-◌, ◌≤◌, ◌<◌}
use mathlib.Core.Bool.{true}
use mathlib.Core.Path.{◌≡◌}
use native.Mathlib.Omega.{arith}
use native.Mathlib.Decide.{dec_lt}
use Rattle.file.specs.Word.{word_at}
use Rattle.file.specs.Sections.{File}
use Rattle.law.specs.Places.{pattern_size, conditions_of, result_size, condition_result_size, condition_pattern_size, first_condition, pattern_at}
use Rattle.law.specs.Places.{condition_result_at, result_at, terms_at, pattern_part, result_part, condition_result_part, condition_pattern_part}
use Rattle.law.specs.Runs.{run_fits, used_up}
use Rattle.law.specs.Code.Index.{Readable}
use Rattle.law.proofs.PlaceLaws.{condition_next, asked_first, asked_next, asked_last, pattern_next, pattern_inside, result_inside, asked_inside}
use Rattle.law.proofs.RunLaws.{by_records}
use Rattle.law.proofs.Allowed.{all_used, pattern_fits, result_fits, condition_result_fits, condition_pattern_fits}
use Rattle.law.proofs.Owners.{step_around, sentence_of_lem}

module _ (file : File) (readable : Readable file) where
  -- where the records inside a record end
  abbrev end_at : ℕ → ℕ
  end_at t = t + 1 + word_at file.terms.records (24 * t + 12)

  -- each of some records has the records inside it among them
  abbrev Holds : ℕ → ℕ → Type 0
  Holds at count = (t : ℕ) → at ≤ t → t < at + count → end_at t ≤ at + count

  holds_first : (at count n : ℕ) → at + count ≤ file.terms.count → word_at file.terms.records (24 * at + 12) ≡ n → 1 + n ≤ count
      → Holds (at + 1) n → Holds (at + 1 + n) (count - (1 + n)) → Holds at count
  holds_first at count n inside word fit in-holds out-holds t low high = go (dec_lt at t) (dec_lt t (at + 1 + n))
    where
      go : Dec (at < t) → Dec (t < at + 1 + n) → end_at t ≤ at + count
      go (no l) e =
          let same : t ≡ at = omega arith in
          rw (same, word) (omega arith)
      go (yes l) (yes m) = omega (arith, in-holds t (omega arith) (omega arith))
      go (yes l) (no m) = omega (arith, out-holds t (omega arith) (omega arith))

  run_inside : (at count t : ℕ) → at + count ≤ file.terms.count → run_fits (terms_at file at count) ≡ true → at ≤ t → t < at + count
      → end_at t ≤ file.terms.count
  run_inside at count t inside fit low high =
      omega (arith, by_records file readable.whole Holds (λ at t low high. absurd (omega arith)) holds_first at count inside fit t low high)

  used : used_up file ≡ true
  used = all_used file readable.runs

  -- in the pattern, a condition or the result of its sentence
  sentence_inside : (s t : ℕ) → s < file.sentences.count → pattern_at file s ≤ t → t < pattern_at file (suc s) → end_at t ≤ file.terms.count
  unfolding pattern_part result_part condition_result_part condition_pattern_part
  sentence_inside s t inside low high = go (dec_lt t (pattern_at file s + pattern_size file s)) (dec_lt t (result_at file s))
    where
      in_condition_lem : (c : ℕ) → first_condition file s ≤ c → c < first_condition file (suc s) → condition_result_at file s c ≤ t → t < condition_result_at file s (suc c)
          → Dec (t < condition_result_at file s c + condition_result_size file c) → end_at t ≤ file.terms.count
      in_condition_lem c from below under over (yes l) =
          run_inside (condition_result_at file s c) (condition_result_size file c) t (omega (arith, asked_inside file used s c inside below))
          (condition_result_fits file readable.runs s inside c from below)
          under l
      in_condition_lem c from below under over (no l) =
          run_inside (condition_result_at file s c + condition_result_size file c) (condition_pattern_size file c) t (omega (arith, asked_inside file used s c inside below))
          (condition_pattern_fits file readable.runs s inside c from below)
          (omega arith) (omega (arith, asked_next file s c))

      go : Dec (t < pattern_at file s + pattern_size file s) → Dec (t < result_at file s) → end_at t ≤ file.terms.count
      go (yes l) e =
          run_inside (pattern_at file s) (pattern_size file s) t (pattern_inside file used s inside) (pattern_fits file readable.runs s inside) low l
      go (no l) (yes m) =
          let ends : condition_result_at file s (first_condition file s + conditions_of file s) ≡ result_at file s = rw (← condition_next file s) (asked_last file s) in
          let (c, from, below, under, over) =
          step_around (condition_result_at file s) (first_condition file s) (conditions_of file s) t (omega (arith, asked_first file s)) (omega arith) in
          in_condition_lem c from (omega (arith, condition_next file s)) under over (dec_lt t (condition_result_at file s c + condition_result_size file c))
      go (no l) (no m) =
          run_inside (result_at file s) (result_size file s) t (result_inside file used s inside) (result_fits file readable.runs s inside)
          (omega arith) (omega (arith, pattern_next file s))

  pub record_inside : (t : ℕ) → t < file.terms.count → t + 1 + word_at file.terms.records (24 * t + 12) ≤ file.terms.count
  record_inside t l =
      let (s, within, low, high) = sentence_of_lem file used t l in
      sentence_inside s t within low high

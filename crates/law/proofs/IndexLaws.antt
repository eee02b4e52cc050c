-- What the words of an index (specs/Code/Index.antt) tell of the bytes that they index.
use Prim.Native.Nat.{ℕ, suc, ◌+◌, ◌*◌, ◌-◌, ◌≤◌, ◌<◌}
use mathlib.Core.List.{List}
use mathlib.Core.Path.{◌≡◌}
use native.Mathlib.Omega.{arith}
use native.Mathlib.Nat.{add-zero}
use native.Mathlib.Numerals.{add-one}
use lib.ListN.{length, take, drop, get_or}
use Rattle.file.specs.Word.{word_at}
use Rattle.file.specs.Sections.{file_of}
use Rattle.file.proofs.Words.{word_part}
use Rattle.file.proofs.SectionLaws.{sections_length, sections_limits, length_by}
use Rattle.law.specs.Places.{
  sentences_of,
  pattern_size,
  conditions_of,
  result_size,
  condition_result_size,
  condition_pattern_size,
  first_sentence,
  first_condition,
  pattern_at,
  condition_result_at,
  result_at,
  terms_at,
}
use Rattle.law.specs.Code.Terms.{Owns}
use Rattle.law.specs.Code.Index.{Indexed, functions_start, sentences_start, conditions_start, terms_start}
use Rattle.law.proofs.PlaceLaws as places
use Rattle.law.proofs.Parts.{part_part}

module _ (bytes index : List ℕ) (h : Indexed bytes index) where
  -- the length of the file, by its counts, and the limits of the counts
  pub whole : length bytes
      ≡ length_by (file_of bytes).text.count (file_of bytes).functions.count (file_of bytes).sentences.count
      (file_of bytes).conditions.count (file_of bytes).terms.count
  whole = sections_length bytes (file_of bytes) h.sections

  pub functions_limit : (file_of bytes).functions.count ≤ 64
  functions_limit = (sections_limits bytes (file_of bytes) h.sections).1

  pub sentences_limit : (file_of bytes).sentences.count ≤ 128
  sentences_limit = (sections_limits bytes (file_of bytes) h.sections).2

  pub conditions_limit : (file_of bytes).conditions.count ≤ 128
  conditions_limit = (sections_limits bytes (file_of bytes) h.sections).3

  pub terms_limit : (file_of bytes).terms.count ≤ 512
  terms_limit = (sections_limits bytes (file_of bytes) h.sections).4

  -- a word of a function record, of a sentence record and of a condition record, in the file
  pub function_word : (f at : ℕ) → f < (file_of bytes).functions.count → at + 4 ≤ 20
      → word_at bytes (get_or index 0 0 + (20 * f + at)) ≡ word_at (file_of bytes).functions.records (20 * f + at)
  unfolding file_of
  function_word f at l k =
      rw (h.words.functions_at, word_part bytes (functions_start (file_of bytes)) (20 * (file_of bytes).functions.count) (20 * f + at) (omega arith))

  pub sentence_word : (s at : ℕ) → s < (file_of bytes).sentences.count → at + 4 ≤ 20
      → word_at bytes (get_or index 1 0 + (20 * s + at)) ≡ word_at (file_of bytes).sentences.records (20 * s + at)
  unfolding file_of
  sentence_word s at l k =
      rw (h.words.sentences_at, word_part bytes (sentences_start (file_of bytes)) (20 * (file_of bytes).sentences.count) (20 * s + at) (omega arith))

  pub condition_word : (c at : ℕ) → c < (file_of bytes).conditions.count → at + 4 ≤ 16
      → word_at bytes (get_or index 2 0 + (16 * c + at)) ≡ word_at (file_of bytes).conditions.records (16 * c + at)
  unfolding file_of
  condition_word c at l k =
      rw (h.words.conditions_at, word_part bytes (conditions_start (file_of bytes)) (16 * (file_of bytes).conditions.count) (16 * c + at) (omega arith))

  -- they lie inside the file
  pub function_word_inside : (f at : ℕ) → f < (file_of bytes).functions.count → at + 4 ≤ 20 → get_or index 0 0 + (20 * f + at) + 4 ≤ length bytes
  function_word_inside f at l k = omega (arith, whole, h.words.functions_at)

  pub sentence_word_inside : (s at : ℕ) → s < (file_of bytes).sentences.count → at + 4 ≤ 20 → get_or index 1 0 + (20 * s + at) + 4 ≤ length bytes
  sentence_word_inside s at l k = omega (arith, whole, h.words.sentences_at)

  pub condition_word_inside : (c at : ℕ) → c < (file_of bytes).conditions.count → at + 4 ≤ 16 → get_or index 2 0 + (16 * c + at) + 4 ≤ length bytes
  condition_word_inside c at l k = omega (arith, whole, h.words.conditions_at)

  -- a part of the term records, in the file
  pub records_inside : (at count : ℕ) → at + count ≤ (file_of bytes).terms.count → get_or index 3 0 + 24 * at + 24 * count ≤ length bytes
  records_inside at count l = omega (arith, whole, h.words.records_at)

  pub records_are : (at count : ℕ) → at + count ≤ (file_of bytes).terms.count
      → take (get_or index 3 0 + 24 * at + 24 * count - (get_or index 3 0 + 24 * at)) (drop (get_or index 3 0 + 24 * at) bytes) ≡ terms_at (file_of bytes) at count
  unfolding file_of
  records_are at count l =
      let e : get_or index 3 0 + 24 * at + 24 * count - (get_or index 3 0 + 24 * at) ≡ 24 * count = omega arith in
      rw (e, h.words.records_at, part_part (terms_start (file_of bytes)) (24 * (file_of bytes).terms.count) (24 * at) (24 * count) bytes (omega arith))

  -- where a sentence's pattern, a condition's result and a sentence's result stand
  pub pattern_is : (s : ℕ) → s ≤ (file_of bytes).sentences.count
      → get_or index (331 + s) 0 + get_or index (202 + get_or index (73 + s) 0) 0 ≡ pattern_at (file_of bytes) s
  unfolding pattern_at
  pattern_is s l =
      let c : first_condition (file_of bytes) s ≤ (file_of bytes).conditions.count =
      omega (arith, places.conditions_used (file_of bytes) h.used, places.condition_grows (file_of bytes) s (file_of bytes).sentences.count l) in
      rw (h.words.first_conditions s l, h.words.sentence_terms s l, h.words.condition_terms _ c)

  pub condition_result_is : (s c : ℕ) → s < (file_of bytes).sentences.count → c ≤ (file_of bytes).conditions.count
      → get_or index (331 + s) 0 + pattern_size (file_of bytes) s + get_or index (202 + c) 0 ≡ condition_result_at (file_of bytes) s c
  unfolding condition_result_at
  condition_result_is s c l k =
      let m : s ≤ (file_of bytes).sentences.count = omega arith in
      rw (h.words.sentence_terms s m, h.words.condition_terms c k)

  pub result_is : (s : ℕ) → s < (file_of bytes).sentences.count
      → get_or index (331 + s) 0 + pattern_size (file_of bytes) s + get_or index (202 + get_or index (74 + s) 0) 0 ≡ result_at (file_of bytes) s
  unfolding result_at condition_result_at
  result_is s l =
      let e : 74 + s ≡ 73 + suc s = omega arith in
      let c : first_condition (file_of bytes) (suc s) ≤ (file_of bytes).conditions.count =
      omega (arith, places.conditions_used (file_of bytes) h.used, places.condition_grows (file_of bytes) (suc s) (file_of bytes).sentences.count l) in
      rw (e, h.words.first_conditions (suc s) l) (condition_result_is s (first_condition (file_of bytes) (suc s)) l c)

  -- the words that lead there are places of the index
  pub condition_place : (s : ℕ) → s ≤ (file_of bytes).sentences.count → 202 + get_or index (73 + s) 0 < 972
  condition_place s l =
      omega (
        arith,
        h.words.first_conditions s l,
        conditions_limit,
        places.conditions_used (file_of bytes) h.used,
        places.condition_grows (file_of bytes) s (file_of bytes).sentences.count l,
      )

  pub next_condition_place : (s : ℕ) → s < (file_of bytes).sentences.count → 202 + get_or index (74 + s) 0 < 972
  next_condition_place s l =
      let e : 74 + s ≡ 73 + suc s = omega arith in
      rw e (condition_place (suc s) l)

  -- a sentence's pattern has at most as many records as there are
  pub pattern_small : (s : ℕ) → s < (file_of bytes).sentences.count → pattern_size (file_of bytes) s ≤ 512
  pattern_small s l = omega (arith, terms_limit, places.pattern_inside (file_of bytes) h.used s l)

  -- a sentence's conditions, from the words that the code has read
  pub conditions_before_lem : (s : ℕ) → s < (file_of bytes).sentences.count
      → get_or index (73 + (s + 1)) 0 ≡ first_condition (file_of bytes) s + conditions_of (file_of bytes) s
  conditions_before_lem s l = rw (add-one s, h.words.first_conditions (suc s) l) (places.condition_next (file_of bytes) s)

  -- a function's sentences
  pub sentences_before : (f : ℕ) → f < (file_of bytes).functions.count
      → get_or index (8 + (f + 1)) 0 ≡ first_sentence (file_of bytes) f + sentences_of (file_of bytes) f
  sentences_before f l = rw (add-one f, h.words.first_sentences (suc f) l) (places.sentence_next (file_of bytes) f)

  pub owns : (s i : ℕ) → s < (file_of bytes).sentences.count → i < conditions_of (file_of bytes) s
      → Owns (file_of bytes) s (first_condition (file_of bytes) s + i)
  owns s i l k = record {
    sentence = l;
    from = omega arith;
    up_to = omega (arith, places.condition_next (file_of bytes) s);
  }

  -- they are records
  pub owned : (s c : ℕ) → Owns (file_of bytes) s c → c < (file_of bytes).conditions.count
  owned s c o = omega (arith, places.conditions_inside (file_of bytes) h.used s o.sentence, places.condition_next (file_of bytes) s, o.up_to)

  -- its runs are parts of the term records
  pub condition_result_fits : (s c : ℕ) → Owns (file_of bytes) s c
      → condition_result_at (file_of bytes) s c + condition_result_size (file_of bytes) c + condition_pattern_size (file_of bytes) c ≤ (file_of bytes).terms.count
  condition_result_fits s c o = places.asked_inside (file_of bytes) h.used s c o.sentence o.up_to

  pub pattern_fits : (s : ℕ) → s < (file_of bytes).sentences.count
      → pattern_at (file_of bytes) s + pattern_size (file_of bytes) s ≤ (file_of bytes).terms.count
  pattern_fits s l = places.pattern_inside (file_of bytes) h.used s l

  pub result_fits : (s : ℕ) → s < (file_of bytes).sentences.count → result_at (file_of bytes) s + result_size (file_of bytes) s ≤ (file_of bytes).terms.count
  result_fits s l = places.result_inside (file_of bytes) h.used s l

  -- the text
  pub text_inside : get_or index 0 0 - 4 ≤ length bytes
  text_inside = omega (arith, whole, h.words.functions_at)

  pub text_is : take (get_or index 0 0 - 4 - 4) (drop 4 bytes) ≡ (file_of bytes).text.records
  unfolding file_of
  text_is =
      let e : get_or index 0 0 - 4 - 4 ≡ (file_of bytes).text.count = omega (arith, h.words.functions_at) in
      rw e

-- a record's first word
pub zero_offset : (s : List ℕ) (at : ℕ) → word_at s (at + 0) ≡ word_at s at
zero_offset s at = rw (add-zero at)

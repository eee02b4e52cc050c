-- Row 7 (specs/Runs.antt): a word of a term record in the file, and what the tests of a term record, a sentence and a file answer at each return.
use Prim.Native.Nat.{ℕ, suc, ◌+◌, ◌*◌, ◌-◌, ◌≤◌, ◌<◌}
use mathlib.Core.List.{List}
use mathlib.Core.Bool.{true}
use mathlib.Core.Path.{◌≡◌, refl, sym, ◌∙◌}
use native.Mathlib.Numerals.{add-one}
use native.Mathlib.Omega.{arith}
use lib.ListN.{length, get_or}
use Rattle.file.specs.Word.{word_at}
use Rattle.file.specs.Below.{every}
use Rattle.file.specs.Sections.{File, file_of}
use Rattle.file.proofs.Words.{word_part}
use Rattle.law.specs.Places.{first_sentence, pattern_at}
use Rattle.law.specs.Runs.{used_up, block_later, sentence_blocks, blocks_allowed}
use Rattle.law.specs.Code.Index.{Indexed, terms_start}
use Rattle.law.proofs.Tests.{every_all}
use Rattle.law.proofs.PlaceLaws as places
use Rattle.law.proofs.IndexLaws as laws

module _ (bytes index : List ℕ) (h : Indexed bytes index) where
  -- a word of a term record, in the file
  pub term_word : (t at : ℕ) → t < (file_of bytes).terms.count → at + 4 ≤ 24
      → word_at bytes (get_or index 3 0 + (24 * t + at)) ≡ word_at (file_of bytes).terms.records (24 * t + at)
  unfolding file_of
  term_word t at l k = rw (h.words.records_at, word_part bytes (terms_start (file_of bytes)) (24 * (file_of bytes).terms.count) (24 * t + at) (omega arith))

  -- it lies inside the file
  pub term_word_inside : (t at : ℕ) → t < (file_of bytes).terms.count → at + 4 ≤ 24 → get_or index 3 0 + (24 * t + at) + 4 ≤ length bytes
  term_word_inside t at l k = omega (arith, laws.whole bytes index h, h.words.records_at)

module _ (file : File) where
  -- the records of a sentence, from its first to the next sentence's
  pub sentence_all : (s first next : ℕ) → first ≡ pattern_at file s → next ≡ pattern_at file (s + 1)
      → every (next - first) (λ k. block_later file s (first + k)) ≡ sentence_blocks file s
  sentence_all s first next start end =
      let q : next ≡ pattern_at file (suc s) = rw (add-one s) at end in
      rw (← q, ← start) refl

  -- where the functions have all sentences, no record is refused
  blocks_hold : used_up file ≡ true → first_sentence file file.functions.count ≡ file.sentences.count → blocks_allowed file ≡ true
  unfolding blocks_allowed
  blocks_hold used all =
      every_all file.sentences.count (sentence_blocks file) λ s l.
      every_all (pattern_at file (suc s) - pattern_at file s) (λ i. block_later file s (pattern_at file s + i)) λ i k.
      rw (places.blocks_empty file used all (pattern_at file s + i) (omega (arith, places.terms_inside file used s l)))

-- the same, from the words that the code has read
pub functions_have_all : (bytes index : List ℕ) → Indexed bytes index → (functions first count : ℕ) → functions ≡ get_or index 4 0
    → first ≡ get_or index (8 + functions) 0
    → count ≡ get_or index 5 0 → first ≡ count → true ≡ blocks_allowed (file_of bytes)
functions_have_all bytes index h functions first count f w n e =
    let words = h.words in
    let number : functions ≡ (file_of bytes).functions.count = f ∙ words.functions in
    let place : first ≡ get_or index (8 + (file_of bytes).functions.count) 0 = rw number at w in
    let all : first_sentence (file_of bytes) (file_of bytes).functions.count ≡ (file_of bytes).sentences.count =
    omega (arith, place, words.first_sentences (file_of bytes).functions.count (omega arith), words.sentences) in
    sym (blocks_hold (file_of bytes) h.used all)

-- Refusals 6 and 7 never come: in the file of a text all runs fit, sections 3 to 5 are used up exactly, and no record is a block.
use Prim.Native.Nat.{ℕ, zero, suc, ◌+◌, ◌*◌, ◌-◌, ◌≤◌, ◌<◌}
use mathlib.Core.List.{List, [], ◌∷◌, ◌++◌, flat_map}
use mathlib.Core.Bool.{true, false}
use mathlib.Core.Path.{◌≡◌, refl, sym, ap, ◌∙◌}
use native.Mathlib.Omega.{arith}
use native.Mathlib.Nat.{add-zero}
use lib.ListN.{length, drop, get_or, length-append}
use lib.Seq.{take-length}
use lib.Dec.{eqb}
use borrow.Author.Tests.{eq-eqb}
use Rattle.file.specs.Word.{word_at}
use Rattle.file.specs.Below.{every, total}
use Rattle.file.specs.Sections.{File}
use Rattle.file.proofs.Below.{both}
use Rattle.law.specs.Places as places
use Rattle.law.specs.Runs.{condition_fits, sentence_fits, used_up, runs_allowed, block_later, sentence_blocks, blocks_allowed}
use Rattle.law.proofs.Tests.{every_all}
use Rattle.grammar.specs.Grammar.{Conditions, no_condition, condition, Sentence}
use Rattle.encoding.specs.Encode.{Record, records_bytes, term_records, condition_records, sentence_terms, start_of, end_of}
use Rattle.encoding.proofs.Lists.{all_at_lem, sum, sum_take, flatMap-length}
use Rattle.encoding.proofs.RecordLaws.{word_of}
use Rattle.encoding.proofs.TermRecords.{TermRecord, terms_sized, sentences_records, terms_fit}
use Rattle.encoding.proofs.SentencePlaces.{Small, no_sentence, conditions_in, Holds, conditions_of_lem, first_condition_lem, pattern_at_lem}
use Rattle.encoding.proofs.TermParts.{before, pattern_part_lem, result_part_lem, From, conditions_before, conditions_count, conditions_from_lem, asked_part, wanted_part, rest_from}

module _ (file : File) (xs : List Sentence) (h : Holds file xs) where
  -- ---- runs fit

  -- the conditions of a sentence, from one on
  from_fit : (s : ℕ) (l : s < length xs) (cs : Conditions) (p a : List Record) → From file xs h s l cs p a
      → (i : ℕ) → i < length (condition_records cs) → condition_fits file s (length p + i) ≡ true
  unfolding condition_records
  from_fit s l no_condition p a f i k = let z : ⊥ = omega arith in absurd z
  from_fit s l (condition c x d y rest) p a f zero k =
      rw (
        add-zero (length p),
        asked_part file xs h s l c x d y rest p a f,
        wanted_part file xs h s l c x d y rest p a f,
        terms_fit x f.small.0,
        terms_fit y f.small.1,
      )
  from_fit s l (condition c x d y rest) p a f (suc i) k =
      let r : Record = length (term_records x) ∷ length (term_records y) ∷ start_of x d ∷ end_of y (d + 1) ∷ [] in
      let next : length (p ++ (r ∷ [])) + i ≡ length p + suc i = rw (length-append p (r ∷ [])) (omega arith) in
      rw (← next) (from_fit s l rest (p ++ (r ∷ [])) (a ++ (term_records x ++ term_records y)) (rest_from file xs h s l c x d y rest p a f) i (omega arith))

  sentence_fits_lem : (s : ℕ) → s < length xs → sentence_fits file s ≡ true
  sentence_fits_lem s l =
      let x = get_or xs s no_sentence in
      let small : Small x = all_at_lem Small xs s no_sentence h.small l in
      let conditions : every (places.conditions_of file s) (λ i. condition_fits file s (places.first_condition file s + i)) ≡ true =
      every_all (places.conditions_of file s) (λ i. condition_fits file s (places.first_condition file s + i))
      (λ i k. rw (conditions_count file xs h s l)
      (from_fit s l x.conditions (conditions_before file xs h s l) (before file xs h s l ++ term_records x.pattern) (conditions_from_lem file xs h s l) i
      (rw (conditions_of_lem file xs h s l) at k))) in
      rw (pattern_part_lem file xs h s l, result_part_lem file xs h s l, terms_fit x.pattern small.pattern, terms_fit x.result small.result, conditions)

  -- ---- no block

  block_none : (t : ℕ) → t < length (flat_map sentence_terms xs) → places.block_size file t ≡ 0
  block_none t l =
      let rs = flat_map sentence_terms xs in
      let e : 24 * t ≡ 24 * t + 0 = omega arith in
      let none : eqb (word_at file.terms.records (24 * t)) 8 ≡ false =
      rw (e, h.terms, word_of 24 rs t 0 (terms_sized rs (sentences_records xs)) l) ((all_at_lem TermRecord rs t [] (sentences_records xs) l).1 (records_bytes (drop (suc t) rs))) in
      rw none

  blocks_none : (n : ℕ) → n ≤ length (flat_map sentence_terms xs) → total n (places.block_size file) ≡ 0
  unfolding total
  blocks_none zero l = refl
  blocks_none (suc n) l = rw (blocks_none n (omega arith), block_none n l)

  -- ---- the whole file

  module _ (sentences : file.sentences.count ≡ length xs) (conditions : file.conditions.count ≡ length (flat_map conditions_in xs))
      (terms : file.terms.count ≡ length (flat_map sentence_terms xs)) (functions : places.first_sentence file file.functions.count ≡ length xs) where
    used_up_lem : used_up file ≡ true
    unfolding used_up places.block_first
    used_up_lem =
        let blocks : total file.terms.count (places.block_size file) ≡ 0 = blocks_none file.terms.count (omega (arith, terms)) in
        let first : places.first_sentence file file.functions.count + total file.terms.count (places.block_size file) ≡ file.sentences.count =
        omega (arith, functions, blocks, sentences) in
        let second : places.first_condition file file.sentences.count ≡ file.conditions.count =
        ap (places.first_condition file) sentences
        ∙ first_condition_lem file xs h (length xs) (omega arith)
        ∙ ap (sum (λ x. length (conditions_in x))) (take-length xs)
        ∙ sym (flatMap-length conditions_in xs)
        ∙ sym conditions in
        let third : places.pattern_at file file.sentences.count ≡ file.terms.count =
        ap (places.pattern_at file) sentences
        ∙ pattern_at_lem file xs h (length xs) (omega arith)
        ∙ ap (sum (λ x. length (sentence_terms x))) (take-length xs)
        ∙ sym (flatMap-length sentence_terms xs)
        ∙ sym terms in
        both _ _ (both _ _ (eq-eqb _ _ first) (eq-eqb _ _ second)) (eq-eqb _ _ third)

    pub runs_allowed_lem : runs_allowed file ≡ true
    unfolding runs_allowed
    runs_allowed_lem =
        both (used_up file) (every file.sentences.count (sentence_fits file)) used_up_lem
        (every_all file.sentences.count (sentence_fits file) (λ s l. sentence_fits_lem s (rw sentences at l)))

    block_later_lem : (s i : ℕ) → s < length xs → i < places.pattern_at file (suc s) - places.pattern_at file s → block_later file s (places.pattern_at file s + i) ≡ true
    block_later_lem s i l k =
        let far : places.pattern_at file (suc s) ≤ length (flat_map sentence_terms xs) =
        rw (pattern_at_lem file xs h (suc s) l, flatMap-length sentence_terms xs) (sum_take (λ x. length (sentence_terms x)) xs (suc s)) in
        rw (block_none (places.pattern_at file s + i) (omega arith))

    pub blocks_allowed_lem : blocks_allowed file ≡ true
    unfolding blocks_allowed
    blocks_allowed_lem =
        every_all file.sentences.count (sentence_blocks file)
        (λ s l. every_all (places.pattern_at file (suc s) - places.pattern_at file s) (λ i. block_later file s (places.pattern_at file s + i)) (λ i k. block_later_lem s i (rw sentences at l) k))

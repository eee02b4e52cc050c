-- The sentences of a file are read as the sentences' tree.
use Prim.Native.Nat.{ℕ, zero, suc, ◌+◌, ◌*◌, ◌≤◌, ◌<◌}
use mathlib.Core.List.{List, [], ◌∷◌, ◌++◌, flat_map}
use mathlib.Core.Path.{◌≡◌, refl}
use native.Mathlib.Omega.{arith}
use native.Mathlib.Numerals.{add-one}
use native.Mathlib.Nat.{add_assoc}
use lib.ListN.{length, take, drop, get_or, length-append, drop_of_length-le}
use lib.Seq.{drop-cons, take-suc}
use Rattle.file.specs.Sections.{File}
use Rattle.law.specs.Tree as tree
use Rattle.law.specs.Places as places
use Rattle.law.specs.Reading.{run_of, mark_at, conditions_from, sentences_from, own_in}
use Rattle.grammar.specs.Grammar.{Conditions, no_condition, condition, Sentence}
use Rattle.encoding.specs.Encode.{Record, term_records, condition_records, condition_terms, sentence_start, sentence_end, sentence_terms, start_of, end_of}
use Rattle.encoding.specs.TextTree.{tree_run, tree_conditions, tree_sentences}
use Rattle.encoding.proofs.Lists.{All, all_at_lem, sum_append, sum_one, flatMap-length}
use Rattle.encoding.proofs.RecordLaws.{word_12, word_16}
use Rattle.encoding.proofs.TermsRead.{Within, terms_run}
use Rattle.encoding.proofs.SentencePlaces.{Small, no_sentence, Holds, conditions_of_lem, sentence_word}
use Rattle.encoding.proofs.TermParts.{before, pattern_place, pattern_part_lem, result_place, result_part_lem, From, conditions_before}
use Rattle.encoding.proofs.TermParts.{conditions_count, conditions_from_lem, asked_size, asked_place, asked_part, wanted_part, rest_from}

-- ---- sentences whose tokens stand in a text

abbrev pub WithinConditions : List ℕ → Conditions → Type 0
WithinConditions text no_condition = Unit {0}
WithinConditions text (condition c result d pattern rest) = Within text result × Within text pattern × WithinConditions text rest

pub record WithinSentence (text : List ℕ) (x : Sentence) : Type 0 where
  pub pattern : Within text x.pattern
  pub conditions : WithinConditions text x.conditions
  pub result : Within text x.result
  pub starts : sentence_start x ≤ length text
  pub ends : sentence_end x ≤ length text

module _ (file : File) (xs : List Sentence) (h : Holds file xs) (short : length file.text.records ≤ 4096) (inside : All (WithinSentence file.text.records) xs) where
  module _ (s : ℕ) (l : s < length xs) (own : ℕ → ℕ → tree.Sentences) where
    abbrev x : Sentence
    x = get_or xs s no_sentence

    -- its first term record
    abbrev n : ℕ
    n = length (before file xs h s l)

    small : Small x
    small = all_at_lem Small xs s no_sentence h.small l

    within : WithinSentence file.text.records x
    within = all_at_lem (WithinSentence file.text.records) xs s no_sentence inside l

    pattern_run : run_of file own (places.pattern_at file s) (places.pattern_part file s) ≡ tree_run n x.pattern
    pattern_run = rw (pattern_part_lem file xs h s l, pattern_place file xs h s l) (terms_run file own short x.pattern n small.pattern within.pattern)

    result_run : run_of file own (places.result_at file s) (places.result_part file s) ≡ tree_run (n + length (term_records x.pattern) + length (condition_terms x.conditions)) x.result
    result_run =
        rw (result_part_lem file xs h s l, result_place file xs h s l)
        (terms_run file own short x.result (n + length (term_records x.pattern) + length (condition_terms x.conditions)) small.result within.result)

    -- its conditions, from one on
    from_run : (cs : Conditions) (p a : List Record) → From file xs h s l cs p a → WithinConditions file.text.records cs
        → conditions_from file own s (length (condition_records cs)) (length p) ≡ tree_conditions (length a) cs
    unfolding conditions_from tree_conditions condition_records
    from_run no_condition p a f w = refl
    from_run (condition c x d y rest) p a f w =
        let r : Record = length (term_records x) ∷ length (term_records y) ∷ start_of x d ∷ end_of y (d + 1) ∷ [] in
        let place = asked_place file xs h s l c x d y rest p a f in
        let size = asked_size file xs h s l c x d y rest p a f in
        let asked : run_of file own (places.condition_result_at file s (length p)) (places.condition_result_part file s (length p)) ≡ tree_run (length a) x =
        rw (asked_part file xs h s l c x d y rest p a f, place) (terms_run file own short x (length a) f.small.0 w.0) in
        let wanted : run_of file own (places.condition_result_at file s (length p) + places.condition_result_size file (length p)) (places.condition_pattern_part file s (length p))
        ≡ tree_run (length a + length (term_records x)) y =
        rw (wanted_part file xs h s l c x d y rest p a f, place, size) (terms_run file own short y (length a + length (term_records x)) f.small.1 w.1) in
        let next : length (p ++ (r ∷ [])) ≡ suc (length p) = rw (length-append p (r ∷ [])) (omega arith) in
        let next' : length (a ++ (term_records x ++ term_records y)) ≡ length a + length (term_records x) + length (term_records y) =
        rw (length-append a (term_records x ++ term_records y), length-append (term_records x) (term_records y)) (omega arith) in
        let later = from_run rest (p ++ (r ∷ [])) (a ++ (term_records x ++ term_records y)) (rest_from file xs h s l c x d y rest p a f) w.2 in
        rw (asked, wanted, ← next, later, next')

    conditions_run : conditions_from file own s (places.conditions_of file s) (places.first_condition file s) ≡ tree_conditions (n + length (term_records x.pattern)) x.conditions
    conditions_run =
        rw (conditions_of_lem file xs h s l, conditions_count file xs h s l, ← length-append (before file xs h s l) (term_records x.pattern))
        (from_run x.conditions (conditions_before file xs h s l) (before file xs h s l ++ term_records x.pattern) (conditions_from_lem file xs h s l) within.conditions)

    mark_read : mark_at s file.sentences.records (20 * s + 12) ≡ record { at = s; span_start = sentence_start x; span_end = sentence_end x }
    mark_read =
        rw (
          sentence_word file xs h s 12 l,
          add_assoc (20 * s) 12 4,
          sentence_word file xs h s 16 l,
          word_12 _ _ _ _ _ _ small.starts,
          word_16 _ _ _ _ _ _ _ small.ends,
        )

  -- the sentences from s on
  pub sentences_run : (left s : ℕ) → left + s ≡ length xs → sentences_from file left s ≡ tree_sentences s (length (flat_map sentence_terms (take s xs))) (drop s xs)
  unfolding sentences_from tree_sentences
  sentences_run zero s e = rw (drop_of_length-le xs {i = s} (omega arith))
  sentences_run (suc left) s e =
      let l : s < length xs = omega arith in
      let later = sentences_from file left (suc s) in
      let own = own_in file s later in
      let ih : later ≡ tree_sentences (suc s) (length (flat_map sentence_terms (take (suc s) xs))) (drop (suc s) xs) = sentences_run left (suc s) (omega arith) in
      rw (
        drop-cons xs s no_sentence l,
        mark_read s l own,
        pattern_run s l own,
        conditions_run s l own,
        result_run s l own,
        ih,
        next s l,
        add-one s,
      )
    where
      next : (s : ℕ) → s < length xs → length (flat_map sentence_terms (take (suc s) xs)) ≡ length (flat_map sentence_terms (take s xs)) + length (sentence_terms (get_or xs s no_sentence))
      next s l =
          rw (
            flatMap-length sentence_terms (take (suc s) xs),
            flatMap-length sentence_terms (take s xs),
            take-suc xs s no_sentence l,
            sum_append (λ x. length (sentence_terms x)) (take s xs) (get_or xs s no_sentence ∷ []),
            sum_one (λ x. length (sentence_terms x)) (get_or xs s no_sentence),
          )

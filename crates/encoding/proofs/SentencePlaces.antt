-- What a file that holds some sentences says of each: how many records it has, and where they begin.
use Prim.Native.Nat.{ℕ, suc, ◌+◌, ◌*◌, ◌≤◌, ◌<◌}
use mathlib.Core.List.{List, [], ◌∷◌, ◌++◌, map, flat_map}
use mathlib.Core.Path.{◌≡◌, refl, ◌∙◌}
use native.Mathlib.Omega.{arith}
use lib.ListN.{length, take, drop, get_or, length-append, length-map}
use Rattle.file.specs.Word.{word_at}
use Rattle.file.specs.Sections.{File}
use Rattle.law.specs.Places as places
use Rattle.grammar.specs.Grammar.{nothing, Conditions, no_condition, condition, Sentence}
use Rattle.encoding.specs.Encode.{Record, record_bytes, records_bytes, term_records, condition_records, condition_terms, sentence_record, sentence_start, sentence_end, sentence_terms}
use Rattle.encoding.proofs.Lists.{All, all_append, all_at_lem, all_map, all-flatMap, sum, sum_append, sum_take, total_take, map_at, flatMap-length, flatMap-take}
use Rattle.encoding.proofs.RecordLaws.{word_0, word_4, word_8, Sized, word_of}

-- ---- records of conditions

-- a record whose first two words can be read again
pub record Counts (r : Record) : Type 0 where
  pub first : (s : List ℕ) → word_at (record_bytes r ++ s) 0 ≡ get_or r 0 0
  pub second : (s : List ℕ) → word_at (record_bytes r ++ s) 4 ≡ get_or r 1 0

abbrev pub SmallConditions : Conditions → Type 0
SmallConditions no_condition = Unit {0}
SmallConditions (condition c result d pattern rest) = (length (term_records result) ≤ 512) × (length (term_records pattern) ≤ 512) × SmallConditions rest

conditions_count : (cs : Conditions) → SmallConditions cs → All Counts (condition_records cs)
unfolding condition_records
conditions_count no_condition h = tt
conditions_count (condition c result d pattern rest) h = (
  record {
    first = λ s. word_0 _ s _ (omega (arith, h.0));
    second = λ s. word_4 _ s _ _ (omega (arith, h.1));
  },
  conditions_count rest h.2,
)

conditions_sized : (cs : Conditions) → All (Sized 16) (condition_records cs)
unfolding condition_records flat_map
conditions_sized no_condition = tt
conditions_sized (condition c x d y rest) = (refl, conditions_sized rest)

-- the terms that a condition's record counts
abbrev pub counted : Record → ℕ
counted r = get_or r 0 0 + get_or r 1 0

counted_terms : (cs : Conditions) → sum counted (condition_records cs) ≡ length (condition_terms cs)
unfolding condition_records condition_terms
counted_terms no_condition = refl
counted_terms (condition c result d pattern rest) =
    rw (
      length-append (term_records result ++ term_records pattern) (condition_terms rest),
      length-append (term_records result) (term_records pattern),
      counted_terms rest,
    )

-- ---- sentences

-- whatever words say of a sentence fits a word
pub record Small (x : Sentence) : Type 0 where
  pub pattern : length (term_records x.pattern) ≤ 512
  pub count : length (condition_records x.conditions) ≤ 128
  pub result : length (term_records x.result) ≤ 512
  pub conditions : SmallConditions x.conditions
  pub starts : sentence_start x < 4294967296
  pub ends : sentence_end x < 4294967296

-- one for places past the last
abbrev pub no_sentence : Sentence
no_sentence = record { pattern = nothing; conditions = no_condition; equals_at = 0; result = nothing }

abbrev pub conditions_in : Sentence → List Record
conditions_in x = condition_records x.conditions

-- term records of the pattern and the result, and of the conditions
abbrev pub own_size : Sentence → ℕ
own_size x = length (term_records x.pattern) + length (term_records x.result)

abbrev pub conditions_size : Sentence → ℕ
conditions_size x = length (condition_terms x.conditions)

pub sentence_records_sized : (xs : List Sentence) → All (Sized 20) (map sentence_record xs)
unfolding flat_map
sentence_records_sized xs = all_map (Sized 20) sentence_record xs (λ x. refl)

pub condition_records_sized : (xs : List Sentence) → All (Sized 16) (flat_map conditions_in xs)
condition_records_sized xs = all-flatMap (Sized 16) conditions_in xs (λ x. conditions_sized x.conditions)

all_count : (xs : List Sentence) → All Small xs → All Counts (flat_map conditions_in xs)
unfolding flat_map
all_count [] h = tt
all_count (x ∷ xs) h = all_append Counts (conditions_in x) (flat_map conditions_in xs) (conditions_count x.conditions h.0.conditions) (all_count xs h.1)

pub counted_conditions : (xs : List Sentence) → sum counted (flat_map conditions_in xs) ≡ sum conditions_size xs
unfolding flat_map
counted_conditions [] = refl
counted_conditions (x ∷ xs) = rw (sum_append counted (conditions_in x) (flat_map conditions_in xs), counted_terms x.conditions, counted_conditions xs)

pub sentence_size : (x : Sentence) → length (sentence_terms x) ≡ length (term_records x.pattern) + conditions_size x + length (term_records x.result)
sentence_size x =
    rw (
      length-append (term_records x.pattern ++ condition_terms x.conditions) (term_records x.result),
      length-append (term_records x.pattern) (condition_terms x.conditions),
    )

pub sentences_size_lem : (xs : List Sentence) → sum own_size xs + sum conditions_size xs ≡ sum (λ x. length (sentence_terms x)) xs
sentences_size_lem [] = refl
sentences_size_lem (x ∷ xs) = rw (← sentences_size_lem xs, sentence_size x) (omega arith)

-- ---- a file of some sentences

pub record Holds (file : File) (xs : List Sentence) : Type 0 where
  pub sentences : file.sentences.records ≡ records_bytes (map sentence_record xs)
  pub conditions : file.conditions.records ≡ records_bytes (flat_map conditions_in xs)
  pub terms : file.terms.records ≡ records_bytes (flat_map sentence_terms xs)
  pub small : All Small xs

module _ (file : File) (xs : List Sentence) (h : Holds file xs) where
  abbrev sentence : ℕ → Sentence
  sentence s = get_or xs s no_sentence

  small : (s : ℕ) → s < length xs → Small (sentence s)
  small s l = all_at_lem Small xs s no_sentence h.small l

  -- a word of a sentence's record
  pub sentence_word : (s k : ℕ) → s < length xs
      → word_at file.sentences.records (20 * s + k) ≡ word_at (record_bytes (sentence_record (sentence s)) ++ records_bytes (drop (suc s) (map sentence_record xs))) k
  sentence_word s k l =
      rw (
        h.sentences,
        word_of 20 (map sentence_record xs) s k (sentence_records_sized xs) (omega (arith, length-map xs sentence_record)),
        map_at sentence_record xs s no_sentence [] l,
      )

  pub pattern_size_lem : (s : ℕ) → s < length xs → places.pattern_size file s ≡ length (term_records (sentence s).pattern)
  pattern_size_lem s l =
      let e : 20 * s ≡ 20 * s + 0 = omega arith in
      rw e (sentence_word s 0 l ∙ word_0 _ _ _ (omega (arith, (small s l).pattern)))

  pub conditions_of_lem : (s : ℕ) → s < length xs → places.conditions_of file s ≡ length (conditions_in (sentence s))
  conditions_of_lem s l = sentence_word s 4 l ∙ word_4 _ _ _ _ (omega (arith, (small s l).count))

  pub result_size_lem : (s : ℕ) → s < length xs → places.result_size file s ≡ length (term_records (sentence s).result)
  result_size_lem s l = sentence_word s 8 l ∙ word_8 _ _ _ _ _ (omega (arith, (small s l).result))

  -- the first condition of a sentence
  pub first_condition_lem : (s : ℕ) → s ≤ length xs → places.first_condition file s ≡ sum (λ x. length (conditions_in x)) (take s xs)
  unfolding places.first_condition
  first_condition_lem s l = total_take no_sentence (λ x. length (conditions_in x)) (places.conditions_of file) xs s l conditions_of_lem

  -- the terms of patterns and results before a sentence
  pub sentence_records_lem : (s : ℕ) → s ≤ length xs → places.sentence_records file s ≡ sum own_size (take s xs)
  sentence_records_lem s l =
      total_take no_sentence own_size (λ i. places.pattern_size file i + places.result_size file i) xs s l (λ i k. rw (pattern_size_lem i k, result_size_lem i k))

  -- the two sizes of a condition
  condition_word : (c k : ℕ) → c < length (flat_map conditions_in xs)
      → word_at file.conditions.records (16 * c + k)
      ≡ word_at (record_bytes (get_or (flat_map conditions_in xs) c []) ++ records_bytes (drop (suc c) (flat_map conditions_in xs))) k
  condition_word c k l = rw h.conditions (word_of 16 (flat_map conditions_in xs) c k (condition_records_sized xs) l)

  counts : (c : ℕ) → c < length (flat_map conditions_in xs) → Counts (get_or (flat_map conditions_in xs) c [])
  counts c l = all_at_lem Counts (flat_map conditions_in xs) c [] (all_count xs h.small) l

  pub condition_result_size_lem : (c : ℕ) → c < length (flat_map conditions_in xs) → places.condition_result_size file c ≡ get_or (get_or (flat_map conditions_in xs) c []) 0 0
  condition_result_size_lem c l =
      let e : 16 * c ≡ 16 * c + 0 = omega arith in
      rw e (condition_word c 0 l ∙ (counts c l).first (records_bytes (drop (suc c) (flat_map conditions_in xs))))

  pub condition_pattern_size_lem : (c : ℕ) → c < length (flat_map conditions_in xs) → places.condition_pattern_size file c ≡ get_or (get_or (flat_map conditions_in xs) c []) 1 0
  condition_pattern_size_lem c l = condition_word c 4 l ∙ (counts c l).second (records_bytes (drop (suc c) (flat_map conditions_in xs)))

  -- the terms of the conditions before one
  pub condition_records_lem : (c : ℕ) → c ≤ length (flat_map conditions_in xs) → places.condition_records file c ≡ sum counted (take c (flat_map conditions_in xs))
  condition_records_lem c l =
      total_take [] counted (λ i. places.condition_result_size file i + places.condition_pattern_size file i) (flat_map conditions_in xs) c l
      (λ i k. rw (condition_result_size_lem i k, condition_pattern_size_lem i k))

  -- the terms of the conditions of the sentences before one
  pub condition_place : (s : ℕ) → s ≤ length xs → places.condition_records file (places.first_condition file s) ≡ sum conditions_size (take s xs)
  condition_place s l =
      let few : sum (λ x. length (conditions_in x)) (take s xs) ≤ length (flat_map conditions_in xs) = rw (flatMap-length conditions_in xs) (sum_take (λ x. length (conditions_in x)) xs s) in
      rw (
        first_condition_lem s l,
        condition_records_lem (sum (λ x. length (conditions_in x)) (take s xs)) few,
        flatMap-take conditions_in xs s,
        counted_conditions (take s xs),
      )

  -- the terms of the sentences before one
  pub pattern_at_lem : (s : ℕ) → s ≤ length xs → places.pattern_at file s ≡ sum (λ x. length (sentence_terms x)) (take s xs)
  unfolding places.pattern_at
  pattern_at_lem s l = rw (sentence_records_lem s l, condition_place s l) (sentences_size_lem (take s xs))

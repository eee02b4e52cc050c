-- The parts of a file's term records that belong to a sentence: its pattern, its result, and each condition's result and pattern.
use Prim.Native.Nat.{ℕ, suc, ◌+◌, ◌*◌, ◌<◌}
use mathlib.Core.List.{List, [], ◌∷◌, ◌++◌, append_assoc, flat_map}
use mathlib.Core.Path.{◌≡◌, sym, ap, ◌∙◌}
use native.Mathlib.Omega.{arith}
use lib.ListN.{length, take, drop, get_or, length-append}
use lib.Seq.{take_at, drop_at, take-suc, take-append_seam, get_or-append_seam, append_snoc, split_at}
use Rattle.file.specs.Sections.{File}
use Rattle.law.specs.Places as places
use Rattle.grammar.specs.Grammar.{Terms, Conditions, condition, Sentence}
use Rattle.encoding.specs.Encode.{Record, records_bytes, term_records, condition_records, condition_terms, sentence_terms, start_of, end_of}
use Rattle.encoding.proofs.Lists.{All, all_append, all_at_lem, sum, sum_append, sum_one, flatMap-append, flatMap-length}
use Rattle.encoding.proofs.RecordLaws.{records_append}
use Rattle.encoding.proofs.TermRecords.{TermRecord, terms_records, conditions_records, sentences_records, terms_length, run_bytes}
use Rattle.encoding.proofs.SentencePlaces.{SmallConditions, counted, Small, no_sentence, conditions_in, conditions_size, counted_conditions}
use Rattle.encoding.proofs.SentencePlaces.{sentences_size_lem, Holds, pattern_size_lem, result_size_lem, first_condition_lem, sentence_records_lem}
use Rattle.encoding.proofs.SentencePlaces.{condition_result_size_lem, condition_pattern_size_lem, condition_records_lem, condition_place, pattern_at_lem}

-- the records in the middle
middle : (file : File) (all before part after : List Record) → file.terms.records ≡ records_bytes all → all ≡ before ++ (part ++ after) → All TermRecord before → All TermRecord part
    → places.terms_at file (length before) (length part) ≡ records_bytes part
middle file all before part after k e b w =
    rw (
      k,
      e,
      records_append before (part ++ after),
      records_append part after,
      drop_at (records_bytes before) (records_bytes part ++ records_bytes after) (24 * length before) (terms_length before b),
    ) (take_at (records_bytes part) (records_bytes after) (24 * length part) (terms_length part w))

module _ (file : File) (xs : List Sentence) (h : Holds file xs) (s : ℕ) (l : s < length xs) where
  abbrev x : Sentence
  x = get_or xs s no_sentence

  abbrev pattern : List Record
  pattern = term_records x.pattern

  abbrev conditions : List Record
  conditions = condition_terms x.conditions

  abbrev result : List Record
  result = term_records x.result

  -- the terms before the sentence and after it
  abbrev pub before : List Record
  before = flat_map sentence_terms (take s xs)

  abbrev after : List Record
  after = flat_map sentence_terms (drop (suc s) xs)

  pub terms_split : flat_map sentence_terms xs ≡ before ++ (pattern ++ (conditions ++ (result ++ after)))
  unfolding flat_map
  terms_split =
      ap (flat_map sentence_terms) (split_at xs s no_sentence l)
      ∙ flatMap-append sentence_terms (take s xs) (x ∷ drop (suc s) xs)
      ∙ rw (append_assoc (pattern ++ conditions) result after, append_assoc pattern conditions (result ++ after))

  -- ---- the pattern

  pub pattern_place : places.pattern_at file s ≡ length before
  pattern_place = pattern_at_lem file xs h s (omega arith) ∙ sym (flatMap-length sentence_terms (take s xs))

  pub pattern_part_lem : places.pattern_part file s ≡ run_bytes x.pattern
  unfolding places.pattern_part
  pattern_part_lem =
      rw (pattern_place, pattern_size_lem file xs h s l)
      (middle file (flat_map sentence_terms xs) before pattern (conditions ++ (result ++ after)) h.terms terms_split (sentences_records (take s xs)) (terms_records x.pattern))

  -- ---- the result

  abbrev first : List Record
  first = before ++ (pattern ++ conditions)

  first_length_lem : length first ≡ length before + length pattern + length conditions
  first_length_lem = rw (length-append before (pattern ++ conditions), length-append pattern conditions) (omega arith)

  pub result_place : places.result_at file s ≡ length before + length pattern + length conditions
  unfolding places.result_at
  result_place =
      let n = sum conditions_size (take s xs) in
      let next : sum conditions_size (take (suc s) xs) ≡ n + conditions_size x =
      rw (take-suc xs s no_sentence l, sum_append conditions_size (take s xs) (x ∷ [])) (ap (λ z. n + z) (sum_one conditions_size x)) in
      rw (condition_place file xs h (suc s) l, next, sentence_records_lem file xs h s (omega arith), pattern_size_lem file xs h s l, flatMap-length sentence_terms (take s xs))
      (omega (arith, sentences_size_lem (take s xs)))

  pub result_part_lem : places.result_part file s ≡ run_bytes x.result
  unfolding places.result_part
  result_part_lem =
      let e : flat_map sentence_terms xs ≡ first ++ (result ++ after) =
      terms_split ∙ rw (append_assoc before (pattern ++ conditions) (result ++ after), append_assoc pattern conditions (result ++ after)) in
      rw (result_place, ← first_length_lem, result_size_lem file xs h s l)
      (middle file (flat_map sentence_terms xs) first result after h.terms e
      (all_append TermRecord before (pattern ++ conditions) (sentences_records (take s xs))
      (all_append TermRecord pattern conditions (terms_records x.pattern) (conditions_records x.conditions)))
      (terms_records x.result))

  -- ---- its conditions, from one on

  -- these conditions stand after the condition records p and the term records a
  pub record From (cs : Conditions) (p a : List Record) : Type 0 where
    pub later : List Record
    pub later_terms : List Record
    pub split : flat_map conditions_in xs ≡ p ++ (condition_records cs ++ later)
    pub split_terms : flat_map sentence_terms xs ≡ a ++ (condition_terms cs ++ later_terms)
    pub whole : All TermRecord a
    pub place : length a ≡ places.sentence_records file s + places.pattern_size file s + sum counted p
    pub small : SmallConditions cs

  -- the records of conditions before the sentence
  abbrev pub conditions_before : List Record
  conditions_before = flat_map conditions_in (take s xs)

  pub conditions_count : places.first_condition file s ≡ length conditions_before
  conditions_count = first_condition_lem file xs h s (omega arith) ∙ sym (flatMap-length conditions_in (take s xs))

  pub conditions_from_lem : From x.conditions conditions_before (before ++ pattern)
  unfolding flat_map
  conditions_from_lem =
      record {
        later = flat_map conditions_in (drop (suc s) xs);
        later_terms = result ++ after;
        split = ap (flat_map conditions_in) (split_at xs s no_sentence l) ∙ flatMap-append conditions_in (take s xs) (x ∷ drop (suc s) xs);
        split_terms = terms_split ∙ sym (append_assoc before pattern (conditions ++ (result ++ after)));
        whole = all_append TermRecord before pattern (sentences_records (take s xs)) (terms_records x.pattern);
        place =
            rw (
              length-append before pattern,
              sentence_records_lem file xs h s (omega arith),
              pattern_size_lem file xs h s l,
              counted_conditions (take s xs),
              flatMap-length sentence_terms (take s xs),
            ) (omega (arith, sentences_size_lem (take s xs)));
        small = (all_at_lem Small xs s no_sentence h.small l).conditions;
      }

  module _ (c : ℕ) (asked : Terms) (d : ℕ) (wanted : Terms) (rest : Conditions) (p a : List Record) (f : From (condition c asked d wanted rest) p a) where
    -- the first of them
    abbrev this : Record
    this = length (term_records asked) ∷ length (term_records wanted) ∷ start_of asked d ∷ end_of wanted (d + 1) ∷ []

    split_here : flat_map conditions_in xs ≡ p ++ (this ∷ condition_records rest ++ f.later)
    unfolding condition_records
    split_here = f.split

    terms_here : flat_map sentence_terms xs ≡ a ++ (term_records asked ++ (term_records wanted ++ (condition_terms rest ++ f.later_terms)))
    unfolding condition_terms
    terms_here =
        f.split_terms
        ∙ rw (
          append_assoc (term_records asked ++ term_records wanted) (condition_terms rest) f.later_terms,
          append_assoc (term_records asked) (term_records wanted) (condition_terms rest ++ f.later_terms),
        )

    here : get_or (flat_map conditions_in xs) (length p) [] ≡ this
    here = rw split_here (get_or-append_seam p this (condition_records rest ++ f.later) [])

    few : length p < length (flat_map conditions_in xs)
    few = rw (split_here, length-append p (this ∷ condition_records rest ++ f.later)) (omega arith)

    pub asked_size : places.condition_result_size file (length p) ≡ length (term_records asked)
    asked_size = rw (condition_result_size_lem file xs h (length p) few, here)

    wanted_size : places.condition_pattern_size file (length p) ≡ length (term_records wanted)
    wanted_size = rw (condition_pattern_size_lem file xs h (length p) few, here)

    pub asked_place : places.condition_result_at file s (length p) ≡ length a
    unfolding places.condition_result_at
    asked_place =
        let front : take (length p) (flat_map conditions_in xs) ≡ p = rw split_here (take-append_seam p (this ∷ condition_records rest ++ f.later)) in
        rw (condition_records_lem file xs h (length p) (omega (arith, few)), front) (sym f.place)

    pub asked_part : places.condition_result_part file s (length p) ≡ run_bytes asked
    unfolding places.condition_result_part
    asked_part =
        rw (asked_place, asked_size)
        (middle file (flat_map sentence_terms xs) a (term_records asked) (term_records wanted ++ (condition_terms rest ++ f.later_terms)) h.terms terms_here f.whole
        (terms_records asked))

    pub wanted_part : places.condition_pattern_part file s (length p) ≡ run_bytes wanted
    unfolding places.condition_pattern_part
    wanted_part =
        rw (asked_place, asked_size, wanted_size, ← length-append a (term_records asked))
        (middle file (flat_map sentence_terms xs) (a ++ term_records asked) (term_records wanted) (condition_terms rest ++ f.later_terms) h.terms
        (terms_here ∙ sym (append_assoc a (term_records asked) (term_records wanted ++ (condition_terms rest ++ f.later_terms))))
        (all_append TermRecord a (term_records asked) f.whole (terms_records asked)) (terms_records wanted))

    -- those after it
    pub rest_from : From rest (p ++ (this ∷ [])) (a ++ (term_records asked ++ term_records wanted))
    rest_from =
        record {
          later = f.later;
          later_terms = f.later_terms;
          split = split_here ∙ sym (append_snoc p this (condition_records rest ++ f.later));
          split_terms =
              terms_here
              ∙ rw (
                append_assoc a (term_records asked ++ term_records wanted) (condition_terms rest ++ f.later_terms),
                append_assoc (term_records asked) (term_records wanted) (condition_terms rest ++ f.later_terms),
              );
          whole =
              all_append TermRecord a (term_records asked ++ term_records wanted) f.whole
              (all_append TermRecord (term_records asked) (term_records wanted) (terms_records asked) (terms_records wanted));
          place = rw (rest_length, sum_append counted p (this ∷ []), sum_one counted this) (omega (arith, f.place));
          small = f.small.2;
        }
      where
        rest_length : length (a ++ (term_records asked ++ term_records wanted)) ≡ length a + length (term_records asked) + length (term_records wanted)
        rest_length = rw (length-append a (term_records asked ++ term_records wanted), length-append (term_records asked) (term_records wanted)) (omega arith)

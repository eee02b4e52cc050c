-- Matching within an accepted law (src/lib.rt): what the two searches ask for, and what the calls answer.
use Prim.Native.Nat.{ℕ, ◌+◌, ◌*◌, ◌≤◌, ◌<◌}
use mathlib.Core.Bool.{Bool, true, false}
use mathlib.Core.List.{List}
use mathlib.Core.Logic.{◌⊎◌, inl, inr}
use mathlib.Core.Option.{none, some}
use mathlib.Core.Path.{◌≡◌, sym, ◌∙◌}
use native.Mathlib.Omega.{arith}
use lib.ListN.{length, get_or}
use lib.Seq.{take_all}
use lib.Dec.{eqb, ltb}
use borrow.Author.Tests.{lt-ltb, le-ltb, ltb-true, ne_eqb}
use Rattle.file.specs.Answer.{refused, given}
use Rattle.file.specs.Word.{word_at}
use Rattle.file.specs.Sections.{File, file_of, number_of}
use Rattle.file.specs.declared.Refusal.{Refusal}
use Rattle.law.specs.Places.{pattern_size, pattern_at, pattern_part, terms_at}
use Rattle.law.specs.Reading.{tree_of, own}
use Rattle.law.specs.Code.Index.{Indexed, Readable}
use Rattle.law.specs.Variables.{distinct}
use Rattle.law.specs.Law.{law_of, check_of, check_answer}
use Rattle.law.specs.Code.Accepted.{Accepted, IndexAfter}
use Rattle.std.specs.declared.result.Result.{Result}
use Rattle.std.specs.declared.result.Result.TheVariants.{Ok, Err}
use Rattle.file.proofs.Answers.{map_given, map_refused}
use Rattle.law.proofs.Tests.{three_hold}
use Rattle.law.proofs.Accepted.{law_accepted, accepted_law}
use Rattle.law.proofs.Allowed.{accepted_readable, all_used}
use Rattle.law.proofs.Parts.{terms_length}
use Rattle.law.proofs.PlaceLaws.{pattern_inside}
use Rattle.law.proofs.IndexLaws.{terms_limit}
use Rattle.matching.specs.Shadow.{shadows}
use Rattle.matching.specs.Literal.{is_literal, literal_terms, literal_matches}
use Rattle.matching.specs.Code.Part.{row_of, literal_part, symbols_of, Stands}
use Rattle.searches.specs.Code.Capacity.{variables_in}
use Rattle.searches.specs.Code.Asked.{nesting}
use Rattle.sentences.specs.Entry.{pattern_in, argument_part, argument_in, literal_call, shadow_in, no_sentence_lem, not_literal}
use Rattle.sentences.specs.Entry.{answered, recognise_in, shadow_outcome, recognise_outcome, shadow_answer, recognise_answer}
use Rattle.std.specs.Prelude.{IsErrAnd}
use Rattle.sentences.specs.declared.errors.ShadowError.{ShadowError}
use Rattle.sentences.specs.declared.errors.ShadowError.TheVariants as shadow_errors
use Rattle.sentences.specs.declared.errors.MatchError.{MatchError}
use Rattle.sentences.specs.declared.errors.MatchError.TheVariants as match_errors
use Rattle.matching.proofs.PartLaws.{row_run}
use Rattle.searches.proofs.LiteralParts.{part_literal, part_symbols}
use Rattle.sentences.proofs.SentencePatterns.{pattern_distinct, pattern_nesting}
use Rattle.sentences.proofs.Arguments.{record_inside}

-- ---- what the searches ask for

module _ (bytes index : List ℕ) (indexed : Indexed bytes index) (accepted : Accepted bytes) where
  abbrev file : File
  file = file_of bytes

  readable : Readable file
  readable = accepted_readable bytes accepted

  -- a pattern starts among the term records
  pattern_ends : (s : ℕ) → s < file.sentences.count → pattern_at file s + pattern_size file s ≤ file.terms.count
  pattern_ends s h = pattern_inside file (all_used file readable.runs) s h

  pub pattern_low : (s at : ℕ) → s < file.sentences.count → at ≡ pattern_at file s → at ≤ 512
  pattern_low s at h e = omega (arith, pattern_ends s h, terms_limit bytes index indexed)

  -- the records inside a record are term records
  pub argument_ends : (t n : ℕ) → t < file.terms.count → n ≡ word_at file.terms.records (24 * t + 12) → t + 1 + n ≤ file.terms.count
  argument_ends t n h e = rw e (record_inside file readable t h)

  pub argument_is : (t n : ℕ) (part : List ℕ) → n ≡ word_at file.terms.records (24 * t + 12) → part ≡ terms_at file (t + 1) n → part ≡ argument_part file t
  unfolding argument_part
  argument_is t n part e same = rw e at same

  -- all term records, as the code cuts them out
  pub all_terms : (n : ℕ) (section : List ℕ) → n ≡ get_or index 7 0 → section ≡ terms_at file 0 n → section ≡ file.terms.records
  all_terms n section all cut =
      let count : n ≡ file.terms.count = all ∙ indexed.words.terms in
      cut ∙ rw count (take_all (24 * file.terms.count) file.terms.records (omega (arith, readable.whole)))

  module _ (text section : List ℕ) (words : text ≡ file.text.records) (whole : section ≡ file.terms.records) where
    pub few_terms : length section < 65536
    few_terms = rw whole (omega (arith, readable.whole, terms_limit bytes index indexed))

    stands : (at count : ℕ) → at + count ≤ file.terms.count → Stands section (terms_at file at count) (24 * at)
    stands at count inside =
        rw whole
        (record {
          inside = omega (arith, terms_length file readable.whole at count inside, readable.whole);
          same = rw (terms_length file readable.whole at count inside);
        })

    module _ (s : ℕ) (part : List ℕ) (inside : s < file.sentences.count) (same : part ≡ pattern_part file s) where
      pub pattern_stands : (at : ℕ) → at ≡ pattern_at file s → Stands section part (24 * at)
      unfolding pattern_part
      pattern_stands at e = rw (e, same) (stands (pattern_at file s) (pattern_size file s) (pattern_ends s inside))

      pub pattern_few : distinct (variables_in (row_of text part)) ≤ 32
      pattern_few = rw (words, same) (pattern_distinct file readable s inside accepted.patterns)

      pub pattern_nested : nesting (row_of text part) ≤ 33
      pattern_nested = rw (words, same) (pattern_nesting file readable s inside accepted.depth)

    pub argument_stands : (t : ℕ) (part : List ℕ) → t < file.terms.count → part ≡ argument_part file t → Stands section part (24 * (t + 1))
    unfolding argument_part
    argument_stands t part h same =
        rw same (stands (t + 1) (word_at file.terms.records (24 * t + 12)) (record_inside file readable t h))

-- ---- what is answered within an accepted law

module _ (bytes index : List ℕ) (indexed : Indexed bytes index) where
  -- the pattern of a sentence, and the argument of a call, as rows
  pattern_row_lem : (s : ℕ) → pattern_in (file_of bytes) s ≡ row_of (file_of bytes).text.records (pattern_part (file_of bytes) s)
  unfolding pattern_in
  pattern_row_lem s = row_run (file_of bytes).text.records (own (file_of bytes)) (pattern_at (file_of bytes) s) (pattern_part (file_of bytes) s)

  argument_literal : (t : ℕ) → is_literal (argument_in (file_of bytes) t) ≡ literal_part (argument_part (file_of bytes) t)
  unfolding argument_in
  argument_literal t = part_literal (file_of bytes).text.records (own (file_of bytes)) (t + 1) (argument_part (file_of bytes) t)

  argument_symbols : (t : ℕ) → literal_terms (argument_in (file_of bytes) t) ≡ symbols_of (file_of bytes).text.records (argument_part (file_of bytes) t)
  unfolding argument_in
  argument_symbols t = part_symbols (file_of bytes).text.records (own (file_of bytes)) (t + 1) (argument_part (file_of bytes) t)

  -- a record that is no term, or no call, or is one
  module _ (n : ℕ) (all : n ≡ get_or index 7 0) (t : ℕ) where
    kind_is : (kind : ℕ) → kind ≡ word_at (file_of bytes).terms.records (24 * t + 0) → word_at (file_of bytes).terms.records (24 * t) ≡ kind
    kind_is kind e = let start : 24 * t + 0 ≡ 24 * t = omega arith in sym (rw start at e)

    pub call_none : n ≤ t → false ≡ literal_call (file_of bytes) t
    unfolding literal_call
    call_none h = let count : n ≡ (file_of bytes).terms.count = all ∙ indexed.words.terms in rw (le-ltb t (file_of bytes).terms.count (omega arith))

    pub call_other : (kind : ℕ) → kind ≡ word_at (file_of bytes).terms.records (24 * t + 0) → (kind ≡ 7 → ⊥) → t < n → false ≡ literal_call (file_of bytes) t
    unfolding literal_call
    call_other kind e other h =
        let count : n ≡ (file_of bytes).terms.count = all ∙ indexed.words.terms in
        rw (lt-ltb t (file_of bytes).terms.count (omega arith), kind_is kind e, ne_eqb kind 7 other)

    pub call_literal : (kind : ℕ) (part : List ℕ) (r : Bool) → kind ≡ word_at (file_of bytes).terms.records (24 * t + 0) → kind ≡ 7 → t < n
        → part ≡ argument_part (file_of bytes) t → r ≡ literal_part part → r ≡ literal_call (file_of bytes) t
    unfolding literal_call
    call_literal kind part r e seven h same is =
        let count : n ≡ (file_of bytes).terms.count = all ∙ indexed.words.terms in
        rw (lt-ltb t (file_of bytes).terms.count (omega arith), kind_is kind e, seven, argument_literal t, ← same, ← is)

  -- a literal call stands among the terms
  pub call_is : (t : ℕ) (r : Bool) → r ≡ literal_call (file_of bytes) t → r ≡ true
      → (t < (file_of bytes).terms.count) × (literal_part (argument_part (file_of bytes) t) ≡ true)
  unfolding literal_call
  call_is t r e h =
      let (inside, call, literal) =
      three_hold (ltb t (file_of bytes).terms.count) (eqb (word_at (file_of bytes).terms.records (24 * t)) 7) (is_literal (argument_in (file_of bytes) t)) (sym e ∙ h) in
      (ltb-true t (file_of bytes).terms.count inside, rw (argument_literal t) at literal)

  module _ (n : ℕ) (all : n ≡ get_or index 5 0) where
    count_is : n ≡ (file_of bytes).sentences.count
    count_is = all ∙ indexed.words.sentences

    pub sentence_inside : (s : ℕ) → s < n → s < (file_of bytes).sentences.count
    sentence_inside s h = omega (arith, count_is)

    -- one of them is no sentence
    pub shadow_none : (s t : ℕ) → (n ≤ s) ⊎ ((s < n) × (n ≤ t)) → given none ≡ given (shadow_in (file_of bytes) s t)
    unfolding shadow_in
    shadow_none s t (inl h) = rw (le-ltb s (file_of bytes).sentences.count (omega (arith, count_is)))
    shadow_none s t (inr (h, k)) =
        rw (lt-ltb s (file_of bytes).sentences.count (omega (arith, count_is)), le-ltb t (file_of bytes).sentences.count (omega (arith, count_is)))

    pub shadow_answered : (s t : ℕ) (r : Bool) → s < n → t < n
        → r ≡ shadows (row_of (file_of bytes).text.records (pattern_part (file_of bytes) s)) (row_of (file_of bytes).text.records (pattern_part (file_of bytes) t))
        → given (some r) ≡ given (shadow_in (file_of bytes) s t)
    unfolding shadow_in
    shadow_answered s t r h k is =
        rw (
          lt-ltb s (file_of bytes).sentences.count (omega (arith, count_is)),
          lt-ltb t (file_of bytes).sentences.count (omega (arith, count_is)),
          pattern_row_lem s,
          pattern_row_lem t,
          ← is,
        )

    pub recognise_none : (s t : ℕ) → n ≤ s → given no_sentence_lem ≡ given (recognise_in (file_of bytes) s t)
    unfolding recognise_in
    recognise_none s t h = rw (le-ltb s (file_of bytes).sentences.count (omega (arith, count_is)))

    pub recognise_other : (s t : ℕ) (r : Bool) → s < n → r ≡ literal_call (file_of bytes) t → r ≡ false → given not_literal ≡ given (recognise_in (file_of bytes) s t)
    unfolding recognise_in
    recognise_other s t r h e f = rw (lt-ltb s (file_of bytes).sentences.count (omega (arith, count_is)), ← e, f)

    pub recognise_answered : (s t : ℕ) (r b : Bool) → s < n → r ≡ literal_call (file_of bytes) t → r ≡ true
        → b ≡ literal_matches (row_of (file_of bytes).text.records (pattern_part (file_of bytes) s)) (symbols_of (file_of bytes).text.records (argument_part (file_of bytes) t))
        → given (answered b) ≡ given (recognise_in (file_of bytes) s t)
    unfolding recognise_in
    recognise_answered s t r b h e f is =
        rw (lt-ltb s (file_of bytes).sentences.count (omega (arith, count_is)), ← e, f, pattern_row_lem s, argument_symbols t, ← is)

-- ---- what is answered to any bytes

module _ (bytes : List ℕ) (answer : Result (Unit {0}) Refusal) (verdict : check_answer answer ≡ check_of bytes) where
  law_read : answer ≡ Ok tt → Accepted bytes × (law_of bytes ≡ given (tree_of (file_of bytes)))
  law_read e =
      let passed : given tt ≡ check_of bytes = rw e at verdict in
      map_given (λ _. tt) (law_of bytes) tt passed (λ law is same. let all = (law_accepted bytes law is).0 in (all, accepted_law bytes all))

  law_refused : (why : Refusal) → answer ≡ Err why → law_of bytes ≡ refused (number_of why)
  law_refused why e =
      let refusal : refused (number_of why) ≡ check_of bytes = rw e at verdict in
      map_refused (λ _. tt) (law_of bytes) (number_of why) refusal

  -- an accepted law can be asked
  pub law_asked : (index : List ℕ) → IndexAfter answer bytes index → answer ≡ Ok tt → Indexed bytes index × Accepted bytes
  law_asked index k e = (rw e at k, (law_read e).0)

  pub shadow_refused : (s t : ℕ) (why : Refusal) → answer ≡ Err why → (r : Result Bool ShadowError) → IsErrAnd r (λ error. error ≡ shadow_errors.Refused why)
      → shadow_answer r ≡ shadow_outcome bytes s t
  unfolding shadow_outcome
  shadow_refused s t why e (Ok b) h = absurd h
  shadow_refused s t why e (Err error) h = rw (h, law_refused why e)

  pub shadow_accepted : (s t : ℕ) (r : Result Bool ShadowError) → answer ≡ Ok tt → (law : List ℕ) → law ≡ bytes
      → shadow_answer r ≡ given (shadow_in (file_of law) s t) → shadow_answer r ≡ shadow_outcome bytes s t
  unfolding shadow_outcome
  shadow_accepted s t r e law same is = rw (law_read e).1 (rw same at is)

  pub recognise_refused : (s t : ℕ) (why : Refusal) → answer ≡ Err why → (r : Result Bool MatchError) → IsErrAnd r (λ error. error ≡ match_errors.Refused why)
      → recognise_answer r ≡ recognise_outcome bytes s t
  unfolding recognise_outcome
  recognise_refused s t why e (Ok b) h = absurd h
  recognise_refused s t why e (Err error) h = rw (h, law_refused why e)

  pub recognise_accepted : (s t : ℕ) (r : Result Bool MatchError) → answer ≡ Ok tt → (law : List ℕ) → law ≡ bytes
      → recognise_answer r ≡ given (recognise_in (file_of law) s t) → recognise_answer r ≡ recognise_outcome bytes s t
  unfolding recognise_outcome
  recognise_accepted s t r e law same is = rw (law_read e).1 (rw same at is)

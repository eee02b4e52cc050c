-- The records of sentences and conditions that are found from left to right are those of the text's phrase.
use Prim.Native.Nat.{ℕ, ◌+◌}
use mathlib.Core.List.{List, [], ◌∷◌, ◌++◌, append_assoc, append-nil, map, map-append, flat_map}
use mathlib.Core.Bool.{Bool, true, false, and-false}
use mathlib.Core.Path.{◌≡◌, refl, sym, ap, ◌∙◌}
use native.Mathlib.Omega.{arith}
use native.Mathlib.Nat.{add-zero}
use lib.ListN.{length}
use lib.Dec.{eqb}
use Rattle.tokens.specs.Token.{right_brace, colon, equals, semicolon, Placed}
use Rattle.grammar.specs.Grammar.{sign_at, Terms, Conditions, no_condition, condition, Sentence, Sentences, last, last_closed, more}
use Rattle.grammar.specs.Grammar.{Function, Names, last_name, more_names, Text, done, extern, function, entry, spell_terms}
use Rattle.grammar.specs.Grammar.{spell_conditions, spell_sentence, spell_sentences, spell_function, spell_names, spell_text}
use Rattle.encoding.specs.Encode.{term_records, start_of, end_of, condition_records, conditions_start, sentence_record}
use Rattle.encoding.specs.Encode.{sentence_list, sentences_in, sentences_of, sentence_section, condition_section}
use Rattle.encoding.specs.Code.FlatTerms.{inside, kind_at, first_start}
use Rattle.encoding.specs.Code.FlatFile.{part_records, part_end, first_is, after_kind, end_of_kind, count_to, sentence_here, condition_here, sentences_after, flat_sentences, flat_conditions}
use Rattle.encoding.proofs.Lists.{flatMap-append}
use Rattle.encoding.proofs.SentencePlaces.{conditions_in}
use Rattle.encoding.proofs.FlatRuns.{other_kind, passing, after_terms_lem, end_of_terms, count_terms, first_terms, records_terms, end_terms, start_terms}

-- ---- terms hold no brace, no semicolon and no comma

sentences_terms : (b : Bool) (t : Terms) (after : List Placed) → flat_sentences b (spell_terms t after) ≡ flat_sentences b after
sentences_terms b =
    passing (flat_sentences b)
    (λ p ps h. rw (other_kind (kind_at p) 123 h refl, other_kind (kind_at p) 59 h refl, other_kind (kind_at p) 125 h refl, and-false b))

conditions_terms : (b : Bool) (t : Terms) (after : List Placed) → flat_conditions b (spell_terms t after) ≡ flat_conditions b after
conditions_terms b =
    passing (flat_conditions b)
    (λ p ps h. rw (other_kind (kind_at p) 44 h refl, other_kind (kind_at p) 123 h refl, other_kind (kind_at p) 125 h refl, and-false b))

-- ---- the conditions of a sentence, before its `=`

module _ (m : ℕ) (ys : List Placed) where
  abbrev spelled : Conditions → List Placed
  spelled cs = spell_conditions cs (sign_at m equals ∷ ys)

  -- what stands after terms ends them
  records_end : (cs : Conditions) → part_records inside (spelled cs) ≡ 0
  records_end no_condition = refl
  records_end (condition c x d y rest) = refl

  part_end_lem : (cs : Conditions) (e : ℕ) → part_end e (spelled cs) ≡ e
  part_end_lem no_condition e = refl
  part_end_lem (condition c x d y rest) e = refl

  condition_here_lem : (x : Terms) (d : ℕ) (y : Terms) (rest : Conditions)
      → condition_here (spell_terms x (sign_at d colon ∷ spell_terms y (spelled rest))) ≡ length (term_records x) ∷ length (term_records y) ∷ start_of x d ∷ end_of y (d + 1) ∷ []
  condition_here_lem x d y rest =
      let q : List Placed = sign_at d colon ∷ spell_terms y (spelled rest) in
      rw (
        records_terms x q,
        after_terms_lem 58 refl x q,
        end_of_terms 58 refl x q,
        start_terms x q,
        records_terms y (spelled rest),
        end_terms y (d + 1) (spelled rest),
        records_end rest,
        part_end_lem rest (end_of y (d + 1)),
        add-zero (length (term_records x)),
        add-zero (length (term_records y)),
      )

  conditions_flat : (cs : Conditions) → flat_conditions true (spelled cs) ≡ condition_records cs ++ flat_conditions true ys
  unfolding condition_records
  conditions_flat no_condition = refl
  conditions_flat (condition c x d y rest) =
      rw (condition_here_lem x d y rest, conditions_terms true x (sign_at d colon ∷ spell_terms y (spelled rest)), conditions_terms true y (spelled rest), conditions_flat rest)

  -- `=` stands after them
  after_conditions_lem : (cs : Conditions) → after_kind 61 (spelled cs) ≡ ys
  after_conditions_lem no_condition = refl
  after_conditions_lem (condition c x d y rest) =
      after_terms_lem 61 refl x (sign_at d colon ∷ spell_terms y (spelled rest)) ∙ (after_terms_lem 61 refl y (spelled rest) ∙ after_conditions_lem rest)

  end_of_conditions : (cs : Conditions) → end_of_kind 61 (spelled cs) ≡ m + 1
  end_of_conditions no_condition = refl
  end_of_conditions (condition c x d y rest) =
      end_of_terms 61 refl x (sign_at d colon ∷ spell_terms y (spelled rest)) ∙ (end_of_terms 61 refl y (spelled rest) ∙ end_of_conditions rest)

  -- they are counted by their colons
  count_conditions : (cs : Conditions) → count_to 58 61 (spelled cs) ≡ length (condition_records cs)
  unfolding condition_records
  count_conditions no_condition = refl
  count_conditions (condition c x d y rest) =
      rw (count_terms 61 refl 58 refl x (sign_at d colon ∷ spell_terms y (spelled rest)), count_terms 61 refl 58 refl y (spelled rest), count_conditions rest) (omega arith)

  start_conditions : (cs : Conditions) → first_start (spelled cs) ≡ conditions_start cs m
  start_conditions no_condition = refl
  start_conditions (condition c x d y rest) = refl

  pub first_conditions_lem : (k : ℕ) → eqb 44 k ≡ false → eqb 61 k ≡ false → (cs : Conditions) → first_is k (spelled cs) ≡ false
  first_conditions_lem k h g no_condition = g
  first_conditions_lem k h g (condition c x d y rest) = h

  -- they hold no sentence
  sentences_conditions : (cs : Conditions) → flat_sentences true (spelled cs) ≡ flat_sentences true ys
  sentences_conditions no_condition = refl
  sentences_conditions (condition c x d y rest) =
      sentences_terms true x (sign_at d colon ∷ spell_terms y (spelled rest)) ∙ (sentences_terms true y (spelled rest) ∙ sentences_conditions rest)

-- ---- a sentence, before tokens that end its result

sentence_here_lem : (x : Sentence) (after : List Placed) → part_records inside after ≡ 0 → ((e : ℕ) → part_end e after ≡ e) → sentence_here (spell_sentence x after) ≡ sentence_record x
sentence_here_lem x after h k =
    let m : ℕ = x.equals_at in
    let ys : List Placed = spell_terms x.result after in
    let q : List Placed = spell_conditions x.conditions (sign_at m equals ∷ ys) in
    rw (
      records_terms x.pattern q,
      count_terms 61 refl 58 refl x.pattern q,
      after_terms_lem 61 refl x.pattern q,
      start_terms x.pattern q,
      end_of_terms 61 refl x.pattern q,
      records_end m ys x.conditions,
      count_conditions m ys x.conditions,
      after_conditions_lem m ys x.conditions,
      start_conditions m ys x.conditions,
      end_of_conditions m ys x.conditions,
      records_terms x.result after,
      end_terms x.result (m + 1) after,
      h,
      k (end_of x.result (m + 1)),
      add-zero (length (term_records x.pattern)),
      add-zero (length (term_records x.result)),
    )

-- after `{` or `;`
sentence_flat : (x : Sentence) (after : List Placed) → part_records inside after ≡ 0 → ((e : ℕ) → part_end e after ≡ e)
    → sentences_after true 123 (spell_sentence x after) ++ flat_sentences true (spell_sentence x after) ≡ sentence_record x ∷ flat_sentences true after
sentence_flat x after h k =
    let m : ℕ = x.equals_at in
    let ys : List Placed = spell_terms x.result after in
    let q : List Placed = spell_conditions x.conditions (sign_at m equals ∷ ys) in
    let first : first_is 125 (spell_sentence x after) ≡ false = first_terms 125 refl x.pattern q (first_conditions_lem m ys 125 refl refl x.conditions) in
    let pass : flat_sentences true (spell_sentence x after) ≡ flat_sentences true after =
    sentences_terms true x.pattern q ∙ (sentences_conditions m ys x.conditions ∙ sentences_terms true x.result after) in
    rw (first, sentence_here_lem x after h k, pass)

sentences_flat : (ss : Sentences) (r : ℕ) (after : List Placed)
    → sentences_after true 123 (spell_sentences ss (sign_at r right_brace ∷ after)) ++ flat_sentences true (spell_sentences ss (sign_at r right_brace ∷ after))
    ≡ map sentence_record (sentence_list ss) ++ flat_sentences false after
sentences_flat (last x) r after = sentence_flat x (sign_at r right_brace ∷ after) refl (λ e. refl)
sentences_flat (last_closed x c) r after = sentence_flat x (sign_at c semicolon ∷ sign_at r right_brace ∷ after) refl (λ e. refl)
sentences_flat (more x c rest) r after =
    sentence_flat x (sign_at c semicolon ∷ spell_sentences rest (sign_at r right_brace ∷ after)) refl (λ e. refl) ∙ ap (◌∷◌ (sentence_record x)) (sentences_flat rest r after)

names_sentences : (names : Names) (after : List Placed) → flat_sentences false (spell_names names after) ≡ flat_sentences false after
names_sentences (last_name i c) after = refl
names_sentences (more_names i c rest) after = names_sentences rest after

function_sentences_lem : (f : Function) (rest : Text) → flat_sentences false (spell_text rest) ≡ sentence_section rest
    → flat_sentences false (spell_function f (spell_text rest)) ≡ sentence_section (function f rest)
unfolding flat_map
function_sentences_lem f rest h =
    sentences_flat f.sentences f.right_at (spell_text rest) ∙ rw h (sym (map-append sentence_record (sentences_in f) (sentences_of rest)))

-- the sentence records of a text
pub text_sentences : (x : Text) → flat_sentences false (spell_text x) ≡ sentence_section x
unfolding flat_map
text_sentences done = refl
text_sentences (extern at names rest) = names_sentences names (spell_text rest) ∙ text_sentences rest
text_sentences (function f rest) = function_sentences_lem f rest (text_sentences rest)
text_sentences (entry at f rest) = function_sentences_lem f rest (text_sentences rest)

-- ---- conditions

sentence_conditions_lem : (x : Sentence) (after : List Placed) → flat_conditions true (spell_sentence x after) ≡ conditions_in x ++ flat_conditions true after
sentence_conditions_lem x after =
    conditions_terms true x.pattern (spell_conditions x.conditions (sign_at x.equals_at equals ∷ spell_terms x.result after))
    ∙ rw (conditions_flat x.equals_at (spell_terms x.result after) x.conditions, conditions_terms true x.result after)

conditions_of_sentences : (ss : Sentences) (r : ℕ) (after : List Placed)
    → flat_conditions true (spell_sentences ss (sign_at r right_brace ∷ after)) ≡ flat_map conditions_in (sentence_list ss) ++ flat_conditions false after
unfolding flat_map
conditions_of_sentences (last x) r after = sentence_conditions_lem x (sign_at r right_brace ∷ after) ∙ rw (append-nil (conditions_in x))
conditions_of_sentences (last_closed x c) r after = sentence_conditions_lem x (sign_at c semicolon ∷ sign_at r right_brace ∷ after) ∙ rw (append-nil (conditions_in x))
conditions_of_sentences (more x c rest) r after =
    sentence_conditions_lem x (sign_at c semicolon ∷ spell_sentences rest (sign_at r right_brace ∷ after))
    ∙ rw (conditions_of_sentences rest r after) (sym (append_assoc (conditions_in x) (flat_map conditions_in (sentence_list rest)) (flat_conditions false after)))

names_conditions : (names : Names) (after : List Placed) → flat_conditions false (spell_names names after) ≡ flat_conditions false after
names_conditions (last_name i c) after = refl
names_conditions (more_names i c rest) after = names_conditions rest after

function_conditions : (f : Function) (rest : Text) → flat_conditions false (spell_text rest) ≡ condition_section rest
    → flat_conditions false (spell_function f (spell_text rest)) ≡ condition_section (function f rest)
unfolding flat_map
function_conditions f rest h =
    conditions_of_sentences f.sentences f.right_at (spell_text rest) ∙ rw h (sym (flatMap-append conditions_in (sentences_in f) (sentences_of rest)))

-- the condition records of a text
pub text_conditions : (x : Text) → flat_conditions false (spell_text x) ≡ condition_section x
unfolding flat_map
text_conditions done = refl
text_conditions (extern at names rest) = names_conditions names (spell_text rest) ∙ text_conditions rest
text_conditions (function f rest) = function_conditions f rest (text_conditions rest)
text_conditions (entry at f rest) = function_conditions f rest (text_conditions rest)

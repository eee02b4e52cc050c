-- The function records that are found from left to right are those of the text's phrase, and so is the whole file.
use Prim.Native.Nat.{ℕ, ◌+◌}
use mathlib.Core.List.{List, ◌∷◌}
use mathlib.Core.Bool.{false}
use mathlib.Core.Path.{◌≡◌, refl, ap, ◌∙◌}
use native.Mathlib.Omega.{arith}
use native.Mathlib.Nat.{zero-add}
use lib.ListN.{length}
use Rattle.law.specs.Tree.{symbol_kind, term_kind, expression_kind}
use Rattle.tokens.specs.Token.{right_brace, right_bracket, right_angle, colon, equals, semicolon, Atom, identifier, number, variable, quoted, Placed}
use Rattle.grammar.specs.Grammar.{sign_at, atom_at, Terms, nothing, atomic, bracket, call, Conditions, no_condition, condition, Sentence}
use Rattle.grammar.specs.Grammar.{Sentences, last, last_closed, more, Function, Names, last_name, more_names, Text, done, extern, function, entry}
use Rattle.grammar.specs.Grammar.{spell_terms, spell_conditions, spell_sentence, spell_sentences, spell_function, spell_names, spell_text}
use Rattle.encoding.specs.Encode.{sentence_list, sentences_in, function_record, function_section, encode}
use Rattle.encoding.specs.Code.FlatFile.{first_is, end_of_kind, count_to, flat_functions, flat_file}
use Rattle.encoding.proofs.FlatTerms.{flat_text}
use Rattle.encoding.proofs.FlatRuns.{end_of_terms, count_terms, first_terms}
use Rattle.encoding.proofs.FlatSentences.{first_conditions_lem, text_sentences, text_conditions}

-- ---- a function's sentences are counted by `=`, and its `}` is found

module _ (m : ℕ) (ys : List Placed) where
  abbrev spelled : Conditions → List Placed
  spelled cs = spell_conditions cs (sign_at m equals ∷ ys)

  count_conditions : (cs : Conditions) → count_to 61 125 (spelled cs) ≡ 1 + count_to 61 125 ys
  count_conditions no_condition = refl
  count_conditions (condition c x d y rest) =
      rw (count_terms 125 refl 61 refl x (sign_at d colon ∷ spell_terms y (spelled rest)), count_terms 125 refl 61 refl y (spelled rest), count_conditions rest) (omega arith)

  end_of_conditions : (cs : Conditions) → end_of_kind 125 (spelled cs) ≡ end_of_kind 125 ys
  end_of_conditions no_condition = refl
  end_of_conditions (condition c x d y rest) =
      end_of_terms 125 refl x (sign_at d colon ∷ spell_terms y (spelled rest)) ∙ (end_of_terms 125 refl y (spelled rest) ∙ end_of_conditions rest)

count_sentence : (x : Sentence) (after : List Placed) → count_to 61 125 (spell_sentence x after) ≡ 1 + count_to 61 125 after
count_sentence x after =
    let ys = spell_terms x.result after in
    count_terms 125 refl 61 refl x.pattern (spell_conditions x.conditions (sign_at x.equals_at equals ∷ ys))
    ∙ (count_conditions x.equals_at ys x.conditions ∙ ap (λ z. 1 + z) (count_terms 125 refl 61 refl x.result after))

end_of_sentence : (x : Sentence) (after : List Placed) → end_of_kind 125 (spell_sentence x after) ≡ end_of_kind 125 after
end_of_sentence x after =
    let ys = spell_terms x.result after in
    end_of_terms 125 refl x.pattern (spell_conditions x.conditions (sign_at x.equals_at equals ∷ ys))
    ∙ (end_of_conditions x.equals_at ys x.conditions ∙ end_of_terms 125 refl x.result after)

count_sentences : (ss : Sentences) (r : ℕ) (after : List Placed) → count_to 61 125 (spell_sentences ss (sign_at r right_brace ∷ after)) ≡ length (sentence_list ss)
count_sentences (last x) r after = count_sentence x (sign_at r right_brace ∷ after)
count_sentences (last_closed x c) r after = count_sentence x (sign_at c semicolon ∷ sign_at r right_brace ∷ after)
count_sentences (more x c rest) r after =
    count_sentence x (sign_at c semicolon ∷ spell_sentences rest (sign_at r right_brace ∷ after)) ∙ rw (count_sentences rest r after) (omega arith)

end_of_sentences : (ss : Sentences) (r : ℕ) (after : List Placed) → end_of_kind 125 (spell_sentences ss (sign_at r right_brace ∷ after)) ≡ r + 1
end_of_sentences (last x) r after = end_of_sentence x (sign_at r right_brace ∷ after)
end_of_sentences (last_closed x c) r after = end_of_sentence x (sign_at c semicolon ∷ sign_at r right_brace ∷ after)
end_of_sentences (more x c rest) r after = end_of_sentence x (sign_at c semicolon ∷ spell_sentences rest (sign_at r right_brace ∷ after)) ∙ end_of_sentences rest r after

-- ---- a name before `{` is a function's

functions_atom : (at : ℕ) (a : Atom) (ps : List Placed) → first_is 123 ps ≡ false → flat_functions (atom_at at a ∷ ps) ≡ flat_functions ps
functions_atom at (identifier w) ps h = rw h
functions_atom at (number w) ps h = refl
functions_atom at (variable symbol_kind w) ps h = refl
functions_atom at (variable term_kind w) ps h = refl
functions_atom at (variable expression_kind w) ps h = refl
functions_atom at (quoted w) ps h = refl

functions_terms : (t : Terms) (after : List Placed) → first_is 123 after ≡ false → flat_functions (spell_terms t after) ≡ flat_functions after
functions_terms nothing after h = refl
functions_terms (atomic at a rest) after h = functions_atom at a (spell_terms rest after) (first_terms 123 refl rest after h) ∙ functions_terms rest after h
functions_terms (bracket l t r rest) after h = functions_terms t (sign_at r right_bracket ∷ spell_terms rest after) refl ∙ functions_terms rest after h
functions_terms (call l f t r rest) after h =
    let later = sign_at r right_angle ∷ spell_terms rest after in
    functions_atom f.start (identifier f.spelled) (spell_terms t later) (first_terms 123 refl t later refl) ∙ (functions_terms t later refl ∙ functions_terms rest after h)

functions_conditions : (cs : Conditions) (m : ℕ) (ys : List Placed) → flat_functions (spell_conditions cs (sign_at m equals ∷ ys)) ≡ flat_functions ys
functions_conditions no_condition m ys = refl
functions_conditions (condition c x d y rest) m ys =
    let later = spell_conditions rest (sign_at m equals ∷ ys) in
    functions_terms x (sign_at d colon ∷ spell_terms y later) refl ∙ (functions_terms y later (first_conditions_lem m ys 123 refl refl rest) ∙ functions_conditions rest m ys)

functions_sentence : (x : Sentence) (after : List Placed) → first_is 123 after ≡ false → flat_functions (spell_sentence x after) ≡ flat_functions after
functions_sentence x after h =
    let m = x.equals_at in
    let ys = spell_terms x.result after in
    functions_terms x.pattern (spell_conditions x.conditions (sign_at m equals ∷ ys)) (first_conditions_lem m ys 123 refl refl x.conditions)
    ∙ (functions_conditions x.conditions m ys ∙ functions_terms x.result after h)

functions_sentences : (ss : Sentences) (r : ℕ) (after : List Placed) → flat_functions (spell_sentences ss (sign_at r right_brace ∷ after)) ≡ flat_functions after
functions_sentences (last x) r after = functions_sentence x (sign_at r right_brace ∷ after) refl
functions_sentences (last_closed x c) r after = functions_sentence x (sign_at c semicolon ∷ sign_at r right_brace ∷ after) refl
functions_sentences (more x c rest) r after =
    functions_sentence x (sign_at c semicolon ∷ spell_sentences rest (sign_at r right_brace ∷ after)) refl ∙ functions_sentences rest r after

functions_names : (names : Names) (after : List Placed) → flat_functions (spell_names names after) ≡ flat_functions after
functions_names (last_name i c) after = refl
functions_names (more_names i c rest) after = functions_names rest after

functions_function : (f : Function) (after : List Placed) → flat_functions (spell_function f after) ≡ function_record f ∷ flat_functions after
functions_function f after =
    rw (
      count_sentences f.sentences f.right_at after,
      end_of_sentences f.sentences f.right_at after,
      functions_sentences f.sentences f.right_at after,
      zero-add (length (sentences_in f)),
    )

-- the function records of a text
pub text_functions : (x : Text) → flat_functions (spell_text x) ≡ function_section x
text_functions done = refl
text_functions (extern at names rest) = functions_names names (spell_text rest) ∙ text_functions rest
text_functions (function f rest) = functions_function f (spell_text rest) ∙ ap (◌∷◌ (function_record f)) (text_functions rest)
text_functions (entry at f rest) = functions_function f (spell_text rest) ∙ ap (◌∷◌ (function_record f)) (text_functions rest)

-- ---- the file

pub encoded_flat : (bytes : List ℕ) (x : Text) → encode bytes x ≡ flat_file bytes (spell_text x)
unfolding encode
encoded_flat bytes x = rw (text_functions x, text_sentences x, text_conditions x, flat_text x)

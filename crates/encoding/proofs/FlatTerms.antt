-- The term records that are found from left to right are those of the text's phrase.
use Prim.Native.Nat.{ℕ, suc, ◌+◌}
use mathlib.Core.List.{List, [], ◌∷◌, ◌++◌, append_assoc, append-nil, flat_map}
use mathlib.Core.Path.{◌≡◌, refl, sym, ap, ◌∙◌}
use native.Mathlib.Omega.{arith}
use native.Mathlib.Nat.{zero-add, add-zero}
use lib.ListN.{length, length-append}
use Rattle.law.specs.Tree.{symbol_kind, term_kind, expression_kind}
use Rattle.tokens.specs.Token.{right_brace, right_bracket, right_angle, colon, equals, semicolon, Atom, identifier, number, variable, quoted, Placed}
use Rattle.grammar.specs.Grammar.{sign_at, atom_at, Terms, nothing, atomic, bracket, call, Conditions, no_condition, condition, Sentence}
use Rattle.grammar.specs.Grammar.{Sentences, last, last_closed, more, Function, Names, last_name, more_names, Text, done, extern, function, entry}
use Rattle.grammar.specs.Grammar.{spell_terms, spell_conditions, spell_sentence, spell_sentences, spell_function, spell_names, spell_text}
use Rattle.encoding.specs.Encode.{atom_records, term_records, condition_terms, sentence_terms, sentence_list, sentences_in, sentences_of, term_section}
use Rattle.encoding.specs.Code.FlatTerms.{outside, inside, Contents, add, scan, flat_terms}
use Rattle.encoding.proofs.Lists.{flatMap-append}

-- ---- the scan

add_add : (m n : ℕ) (r : Contents) → add m (add n r) ≡ add (m + n) r
add_add m n r = ap (λ z. record { records = z; end = r.end }) (sums r.records)
  where
    sums : (k : ℕ) → m + (n + k) ≡ m + n + k
    sums k = omega arith

add_none : (r : Contents) → add 0 r ≡ r
add_none r = ap (λ z. record { records = z; end = r.end }) (zero-add r.records)

add_three : (m n t : ℕ) (r : Contents) → suc (m + n) ≡ t → add 1 (add m (add n r)) ≡ add t r
add_three m n t r e = ap (λ z. record { records = z; end = r.end }) (sums r.records)
  where
    sums : (k : ℕ) → 1 + (m + (n + k)) ≡ t + k
    sums k = omega arith

scan_atom : (at : ℕ) (a : Atom) (d : ℕ) (ps : List Placed) → scan inside d (atom_at at a ∷ ps) ≡ add (length (atom_records at a)) (scan inside d ps)
scan_atom at (identifier w) d ps = refl
scan_atom at (number w) d ps = refl
scan_atom at (variable symbol_kind w) d ps = refl
scan_atom at (variable term_kind w) d ps = refl
scan_atom at (variable expression_kind w) d ps = refl
scan_atom at (quoted w) d ps = refl

-- it passes terms and counts their records
scan_terms : (t : Terms) (d : ℕ) (after : List Placed) → scan inside d (spell_terms t after) ≡ add (length (term_records t)) (scan inside d after)
unfolding term_records
scan_terms nothing d after = sym (add_none (scan inside d after))
scan_terms (atomic at a rest) d after =
    scan_atom at a d (spell_terms rest after)
    ∙ rw (scan_terms rest d after, length-append (atom_records at a) (term_records rest)) (add_add (length (atom_records at a)) (length (term_records rest)) (scan inside d after))
scan_terms (bracket l t r rest) d after =
    rw (scan_terms t (suc d) (sign_at r right_bracket ∷ spell_terms rest after), scan_terms rest d after)
    (add_three (length (term_records t)) (length (term_records rest)) (suc (length (term_records t ++ term_records rest))) (scan inside d after)
    (omega (arith, length-append (term_records t) (term_records rest))))
scan_terms (call l f t r rest) d after =
    ap (add 1) (add_none (scan inside (suc d) (spell_terms t (sign_at r right_angle ∷ spell_terms rest after))))
    ∙ rw (scan_terms t (suc d) (sign_at r right_angle ∷ spell_terms rest after), scan_terms rest d after)
    (add_three (length (term_records t)) (length (term_records rest)) (suc (length (term_records t ++ term_records rest))) (scan inside d after)
    (omega (arith, length-append (term_records t) (term_records rest))))

-- and ends at the sign after them
contents_found : (t : Terms) (r : ℕ) (p : Placed) (after : List Placed) → scan inside 0 (p ∷ after) ≡ record { records = 0; end = r + 1 }
    → scan inside 0 (spell_terms t (p ∷ after)) ≡ record { records = length (term_records t); end = r + 1 }
contents_found t r p after e =
    scan_terms t 0 (p ∷ after) ∙ ap (add (length (term_records t))) e ∙ ap (λ z. record { records = z; end = r + 1 }) (add-zero (length (term_records t)))

-- ---- term records

flat_atom : (at : ℕ) (a : Atom) (ps : List Placed) → flat_terms inside (atom_at at a ∷ ps) ≡ atom_records at a ++ flat_terms inside ps
flat_atom at (identifier w) ps = refl
flat_atom at (number w) ps = refl
flat_atom at (variable symbol_kind w) ps = refl
flat_atom at (variable term_kind w) ps = refl
flat_atom at (variable expression_kind w) ps = refl
flat_atom at (quoted w) ps = refl

flat_terms_lem : (t : Terms) (after : List Placed) → flat_terms inside (spell_terms t after) ≡ term_records t ++ flat_terms inside after
unfolding term_records
flat_terms_lem nothing after = refl
flat_terms_lem (atomic at a rest) after =
    flat_atom at a (spell_terms rest after) ∙ rw (flat_terms_lem rest after) (sym (append_assoc (atom_records at a) (term_records rest) (flat_terms inside after)))
flat_terms_lem (bracket l t r rest) after =
    rw (
      contents_found t r (sign_at r right_bracket) (spell_terms rest after) refl,
      flat_terms_lem t (sign_at r right_bracket ∷ spell_terms rest after),
      flat_terms_lem rest after,
      append_assoc (term_records t) (term_records rest) (flat_terms inside after),
    )
flat_terms_lem (call l f t r rest) after =
    let ps = spell_terms t (sign_at r right_angle ∷ spell_terms rest after) in
    ap (λ z. (7 ∷ f.start ∷ length f.spelled ∷ z.records ∷ l ∷ z.end ∷ []) ∷ flat_terms inside ps)
    (add_none (scan inside 0 ps) ∙ contents_found t r (sign_at r right_angle) (spell_terms rest after) refl)
    ∙ rw (
      flat_terms_lem t (sign_at r right_angle ∷ spell_terms rest after),
      flat_terms_lem rest after,
      append_assoc (term_records t) (term_records rest) (flat_terms inside after),
    )

flat_conditions_lem : (cs : Conditions) (after : List Placed) → flat_terms inside (spell_conditions cs after) ≡ condition_terms cs ++ flat_terms inside after
unfolding condition_terms
flat_conditions_lem no_condition after = refl
flat_conditions_lem (condition c x d y rest) after =
    rw (
      flat_terms_lem x (sign_at d colon ∷ spell_terms y (spell_conditions rest after)),
      flat_terms_lem y (spell_conditions rest after),
      flat_conditions_lem rest after,
      append_assoc (term_records x ++ term_records y) (condition_terms rest) (flat_terms inside after),
      append_assoc (term_records x) (term_records y) (condition_terms rest ++ flat_terms inside after),
    )

flat_sentence : (x : Sentence) (after : List Placed) → flat_terms inside (spell_sentence x after) ≡ sentence_terms x ++ flat_terms inside after
flat_sentence x after =
    rw (
      flat_terms_lem x.pattern (spell_conditions x.conditions (sign_at x.equals_at equals ∷ spell_terms x.result after)),
      flat_conditions_lem x.conditions (sign_at x.equals_at equals ∷ spell_terms x.result after),
      flat_terms_lem x.result after,
      append_assoc (term_records x.pattern ++ condition_terms x.conditions) (term_records x.result) (flat_terms inside after),
      append_assoc (term_records x.pattern) (condition_terms x.conditions) (term_records x.result ++ flat_terms inside after),
    )

flat_sentences_lem : (ss : Sentences) (after : List Placed) → flat_terms inside (spell_sentences ss after) ≡ flat_map sentence_terms (sentence_list ss) ++ flat_terms inside after
unfolding flat_map
flat_sentences_lem (last x) after = flat_sentence x after ∙ rw (append-nil (sentence_terms x))
flat_sentences_lem (last_closed x c) after = flat_sentence x (sign_at c semicolon ∷ after) ∙ rw (append-nil (sentence_terms x))
flat_sentences_lem (more x c rest) after =
    flat_sentence x (sign_at c semicolon ∷ spell_sentences rest after)
    ∙ rw (flat_sentences_lem rest after) (sym (append_assoc (sentence_terms x) (flat_map sentence_terms (sentence_list rest)) (flat_terms inside after)))

flat_names : (names : Names) (after : List Placed) → flat_terms outside (spell_names names after) ≡ flat_terms outside after
flat_names (last_name i c) after = refl
flat_names (more_names i c rest) after = flat_names rest after

flat_function : (f : Function) (rest : Text) → flat_terms outside (spell_text rest) ≡ term_section rest → flat_terms outside (spell_function f (spell_text rest)) ≡ term_section (function f rest)
unfolding flat_map
flat_function f rest h =
    flat_sentences_lem f.sentences (sign_at f.right_at right_brace ∷ spell_text rest) ∙ rw h (sym (flatMap-append sentence_terms (sentences_in f) (sentences_of rest)))

-- the term records of a text
pub flat_text : (x : Text) → flat_terms outside (spell_text x) ≡ term_section x
unfolding flat_map
flat_text done = refl
flat_text (extern at names rest) = flat_names names (spell_text rest) ∙ flat_text rest
flat_text (function f rest) = flat_function f rest (flat_text rest)
flat_text (entry at f rest) = flat_function f rest (flat_text rest)

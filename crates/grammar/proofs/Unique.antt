-- Every phrase is found again from its tokens, so that no tokens have two phrases.
use Prim.Native.Nat.{ℕ}
use mathlib.Core.List.{List, ◌∷◌}
use mathlib.Core.Bool.{Bool, true, false}
use mathlib.Core.Path.{◌≡◌, refl, sym, ap, ◌∙◌}
use Rattle.tokens.specs.Token.{Sign, right_brace, right_bracket, right_angle, comma, colon, equals, semicolon, Atom, identifier, Placed}
use Rattle.grammar.specs.Grammar.{sign_at, Identifier, Terms, nothing, atomic, bracket, call, Conditions, no_condition, condition}
use Rattle.grammar.specs.Grammar.{Sentence, Sentences, last, last_closed, more, Names, last_name, more_names, Text, done, extern, function}
use Rattle.grammar.specs.Grammar.{entry, spell_terms, spell_conditions, spell_sentence, spell_sentences, spell_names, spell_text}
use Rattle.grammar.specs.Parse.{◌⊕◌, Rows, end, row, front, bracket_before, call_before, rows_from, other, role, conditioned, with_condition, Body}
use Rattle.grammar.specs.Parse.{plain, closes_body, brace_next, brace_at, body_after, read_text, read_tail, read_names, read_body, phrase}

-- nothing after terms
pub plus_nothing : (t : Terms) → t ⊕ nothing ≡ t
plus_nothing nothing = refl
plus_nothing (atomic at a rest) = ap (atomic at a) (plus_nothing rest)
plus_nothing (bracket l inside r rest) = ap (bracket l inside r) (plus_nothing rest)
plus_nothing (call l f inside r rest) = ap (call l f inside r) (plus_nothing rest)

front_nothing : (rows : Rows) → front nothing rows ≡ rows
front_nothing (end t) = refl
front_nothing (row t at g rows) = refl

front_atomic : (at : ℕ) (a : Atom) (rest : Terms) (rows : Rows) → front (atomic at a nothing) (front rest rows) ≡ front (atomic at a rest) rows
front_atomic at a rest (end t) = refl
front_atomic at a rest (row t x g rows) = refl

front_bracket : (l : ℕ) (inside : Terms) (r : ℕ) (rest : Terms) (rows : Rows)
    → bracket_before l (front inside (row nothing r right_bracket (front rest rows))) ≡ front (bracket l inside r rest) rows
front_bracket l inside r rest (end t) = rw (plus_nothing inside)
front_bracket l inside r rest (row t x g rows) = rw (plus_nothing inside)

front_call : (l : ℕ) (f : Identifier) (inside : Terms) (r : ℕ) (rest : Terms) (rows : Rows)
    → call_before l (front (atomic f.start (identifier f.spelled) nothing) (front inside (row nothing r right_angle (front rest rows)))) ≡ front (call l f inside r rest) rows
front_call l f inside r rest (end t) = rw (plus_nothing inside)
front_call l f inside r rest (row t x g rows) = rw (plus_nothing inside)

-- the rows of spelled terms
pub rows_terms : (t : Terms) (after : List Placed) → rows_from (spell_terms t after) ≡ front t (rows_from after)
unfolding rows_from
rows_terms nothing after = sym (front_nothing (rows_from after))
rows_terms (atomic at a rest) after = rw (rows_terms rest after) (front_atomic at a rest (rows_from after))
rows_terms (bracket l inside r rest) after =
    rw (rows_terms inside (sign_at r right_bracket ∷ spell_terms rest after), rows_terms rest after) (front_bracket l inside r rest (rows_from after))
rows_terms (call l f inside r rest) after =
    rw (rows_terms inside (sign_at r right_angle ∷ spell_terms rest after), rows_terms rest after) (front_call l f inside r rest (rows_from after))

-- ---- phrases

abbrev sentence_of : Terms → Conditions → ℕ → Terms → Sentence
sentence_of p cs e r = record { pattern = p; conditions = cs; equals_at = e; result = r }

-- the last sentence, before `}`
body_last : (p : Terms) (cs : Conditions) (e : ℕ) (r : Terms) (c : ℕ) (after : List Placed)
    → read_body (rows_from (spell_sentence (sentence_of p cs e r) (sign_at c right_brace ∷ after))) ≡ (last (sentence_of p cs e r), c, read_text (rows_from after))
unfolding rows_from read_body
body_last p no_condition e r c after =
    rw (
      rows_terms p (sign_at e equals ∷ spell_terms r (sign_at c right_brace ∷ after)),
      rows_terms r (sign_at c right_brace ∷ after),
      plus_nothing p,
      plus_nothing r,
    )
body_last p (condition k a d q cs) e r c after =
    let rest = spell_conditions cs (sign_at e equals ∷ spell_terms r (sign_at c right_brace ∷ after)) in
    rw (
      rows_terms p (sign_at k comma ∷ spell_terms a (sign_at d colon ∷ spell_terms q rest)),
      rows_terms a (sign_at d colon ∷ spell_terms q rest),
      plus_nothing p,
      plus_nothing a,
      body_last q cs e r c after,
    )

-- a sentence before `;`
abbrev body_more : Sentence → ℕ → Bool → Rows → Body
body_more x c true rows = (last_closed x c, brace_at rows, read_tail rows)
body_more x c false rows = (more x c (read_body rows).0, (read_body rows).1, (read_body rows).2)

more_condition : (p : Terms) (k : ℕ) (a : Terms) (d : ℕ) (x : Sentence) (c : ℕ) (shut : Bool) (rows : Rows)
    → ◌≡◌ {A = Body} (with_condition p k a d (body_more x c shut rows).0, (body_more x c shut rows).1, (body_more x c shut rows).2) (body_more (conditioned p k a d x) c shut rows)
more_condition p k a d x c true rows = refl
more_condition p k a d x c false rows = refl

more_plain : (p : Terms) (e : ℕ) (r : Terms) (c : ℕ) (rows : Rows)
    → read_body (row p e equals (row r c semicolon rows)) ≡ body_more (plain p e r) c (brace_next rows) rows
unfolding read_body
more_plain p e r c rows = go (brace_next rows)
  where
    go : (b : Bool) → body_after other p e r c other b (read_body rows) (read_text rows) (brace_at rows) (read_tail rows) ≡ body_more (plain p e r) c b rows
    go true = refl
    go false = refl

comma_read : (p : Terms) (k : ℕ) (a : Terms) (d : ℕ) (rows : Rows)
    → read_body (row p k comma (row a d colon rows)) ≡ (with_condition p k a d (read_body rows).0, (read_body rows).1, (read_body rows).2)
unfolding read_body
comma_read p k a d rows = refl

body_more_lem : (p : Terms) (cs : Conditions) (e : ℕ) (r : Terms) (c : ℕ) (after : List Placed)
    → read_body (rows_from (spell_sentence (sentence_of p cs e r) (sign_at c semicolon ∷ after)))
    ≡ body_more (sentence_of p cs e r) c (brace_next (rows_from after)) (rows_from after)
unfolding rows_from
body_more_lem p no_condition e r c after =
    rw (
      rows_terms p (sign_at e equals ∷ spell_terms r (sign_at c semicolon ∷ after)),
      rows_terms r (sign_at c semicolon ∷ after),
      plus_nothing p,
      plus_nothing r,
    ) (more_plain p e r c (rows_from after))
body_more_lem p (condition k a d q cs) e r c after =
    let rest = spell_conditions cs (sign_at e equals ∷ spell_terms r (sign_at c semicolon ∷ after)) in
    rw (
      rows_terms p (sign_at k comma ∷ spell_terms a (sign_at d colon ∷ spell_terms q rest)),
      rows_terms a (sign_at d colon ∷ spell_terms q rest),
      plus_nothing p,
      plus_nothing a,
    )
    (comma_read p k a d (rows_from (spell_terms q rest))
    ∙ rw (body_more_lem q cs e r c after) (more_condition p k a d (sentence_of q cs e r) c (brace_next (rows_from after)) (rows_from after)))

-- a sentence does not begin with `}`
not_closed : (p : Terms) (at : ℕ) (g : Sign) (rows : Rows) → (closes_body nothing (role g) ≡ false) → brace_next (front p (row nothing at g rows)) ≡ false
not_closed nothing at g rows h = h
not_closed (atomic x a rest) at g rows h = refl
not_closed (bracket l inside r rest) at g rows h = refl
not_closed (call l f inside r rest) at g rows h = refl

sentence_begins_lem : (x : Sentence) (after : List Placed) → brace_next (rows_from (spell_sentence x after)) ≡ false
unfolding rows_from
sentence_begins_lem x after = go x.conditions
  where
    go : (cs : Conditions) → brace_next (rows_from (spell_terms x.pattern (spell_conditions cs (sign_at x.equals_at equals ∷ spell_terms x.result after)))) ≡ false
    go no_condition =
        rw (rows_terms x.pattern (sign_at x.equals_at equals ∷ spell_terms x.result after))
        (not_closed x.pattern x.equals_at equals (rows_from (spell_terms x.result after)) refl)
    go (condition k a d q cs) =
        let rest = spell_terms a (sign_at d colon ∷ spell_terms q (spell_conditions cs (sign_at x.equals_at equals ∷ spell_terms x.result after))) in
        rw (rows_terms x.pattern (sign_at k comma ∷ rest)) (not_closed x.pattern k comma (rows_from rest) refl)

sentences_begin : (ss : Sentences) (after : List Placed) → brace_next (rows_from (spell_sentences ss after)) ≡ false
sentences_begin (last x) after = sentence_begins_lem x after
sentences_begin (last_closed x c) after = sentence_begins_lem x (sign_at c semicolon ∷ after)
sentences_begin (more x c rest) after = sentence_begins_lem x (sign_at c semicolon ∷ spell_sentences rest after)

body_shut : (x : Sentence) (e c : ℕ) (after : List Placed)
    → body_more x e (brace_next (rows_from (sign_at c right_brace ∷ after))) (rows_from (sign_at c right_brace ∷ after)) ≡ (last_closed x e, c, read_text (rows_from after))
unfolding rows_from read_tail
body_shut x e c after = refl

-- the sentences of a function, before `}`
body_sentences : (ss : Sentences) (c : ℕ) (after : List Placed)
    → read_body (rows_from (spell_sentences ss (sign_at c right_brace ∷ after))) ≡ (ss, c, read_text (rows_from after))
body_sentences (last x) c after = body_last x.pattern x.conditions x.equals_at x.result c after
body_sentences (last_closed x e) c after = body_more_lem x.pattern x.conditions x.equals_at x.result e (sign_at c right_brace ∷ after) ∙ body_shut x e c after
body_sentences (more x e rest) c after =
    body_more_lem x.pattern x.conditions x.equals_at x.result e (spell_sentences rest (sign_at c right_brace ∷ after))
    ∙ rw (sentences_begin rest (sign_at c right_brace ∷ after), body_sentences rest c after)

names_read : (names : Names) (after : List Placed) → read_names (rows_from (spell_names names after)) ≡ (names, read_text (rows_from after))
unfolding rows_from read_names
names_read (last_name i c) after = refl
names_read (more_names i c rest) after = rw (names_read rest after)

-- a text is found again from its tokens
pub text_read : (text : Text) → phrase (spell_text text) ≡ text
unfolding phrase rows_from read_text
text_read done = refl
text_read (extern at names rest) = rw (names_read names (spell_text rest), text_read rest)
text_read (function f rest) = rw (body_sentences f.sentences f.right_at (spell_text rest), text_read rest)
text_read (entry at f rest) = rw (body_sentences f.sentences f.right_at (spell_text rest), text_read rest)

-- no tokens have two phrases
pub spelled_once : (x y : Text) → spell_text x ≡ spell_text y → x ≡ y
spelled_once x y h = sym (text_read x) ∙ ap phrase h ∙ text_read y

-- The piece that the lexer takes: a token is the longest that fits, `next_longest`, `longest_next`.
use Prim.Native.Nat.{ℕ, ◌≤◌, ◌<◌}
use mathlib.Core.List.{List, [], ◌∷◌, ◌++◌, append_assoc, nil≢cons}
use mathlib.Core.Bool.{Bool, true, false, cond, ◌&&◌, ◌||◌, false≢true}
use mathlib.Core.Logic.{◌⊎◌, inl, inr}
use mathlib.Core.Option.{Option, none, some, some-injective, none-ne-some}
use mathlib.Core.Path.{◌≡◌, refl, sym, ap, ◌∙◌}
use native.Mathlib.Omega.{arith}
use lib.ListN.{length, drop, length-append}
use lib.Dec.{leb, eqb}
use borrow.Author.Tests.{leb-true, eqb-true, eq-eqb, lt-leb}
use Rattle.names.specs.Name.{between, digit_byte, letter_byte, name_byte, every_byte}
use Rattle.file.specs.Fields.{scalar_allowed}
use Rattle.file.proofs.Below.{both, both_first, both_second, second_fails_lem}
use Rattle.law.specs.Tree.{Kind, symbol_kind, term_kind, expression_kind}
use Rattle.tokens.specs.Token.{characters_bytes, Sign, left_brace, right_brace, left_bracket, right_bracket, left_angle, right_angle, comma, colon}
use Rattle.tokens.specs.Token.{equals, semicolon, dollar_entry, dollar_extern, sign_bytes, identifier, number, variable, quoted, quotable}
use Rattle.tokens.specs.Token.{atom_allowed, kind_byte, atom_bytes, Token, sign, atom, token_allowed, token_bytes, Blank, space, tab, line_feed}
use Rattle.tokens.specs.Token.{carriage_return, blank_byte, Piece, blank, comment, token, unclosed, piece_allowed, piece_bytes, Fits, Longest, Stands}
use Rattle.tokens.specs.Lex.{leading, begins, characters_to, at_quote, at_close, variable_kind, index_after, identifier_or_variable, guess, checked, next}
use Rattle.tokens.proofs.Utf8.{characters_fewer, to_quote, to_close}
use Rattle.tokens.proofs.Begins.{eqb_self, begins_append, begins_all, begins_found, leading_every, leading_begins, leading_append, every_append, grown}

-- ---- the next piece

-- a guess that is allowed and stands there is taken
pub next_takes : (s : List ℕ) (p : Piece) → guess s ≡ some p → piece_allowed p ≡ true → begins (piece_bytes p) s ≡ true → next s ≡ some p
unfolding next
next_takes s p g a b = rw (g, a, b)

-- what is taken is allowed and stands there
pub record Taken (s : List ℕ) (p : Piece) : Type 0 where
  pub allowed : piece_allowed p ≡ true
  pub begun : begins (piece_bytes p) s ≡ true

pub next_sound : (s : List ℕ) (p : Piece) → next s ≡ some p → Taken s p
unfolding next
next_sound s p h = go (guess s) h
  where
    test : (q : Piece) (b : Bool) → (piece_allowed q && begins (piece_bytes q) s) ≡ b → cond b (some q) none ≡ some p → Taken s p
    test q false e k = absurd (none-ne-some p k)
    test q true e k =
        let same : q ≡ p = some-injective q p k in
        record {
          allowed = rw (← same) (both_first (piece_allowed q) (begins (piece_bytes q) s) e);
          begun = rw (← same) (both_second (piece_allowed q) (begins (piece_bytes q) s) e);
        }

    go : (o : Option Piece) → checked s o ≡ some p → Taken s p
    go none k = absurd (none-ne-some p k)
    go (some q) k = test q (piece_allowed q && begins (piece_bytes q) s) refl k

pub next_whole : (s : List ℕ) (p : Piece) → next s ≡ some p → piece_bytes p ++ drop (length (piece_bytes p)) s ≡ s
next_whole s p h = begins_found (piece_bytes p) s (next_sound s p h).begun

-- ---- each kind of token, before any bytes

pub sign_next : (g : Sign) (r : List ℕ) → next (sign_bytes g ++ r) ≡ some (token (sign g))
unfolding next guess begins
sign_next left_brace r = refl
sign_next right_brace r = refl
sign_next left_bracket r = refl
sign_next right_bracket r = refl
sign_next left_angle r = refl
sign_next right_angle r = refl
sign_next comma r = refl
sign_next colon r = refl
sign_next equals r = refl
sign_next semicolon r = refl
sign_next dollar_entry r = refl
sign_next dollar_extern r = refl

pub blank_next : (b : Blank) (r : List ℕ) → next (blank_byte b ∷ r) ≡ some (blank b)
unfolding next guess begins
blank_next space r = refl
blank_next tab r = refl
blank_next line_feed r = refl
blank_next carriage_return r = refl

pub comment_next : (cs r : List ℕ) → piece_allowed (comment cs) ≡ true → next (piece_bytes (comment cs) ++ r) ≡ some (comment cs)
unfolding guess
comment_next cs r h =
    next_takes (piece_bytes (comment cs) ++ r) (comment cs) guessed h (begins_all (piece_bytes (comment cs)) r)
  where
    found : characters_to at_close (length (42 ∷ (characters_bytes cs ++ (42 ∷ 47 ∷ [])) ++ r)) ((characters_bytes cs ++ (42 ∷ 47 ∷ [])) ++ r) ≡ cs
    found = rw (append_assoc (characters_bytes cs) (42 ∷ 47 ∷ []) r)
        (to_close cs r (length (42 ∷ (characters_bytes cs ++ 42 ∷ 47 ∷ r))) (both_first (every_byte scalar_allowed cs) (unclosed cs) h) (both_second (every_byte scalar_allowed cs) (unclosed cs) h)
        (omega (arith, characters_fewer cs, length-append (characters_bytes cs) (42 ∷ 47 ∷ r))))

    guessed : guess (piece_bytes (comment cs) ++ r) ≡ some (comment cs)
    guessed = ap (λ z. some (comment z)) found

-- ---- a token that fits is taken, or a longer one is

-- the lexer takes this token where these bytes begin, or a longer one
pub record Stretch (t : Token) (s : List ℕ) : Type 0 where
  pub found : Token
  pub takes : next s ≡ some (token found)
  pub longer : (found ≡ t) ⊎ (length (token_bytes t) < length (token_bytes found))

lengthen : (f : List ℕ → Token) (x y : List ℕ) → (length x < length (x ++ y) → length (token_bytes (f x)) < length (token_bytes (f (x ++ y))))
    → (f (x ++ y) ≡ f x) ⊎ (length (token_bytes (f x)) < length (token_bytes (f (x ++ y))))
lengthen f x y k = go (grown x y)
  where
    go : (x ++ y ≡ x) ⊎ (length x < length (x ++ y)) → (f (x ++ y) ≡ f x) ⊎ (length (token_bytes (f x)) < length (token_bytes (f (x ++ y))))
    go (inl e) = inl (ap f e)
    go (inr l) = inr (k l)

letter_not_digit : (c : ℕ) → letter_byte c ≡ true → digit_byte c ≡ false
letter_not_digit c h = second_fails_lem (leb 48 c) (leb c 57) (lt-leb c 57 (go (between 97 122 c) refl h))
  where
    go : (b : Bool) → between 97 122 c ≡ b → b || between 65 90 c ≡ true → 57 < c
    go true e k = let l : 97 ≤ c = leb-true 97 c (both_first (leb 97 c) (leb c 122) e) in omega arith
    go false e k = let l : 65 ≤ c = leb-true 65 c (both_first (leb 65 c) (leb c 90) k) in omega arith

-- a number to its end
pub number_next : (d : ℕ) (ds r : List ℕ) → atom_allowed (number (d ∷ ds)) ≡ true → next (d ∷ ds ++ r) ≡ some (token (atom (number (d ∷ ds ++ leading digit_byte r))))
unfolding guess every_byte begins
number_next d ds r h =
    let first : digit_byte d ≡ true = both_first (digit_byte d) (every_byte digit_byte ds) h in
    let rest : every_byte digit_byte ds ≡ true = both_second (digit_byte d) (every_byte digit_byte ds) h in
    next_takes (d ∷ ds ++ r) (token (atom (number (d ∷ ds ++ leading digit_byte r))))
    (rw (first, leading_append digit_byte ds r rest))
    (both (digit_byte d) (every_byte digit_byte (ds ++ leading digit_byte r)) first (every_append digit_byte ds (leading digit_byte r) rest (leading_every digit_byte r)))
    (both (eqb d d) (begins (ds ++ leading digit_byte r) (ds ++ r)) (eqb_self d) (begins_append ds (leading digit_byte r) r ∙ leading_begins digit_byte r))

number_stretch : (d : ℕ) (ds r : List ℕ) → atom_allowed (number (d ∷ ds)) ≡ true → Stretch (atom (number (d ∷ ds))) (d ∷ ds ++ r)
number_stretch d ds r h =
    record {
      found = atom (number (d ∷ ds ++ leading digit_byte r));
      takes = number_next d ds r h;
      longer = lengthen (λ x. atom (number (d ∷ x))) ds (leading digit_byte r) (λ l. omega arith);
    }

-- an identifier that the lexer takes to be one
pub identifier_next : (c : ℕ) (cs r : List ℕ) → atom_allowed (identifier (c ∷ cs)) ≡ true
    → identifier_or_variable (variable_kind c) (index_after (cs ++ r)) c (cs ++ r) ≡ identifier (c ∷ leading name_byte (cs ++ r))
    → next (c ∷ cs ++ r) ≡ some (token (atom (identifier (c ∷ cs ++ leading name_byte r))))
unfolding guess begins
identifier_next c cs r h w =
    let first : letter_byte c ≡ true = both_first (letter_byte c) (every_byte name_byte cs) h in
    let rest : every_byte name_byte cs ≡ true = both_second (letter_byte c) (every_byte name_byte cs) h in
    next_takes (c ∷ cs ++ r) (token (atom (identifier (c ∷ cs ++ leading name_byte r))))
    (rw (letter_not_digit c first, first, w, leading_append name_byte cs r rest))
    (both (letter_byte c) (every_byte name_byte (cs ++ leading name_byte r)) first (every_append name_byte cs (leading name_byte r) rest (leading_every name_byte r)))
    (both (eqb c c) (begins (cs ++ leading name_byte r) (cs ++ r)) (eqb_self c) (begins_append cs (leading name_byte r) r ∙ leading_begins name_byte r))

identifier_stretch : (c : ℕ) (cs r : List ℕ) → atom_allowed (identifier (c ∷ cs)) ≡ true
    → identifier_or_variable (variable_kind c) (index_after (cs ++ r)) c (cs ++ r) ≡ identifier (c ∷ leading name_byte (cs ++ r)) → Stretch (atom (identifier (c ∷ cs))) (c ∷ cs ++ r)
identifier_stretch c cs r h w =
    record {
      found = atom (identifier (c ∷ cs ++ leading name_byte r));
      takes = identifier_next c cs r h w;
      longer = lengthen (λ x. atom (identifier (c ∷ x))) cs (leading name_byte r) (λ l. omega arith);
    }

name_no_point : (d : ℕ) → name_byte d ≡ true → eqb d 46 ≡ false
name_no_point d h = go (eqb d 46) refl
  where
    go : (b : Bool) → eqb d 46 ≡ b → b ≡ false
    go false e = refl
    go true e = absurd (false≢true (rw (eqb-true d 46 e) at h))

-- the letter of a kind
pub kind_byte_lem : (c : ℕ) (k : Kind) → variable_kind c ≡ some k → kind_byte k ≡ c
kind_byte_lem c k h = go (eqb c 115) (eqb c 116) (eqb c 101) refl refl refl h
  where
    go : (x y z : Bool) → eqb c 115 ≡ x → eqb c 116 ≡ y → eqb c 101 ≡ z
        → cond x (some symbol_kind) (cond y (some term_kind) (cond z (some expression_kind) none)) ≡ some k → kind_byte k ≡ c
    go true y z p q w e = rw (← some-injective symbol_kind k e) (sym (eqb-true c 115 p))
    go false true z p q w e = rw (← some-injective term_kind k e) (sym (eqb-true c 116 q))
    go false false true p q w e = rw (← some-injective expression_kind k e) (sym (eqb-true c 101 w))
    go false false false p q w e = absurd (none-ne-some k e)

-- a point and an index
pub index_begins : (s : List ℕ) (x : ℕ) (i : List ℕ) → index_after s ≡ x ∷ i → (begins (46 ∷ x ∷ i) s ≡ true) × (every_byte name_byte (x ∷ i) ≡ true)
unfolding index_after begins
index_begins [] x i h = absurd (nil≢cons h)
index_begins (d ∷ s) x i h = go (eqb d 46) refl h
  where
    go : (b : Bool) → eqb d 46 ≡ b → cond b (leading name_byte s) [] ≡ x ∷ i → (eqb 46 d && begins (x ∷ i) s ≡ true) × (every_byte name_byte (x ∷ i) ≡ true)
    go false e k = absurd (nil≢cons k)
    go true e k = (both (eqb 46 d) (begins (x ∷ i) s) (eq-eqb 46 d (sym (eqb-true d 46 e))) (rw (← k) (leading_begins name_byte s)), rw (← k) (leading_every name_byte s))

-- an identifier that is the beginning of a variable
pub variable_next : (c : ℕ) (k : Kind) (x : ℕ) (i r : List ℕ) → letter_byte c ≡ true → variable_kind c ≡ some k → index_after r ≡ x ∷ i
    → next (c ∷ r) ≡ some (token (atom (variable k (x ∷ i))))
unfolding guess begins
variable_next c k x i r first e f =
    next_takes (c ∷ r) (token (atom (variable k (x ∷ i))))
    (rw (letter_not_digit c first, first, e, f))
    (index_begins r x i f).1
    (both (eqb (kind_byte k) c) (begins (46 ∷ x ∷ i) r) (eq-eqb (kind_byte k) c (kind_byte_lem c k e)) (index_begins r x i f).0)

variable_stretch : (c : ℕ) (k : Kind) (x : ℕ) (i r : List ℕ) → letter_byte c ≡ true → variable_kind c ≡ some k → index_after r ≡ x ∷ i → Stretch (atom (identifier (c ∷ []))) (c ∷ r)
variable_stretch c k x i r first e f = record { found = atom (variable k (x ∷ i)); takes = variable_next c k x i r first e f; longer = inr (omega arith) }

pointless : (c d : ℕ) (ds r : List ℕ) → atom_allowed (identifier (c ∷ d ∷ ds)) ≡ true → index_after (d ∷ ds ++ r) ≡ []
unfolding index_after every_byte
pointless c d ds r a = rw (name_no_point d (both_first (name_byte d) (every_byte name_byte ds) (both_second (letter_byte c) (every_byte name_byte (d ∷ ds)) a)))

letter_stretch : (c : ℕ) (cs r : List ℕ) → atom_allowed (identifier (c ∷ cs)) ≡ true → Stretch (atom (identifier (c ∷ cs))) (c ∷ cs ++ r)
letter_stretch c cs r h = go cs h (variable_kind c) (index_after (cs ++ r)) refl refl
  where
    first : letter_byte c ≡ true
    first = both_first (letter_byte c) (every_byte name_byte cs) h

    same : (ds : List ℕ) (o : Option Kind) (i : List ℕ) → variable_kind c ≡ o → index_after (ds ++ r) ≡ i
        → identifier_or_variable o i c (ds ++ r) ≡ identifier (c ∷ leading name_byte (ds ++ r))
        → identifier_or_variable (variable_kind c) (index_after (ds ++ r)) c (ds ++ r) ≡ identifier (c ∷ leading name_byte (ds ++ r))
    same ds o i p q e = rw (p, q) e

    go : (ds : List ℕ) → atom_allowed (identifier (c ∷ ds)) ≡ true → (o : Option Kind) (i : List ℕ) → variable_kind c ≡ o → index_after (ds ++ r) ≡ i → Stretch (atom (identifier (c ∷ ds))) (c ∷ ds ++ r)
    go ds a none i p q = identifier_stretch c ds r a (same ds none i p q refl)
    go ds a (some k) [] p q = identifier_stretch c ds r a (same ds (some k) [] p q refl)
    go [] a (some k) (x ∷ i) p q = variable_stretch c k x i r first p q
    go (d ∷ ds) a (some k) (x ∷ i) p q = absurd (nil≢cons (sym (pointless c d ds r a) ∙ q))

kind_guess : (k : Kind) (s : List ℕ) → guess (kind_byte k ∷ s) ≡ some (token (atom (identifier_or_variable (some k) (index_after s) (kind_byte k) s)))
unfolding guess
kind_guess symbol_kind s = refl
kind_guess term_kind s = refl
kind_guess expression_kind s = refl

indexed_stretch : (k : Kind) (x : ℕ) (i r : List ℕ) → atom_allowed (variable k (x ∷ i)) ≡ true → Stretch (atom (variable k (x ∷ i))) (kind_byte k ∷ 46 ∷ x ∷ i ++ r)
unfolding index_after
indexed_stretch k x i r h =
    record {
      found = atom (variable k (x ∷ i ++ leading name_byte r));
      takes =
          next_takes (kind_byte k ∷ 46 ∷ x ∷ i ++ r) (token (atom (variable k (x ∷ i ++ leading name_byte r))))
          (kind_guess k (46 ∷ x ∷ i ++ r) ∙ rw (leading_append name_byte (x ∷ i) r h))
          (every_append name_byte (x ∷ i) (leading name_byte r) h (leading_every name_byte r))
          (begins_append (kind_byte k ∷ 46 ∷ x ∷ i) (leading name_byte r) r ∙ leading_begins name_byte r);
      longer = lengthen (λ y. atom (variable k (x ∷ y))) i (leading name_byte r) (λ l. omega arith);
    }

-- a quoted run
pub quoted_next : (cs r : List ℕ) → every_byte quotable cs ≡ true → atom_allowed (quoted cs) ≡ true → next (atom_bytes (quoted cs) ++ r) ≡ some (token (atom (quoted cs)))
unfolding guess
quoted_next cs r q h =
    next_takes (atom_bytes (quoted cs) ++ r) (token (atom (quoted cs))) (ap (λ z. some (token (atom (quoted z)))) found) h (begins_all (atom_bytes (quoted cs)) r)
  where
    found : characters_to at_quote (length ((characters_bytes cs ++ (39 ∷ [])) ++ r)) ((characters_bytes cs ++ (39 ∷ [])) ++ r) ≡ cs
    found = rw (append_assoc (characters_bytes cs) (39 ∷ []) r)
        (to_quote cs r (length (characters_bytes cs ++ 39 ∷ r)) q (omega (arith, characters_fewer cs, length-append (characters_bytes cs) (39 ∷ r))))

-- where a token fits, it or a longer one is taken
pub stretch : (t : Token) (r : List ℕ) → token_allowed t ≡ true → Stretch t (token_bytes t ++ r)
stretch (sign g) r h = record { found = sign g; takes = sign_next g r; longer = inl refl }
stretch (atom (identifier [])) r h = absurd (false≢true h)
stretch (atom (identifier (c ∷ cs))) r h = letter_stretch c cs r h
stretch (atom (number [])) r h = absurd (false≢true h)
stretch (atom (number (d ∷ ds))) r h = number_stretch d ds r h
stretch (atom (variable k [])) r h = absurd (false≢true h)
stretch (atom (variable k (x ∷ i))) r h = indexed_stretch k x i r h
stretch (atom (quoted [])) r h = absurd (false≢true h)
stretch (atom (quoted (c ∷ cs))) r h = record { found = atom (quoted (c ∷ cs)); takes = quoted_next (c ∷ cs) r h h; longer = inl refl }

token_of : Piece → Token → Token
token_of (blank b) t = t
token_of (comment cs) t = t
token_of (token u) t = u

token_same : (t u : Token) → token t ≡ token u → t ≡ u
unfolding token_of
token_same t u h = ap (λ p. token_of p t) h

-- the token that the lexer takes is the longest that fits
pub next_longest : (s : List ℕ) (t : Token) → next s ≡ some (token t) → Longest t s
next_longest s t h u f =
    let st : Stretch u s = rw f.whole at (stretch u f.after f.allowed) in
    let same : st.found ≡ t = token_same st.found t (some-injective (token st.found) (token t) (sym st.takes ∙ h)) in
    go st same st.longer
  where
    go : (st : Stretch u s) → st.found ≡ t → (st.found ≡ u) ⊎ (length (token_bytes u) < length (token_bytes st.found)) → length (token_bytes u) ≤ length (token_bytes t)
    go st same (inl e) = rw (sym e ∙ same) (omega arith)
    go st same (inr l) = rw (← same) (omega arith)

-- and the longest that fits is the token that the lexer takes
pub longest_next : (t : Token) (r : List ℕ) → token_allowed t ≡ true → Longest t (token_bytes t ++ r) → next (token_bytes t ++ r) ≡ some (token t)
longest_next t r a l = go (stretch t r a)
  where
    go : Stretch t (token_bytes t ++ r) → next (token_bytes t ++ r) ≡ some (token t)
    go st = pick st.longer
      where
        fit : Fits st.found (token_bytes t ++ r)
        fit =
            record {
              allowed = (next_sound (token_bytes t ++ r) (token st.found) st.takes).allowed;
              after = drop (length (token_bytes st.found)) (token_bytes t ++ r);
              whole = next_whole (token_bytes t ++ r) (token st.found) st.takes;
            }

        pick : (st.found ≡ t) ⊎ (length (token_bytes t) < length (token_bytes st.found)) → next (token_bytes t ++ r) ≡ some (token t)
        pick (inl e) = st.takes ∙ ap (λ z. some (token z)) e
        pick (inr k) = let z : ⊥ = omega (arith, l st.found fit) in absurd z

-- the same of any piece
pub piece_next : (p : Piece) (r : List ℕ) → piece_allowed p ≡ true → Stands p (piece_bytes p ++ r) → next (piece_bytes p ++ r) ≡ some p
piece_next (blank b) r a l = blank_next b r
piece_next (comment cs) r a l = comment_next cs r a
piece_next (token t) r a l = longest_next t r a l

pub next_stands : (s : List ℕ) (p : Piece) → next s ≡ some p → Stands p s
next_stands s (blank b) h = tt
next_stands s (comment cs) h = tt
next_stands s (token t) h = next_longest s t h

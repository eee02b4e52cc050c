-- The lexer finds the pieces of a text, `lexed_found`, and nothing else, `found_lexed`. So a text has its pieces in one way, `lexed_once`.
use Prim.Native.Nat.{ℕ, zero, suc, ◌≤◌}
use mathlib.Core.List.{List, [], ◌∷◌, ◌++◌}
use mathlib.Core.Bool.{true, false≢true}
use mathlib.Core.Option.{Option, none, some, some-injective, none-ne-some}
use mathlib.Core.Path.{◌≡◌, refl, sym, ◌∙◌}
use native.Mathlib.Omega.{arith}
use lib.ListN.{length, drop, length-append}
use lib.Seq.{drop-append_seam}
use Rattle.tokens.specs.Token.{Sign, left_brace, right_brace, left_bracket, right_bracket, left_angle, right_angle, comma, colon, equals}
use Rattle.tokens.specs.Token.{semicolon, dollar_entry, dollar_extern, sign_bytes, Atom, identifier, number, variable, quoted, atom_allowed}
use Rattle.tokens.specs.Token.{atom_bytes, sign, atom, Piece, blank, comment, token, piece_allowed, piece_bytes, pieces_bytes, Lexed}
use Rattle.tokens.specs.Lex.{guess, next, piece_before, lex_from, lex}
use Rattle.tokens.proofs.NextPiece.{next_sound, next_whole, piece_next, next_stands}

-- ---- all pieces of a text

atom_some : (a : Atom) → atom_allowed a ≡ true → 1 ≤ length (atom_bytes a)
atom_some (identifier []) h = absurd (false≢true h)
atom_some (identifier (c ∷ cs)) h = omega arith
atom_some (number []) h = absurd (false≢true h)
atom_some (number (c ∷ cs)) h = omega arith
atom_some (variable k i) h = omega arith
atom_some (quoted cs) h = omega arith

sign_some : (g : Sign) → 1 ≤ length (sign_bytes g)
sign_some left_brace = omega arith
sign_some right_brace = omega arith
sign_some left_bracket = omega arith
sign_some right_bracket = omega arith
sign_some left_angle = omega arith
sign_some right_angle = omega arith
sign_some comma = omega arith
sign_some colon = omega arith
sign_some equals = omega arith
sign_some semicolon = omega arith
sign_some dollar_entry = omega arith
sign_some dollar_extern = omega arith

-- a piece has at least one byte
pub piece_some : (p : Piece) → piece_allowed p ≡ true → 1 ≤ length (piece_bytes p)
piece_some (blank b) h = omega arith
piece_some (comment cs) h = omega arith
piece_some (token (sign g)) h = sign_some g
piece_some (token (atom a)) h = atom_some a h

-- nothing is left
pub lex_end : (k : ℕ) → lex_from k [] ≡ some []
unfolding lex_from
lex_end zero = refl
lex_end (suc k) = refl

lex_step : (k : ℕ) (s : List ℕ) (p : Piece) (ps : List Piece) → next s ≡ some p → lex_from k (drop (length (piece_bytes p)) s) ≡ some ps → lex_from (suc k) s ≡ some (p ∷ ps)
unfolding lex_from next guess
lex_step k [] p ps h e = absurd (none-ne-some p h)
lex_step k (c ∷ s) p ps h e = go (next (c ∷ s)) h
  where
    go : (o : Option Piece) → o ≡ some p
        → elim o as (λ _. Option (List Piece)) [ none ↦ none | some q ↦ piece_before q (lex_from k (drop (length (piece_bytes q)) (c ∷ s))) ] ≡ some (p ∷ ps)
    go none h = absurd (none-ne-some p h)
    go (some q) h = rw (some-injective q p h, e)

lex_complete : (ps : List Piece) (k : ℕ) → Lexed ps → length (pieces_bytes ps) ≤ k → lex_from k (pieces_bytes ps) ≡ some ps
unfolding pieces_bytes
lex_complete [] k h l = lex_end k
lex_complete (p ∷ ps) zero h l =
    let z : ⊥ = omega (arith, piece_some p h.0, length-append (piece_bytes p) (pieces_bytes ps)) in
    absurd z
lex_complete (p ∷ ps) (suc k) h l =
    lex_step k (piece_bytes p ++ pieces_bytes ps) p ps (piece_next p (pieces_bytes ps) h.0 h.1)
    (rw (drop-append_seam (piece_bytes p) (pieces_bytes ps))
    (lex_complete ps k h.2 (omega (arith, piece_some p h.0, length-append (piece_bytes p) (pieces_bytes ps)))))

-- these bytes are made of these pieces
pub record Split (s : List ℕ) (ps : List Piece) : Type 0 where
  pub whole : pieces_bytes ps ≡ s
  pub lexed : Lexed ps

split_none : (ps : List Piece) → some [] ≡ some ps → Split [] ps
unfolding pieces_bytes
split_none ps h = rw (← some-injective [] ps h) (record { whole = refl; lexed = tt })

split_more : (s : List ℕ) (p : Piece) (ps : List Piece) → next s ≡ some p → Split (drop (length (piece_bytes p)) s) ps → Split s (p ∷ ps)
unfolding pieces_bytes
split_more s p ps h rest =
    let whole : piece_bytes p ++ pieces_bytes ps ≡ s = rw rest.whole (next_whole s p h) in
    record {
      whole = whole;
      lexed = ((next_sound s p h).allowed, rw whole (next_stands s p h), rest.lexed);
    }

lex_sound : (k : ℕ) (s : List ℕ) (ps : List Piece) → lex_from k s ≡ some ps → Split s ps
unfolding lex_from
lex_sound zero [] ps h = split_none ps h
lex_sound zero (c ∷ s) ps h = absurd (none-ne-some ps h)
lex_sound (suc k) [] ps h = split_none ps h
lex_sound (suc k) (c ∷ s) ps h = go (next (c ∷ s)) refl (λ r qs q. lex_sound k r qs q) h
  where
    later : (p : Piece) → next (c ∷ s) ≡ some p → (o : Option (List Piece)) → lex_from k (drop (length (piece_bytes p)) (c ∷ s)) ≡ o
        → ((qs : List Piece) → o ≡ some qs → Split (drop (length (piece_bytes p)) (c ∷ s)) qs) → piece_before p o ≡ some ps → Split (c ∷ s) ps
    later p e none f ih k = absurd (none-ne-some ps k)
    later p e (some qs) f ih k = rw (← some-injective (p ∷ qs) ps k) (split_more (c ∷ s) p qs e (ih qs refl))

    go : (o : Option Piece) → next (c ∷ s) ≡ o → ((r : List ℕ) (qs : List Piece) → lex_from k r ≡ some qs → Split r qs)
        → elim o as (λ _. Option (List Piece)) [ none ↦ none | some p ↦ piece_before p (lex_from k (drop (length (piece_bytes p)) (c ∷ s))) ] ≡ some ps → Split (c ∷ s) ps
    go none e ih h = absurd (none-ne-some ps h)
    go (some p) e ih h =
        later p e (lex_from k (drop (length (piece_bytes p)) (c ∷ s))) refl (λ qs q. ih (drop (length (piece_bytes p)) (c ∷ s)) qs q) h

-- ---- the lexer

-- what is made of pieces is found
pub lexed_found : (ps : List Piece) → Lexed ps → lex (pieces_bytes ps) ≡ some ps
unfolding lex
lexed_found ps h = lex_complete ps (length (pieces_bytes ps)) h (omega arith)

-- what is found are the pieces of the text
pub found_lexed : (s : List ℕ) (ps : List Piece) → lex s ≡ some ps → Split s ps
unfolding lex
found_lexed s ps h = lex_sound (length s) s ps h

-- a text has its pieces in one way
pub lexed_once : (ps qs : List Piece) → Lexed ps → Lexed qs → pieces_bytes ps ≡ pieces_bytes qs → ps ≡ qs
lexed_once ps qs h k e = some-injective ps qs (sym (lexed_found ps h) ∙ rw e (lexed_found qs k))

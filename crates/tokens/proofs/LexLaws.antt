-- Laws for the loop over the pieces of a text, which puts their tokens into an array.
use Prim.Native.Nat.{ℕ, zero, suc, ◌+◌, ◌≤◌, ◌<◌}
use mathlib.Core.List.{List, [], ◌∷◌, ◌++◌, append_assoc, append-nil}
use mathlib.Core.Option.{none, some, some-injective, none-ne-some, Option as Choice}
use mathlib.Core.Path.{◌≡◌, refl, sym, ap, ◌∙◌}
use native.Mathlib.Omega.{arith}
use native.Mathlib.Numerals.{add-one}
use native.Mathlib.Nat.{add-zero, add_assoc}
use lib.ListN.{length, drop, get_or, set, drop_of_length-le, length-append, length-drop, length-set}
use lib.Seq.{drop-cons, drop-drop, take-suc-set}
use Rattle.std.proofs.Common.{Some, None, map}
use Rattle.std.proofs.lemmas.List.{map-set, length-map}
use Rattle.law.specs.Tree.{symbol_kind, term_kind, expression_kind}
use Rattle.tokens.specs.Token.{left_brace, right_brace, left_bracket, right_bracket, left_angle, right_angle, comma, colon, equals, semicolon, dollar_entry, dollar_extern}
use Rattle.tokens.specs.Token.{Token, sign, atom, identifier, number, variable, quoted, token_bytes, Piece, blank, comment, token, piece_bytes, pieces_bytes, Placed, placed}
use Rattle.tokens.specs.Lex.{guess, next, piece_before, lex_from, lex}
use Rattle.tokens.specs.Code.TokenKind.{token_kind, kind_code, kind_of}
use Rattle.tokens.specs.Code.Found.{found_at}
use Rattle.tokens.specs.Code.Arrays.{kinds_of, starts_of, ends_of, kinds_in, starts_in, ends_in, Holds, Lexes}
use Rattle.tokens.proofs.NextPiece.{next_sound, next_whole}
use Rattle.tokens.proofs.Lexing.{piece_some, lex_end}
use Rattle.tokens.specs.declared.Lexeme.{Lexeme}
use Rattle.tokens.specs.declared.kinds.Kind.{Kind}
use Rattle.tokens.specs.declared.pieces.Found.TheVariants.{Between, Token as Tokened}

-- ---- what an answer says of the next piece

nothing_none : (at : ℕ) (o : Choice Piece) → None ≡ found_at at o → o ≡ none
nothing_none at none h = refl
nothing_none at (some (blank b)) h = absurd (cc)
nothing_none at (some (comment cs)) h = absurd (cc)
nothing_none at (some (token t)) h = absurd (cc)

record Skipped (at e : ℕ) (o : Choice Piece) : Type 0 where
  pub piece : Piece
  pub is : o ≡ some piece
  pub ends : e ≡ at + length (piece_bytes piece)
  pub silent : (a : ℕ) → placed a (piece ∷ []) ≡ []

between_some : (at e : ℕ) (o : Choice Piece) → Some (Between e) ≡ found_at at o → Skipped at e o
unfolding placed
between_some at e none h = absurd (cc)
between_some at e (some (blank b)) h = record { piece = blank b; is = refl; ends = cc; silent = λ a. refl }
between_some at e (some (comment cs)) h = record { piece = comment cs; is = refl; ends = cc; silent = λ a. refl }
between_some at e (some (token t)) h = absurd (cc)

record TokenHere (at : ℕ) (k : Kind) (e : ℕ) (o : Choice Piece) : Type 0 where
  pub what : Token
  pub is : o ≡ some (token what)
  pub kind : k ≡ kind_of what
  pub ends : e ≡ at + length (token_bytes what)

token_some : (at : ℕ) (k : Kind) (e : ℕ) (o : Choice Piece) → Some (Tokened k e) ≡ found_at at o → TokenHere at k e o
token_some at k e none h = absurd (cc)
token_some at k e (some (blank b)) h = absurd (cc)
token_some at k e (some (comment cs)) h = absurd (cc)
token_some at k e (some (token t)) h = record { what = t; is = refl; kind = cc; ends = cc }

-- the number of a token's kind
code_same : (t : Token) → kind_code (kind_of t) ≡ token_kind t
code_same (sign left_brace) = refl
code_same (sign right_brace) = refl
code_same (sign left_bracket) = refl
code_same (sign right_bracket) = refl
code_same (sign left_angle) = refl
code_same (sign right_angle) = refl
code_same (sign comma) = refl
code_same (sign colon) = refl
code_same (sign equals) = refl
code_same (sign semicolon) = refl
code_same (sign dollar_entry) = refl
code_same (sign dollar_extern) = refl
code_same (atom (identifier w)) = refl
code_same (atom (number w)) = refl
code_same (atom (variable symbol_kind w)) = refl
code_same (atom (variable term_kind w)) = refl
code_same (atom (variable expression_kind w)) = refl
code_same (atom (quoted w)) = refl

-- ---- one piece more

lex_more : (k : ℕ) (s : List ℕ) (p : Piece) → next s ≡ some p → lex_from (suc k) s ≡ piece_before p (lex_from k (drop (length (piece_bytes p)) s))
unfolding lex_from next guess
lex_more k [] p h = absurd (none-ne-some p h)
lex_more k (c ∷ s) p h = go (next (c ∷ s)) h
  where
    go : (o : Choice Piece) → o ≡ some p
        → elim o as (λ _. Choice (List Piece)) [ none ↦ none | some q ↦ piece_before q (lex_from k (drop (length (piece_bytes q)) (c ∷ s))) ]
        ≡ piece_before p (lex_from k (drop (length (piece_bytes p)) (c ∷ s)))
    go none e = absurd (none-ne-some p e)
    go (some q) e = rw (some-injective q p e)

lex_none : (k c : ℕ) (s : List ℕ) → next (c ∷ s) ≡ none → lex_from (suc k) (c ∷ s) ≡ none
unfolding lex_from
lex_none k c s h = go (next (c ∷ s)) h
  where
    go : (o : Choice Piece) → o ≡ none
        → ◌≡◌ {A = Choice (List Piece)} (elim o as (λ _. Choice (List Piece)) [ none ↦ none | some q ↦ piece_before q (lex_from k (drop (length (piece_bytes q)) (c ∷ s))) ]) none
    go none e = refl
    go (some q) e = absurd (none-ne-some q (sym e))

-- pieces before others
abbrev all_before : List Piece → Choice (List Piece) → Choice (List Piece)
all_before ps none = none
all_before ps (some qs) = some (ps ++ qs)

before_all : (ps : List Piece) (p : Piece) (o : Choice (List Piece)) → all_before ps (piece_before p o) ≡ all_before (ps ++ (p ∷ [])) o
before_all ps p none = refl
before_all ps p (some qs) = ap some (sym (append_assoc ps (p ∷ []) qs))

none_before : (o : Choice (List Piece)) → all_before [] o ≡ o
none_before none = refl
none_before (some qs) = refl

-- ---- where tokens stand

bytes_more : (ps : List Piece) (p : Piece) → pieces_bytes (ps ++ (p ∷ [])) ≡ pieces_bytes ps ++ piece_bytes p
unfolding pieces_bytes
bytes_more [] p = append-nil (piece_bytes p)
bytes_more (q ∷ ps) p = rw (bytes_more ps p) (sym (append_assoc (piece_bytes q) (pieces_bytes ps) (piece_bytes p)))

text_size : (q : Piece) (ps : List Piece) → length (pieces_bytes (q ∷ ps)) ≡ length (piece_bytes q) + length (pieces_bytes ps)
unfolding pieces_bytes
text_size q ps = length-append (piece_bytes q) (pieces_bytes ps)

placed_more : (a : ℕ) (ps : List Piece) (p : Piece) → placed a (ps ++ (p ∷ [])) ≡ placed a ps ++ placed (a + length (pieces_bytes ps)) (p ∷ [])
unfolding placed pieces_bytes
placed_more a [] p = ap (λ z. placed z (p ∷ [])) (sym (add-zero a))
placed_more a (blank b ∷ ps) p =
    rw (text_size (blank b) ps, ← add_assoc a (length (piece_bytes (blank b))) (length (pieces_bytes ps))) (placed_more (a + length (piece_bytes (blank b))) ps p)
placed_more a (comment cs ∷ ps) p =
    rw (text_size (comment cs) ps, ← add_assoc a (length (piece_bytes (comment cs))) (length (pieces_bytes ps))) (placed_more (a + length (piece_bytes (comment cs))) ps p)
placed_more a (token t ∷ ps) p =
    rw (text_size (token t) ps, ← add_assoc a (length (piece_bytes (token t))) (length (pieces_bytes ps)))
    (ap (◌∷◌ (record { start = a; what = t })) (placed_more (a + length (piece_bytes (token t))) ps p))

kinds_more : (xs : List Placed) (p : Placed) → kinds_of (xs ++ (p ∷ [])) ≡ kinds_of xs ++ (token_kind p.what ∷ [])
kinds_more [] p = refl
kinds_more (x ∷ xs) p = ap (◌∷◌ (token_kind x.what)) (kinds_more xs p)

starts_more : (xs : List Placed) (p : Placed) → starts_of (xs ++ (p ∷ [])) ≡ starts_of xs ++ (p.start ∷ [])
starts_more [] p = refl
starts_more (x ∷ xs) p = ap (◌∷◌ x.start) (starts_more xs p)

ends_more : (xs : List Placed) (p : Placed) → ends_of (xs ++ (p ∷ [])) ≡ ends_of xs ++ ((p.start + length (token_bytes p.what)) ∷ [])
ends_more [] p = refl
ends_more (x ∷ xs) p = ap (◌∷◌ (x.start + length (token_bytes x.what))) (ends_more xs p)

single : (a : ℕ) (t : Token) → placed a (token t ∷ []) ≡ record { start = a; what = t } ∷ []
unfolding placed
single a t = refl

-- ---- the loop

-- the pieces up to byte `at` are found, with n tokens, and the bytes from there on decide
pub record Lexing (s : List ℕ) (at n : ℕ) (tokens : List Lexeme) : Type 0 where
  pub pieces : List Piece
  pub fuel : ℕ
  pub short : length s ≤ 4096
  pub inside : at ≤ length s
  pub few : n ≤ at
  pub long : length tokens ≡ 4096
  pub enough : length s ≤ at + fuel
  pub place : at ≡ length (pieces_bytes pieces)
  pub left : lex s ≡ all_before pieces (lex_from fuel (drop at s))
  pub holds : Holds n (kinds_in tokens) (starts_in tokens) (ends_in tokens) (placed 0 pieces)

pub lexing_start : (s : List ℕ) (tokens : List Lexeme) → length s ≤ 4096 → length tokens ≡ 4096 → Lexing s 0 0 tokens
unfolding pieces_bytes lex placed
lexing_start s tokens k long =
    record {
      pieces = [];
      fuel = length s;
      short = k;
      inside = omega arith;
      few = omega arith;
      long = long;
      enough = omega arith;
      place = refl;
      left = sym (none_before (lex_from (length s) s));
      holds = record { count = refl; kinded = refl; started = refl; ended = refl };
    }

module _ {s : List ℕ} {at n : ℕ} {tokens : List Lexeme} (h : Lexing s at n tokens) where
  -- all bytes are read
  pub lexing_end : length s ≤ at → Lexes s n tokens
  lexing_end l =
      record {
        pieces = h.pieces;
        found = h.left ∙ rw (drop_of_length-le s {i = at} l, lex_end h.fuel) (ap some (append-nil h.pieces));
        small = omega (arith, h.few, h.inside, h.short);
        holds = h.holds;
      }

  -- no piece stands here
  pub lexing_nothing : at < length s → None ≡ found_at at (next (drop at s)) → lex s ≡ none
  lexing_nothing l e = h.left ∙ go h.fuel refl
    where
      go : (k : ℕ) → h.fuel ≡ k → all_before h.pieces (lex_from h.fuel (drop at s)) ≡ none
      go zero z = let x : ⊥ = omega (arith, h.enough) in absurd x
      go (suc k) z =
          let none_next : next (get_or s at 0 ∷ drop (suc at) s) ≡ none = rw (drop-cons s at 0 l) at (nothing_none at (next (drop at s)) e) in
          rw (z, drop-cons s at 0 l, lex_none k (get_or s at 0) (drop (suc at) s) none_next)

  -- a piece ends in the text, past its start
  within : (p : Piece) (e : ℕ) → at < length s → next (drop at s) ≡ some p → e ≡ at + length (piece_bytes p) → (e ≤ length s) × (at + 1 ≤ e)
  within p e l q z =
      let some_bytes : 1 ≤ length (piece_bytes p) = piece_some p (next_sound (drop at s) p q).allowed in
      let whole : length (piece_bytes p ++ drop (length (piece_bytes p)) (drop at s)) ≡ length (drop at s) = ap length (next_whole (drop at s) p q) in
      (omega (arith, length-append (piece_bytes p) (drop (length (piece_bytes p)) (drop at s)), length-drop at s), omega arith)

  -- one piece more
  more : (p : Piece) (e m : ℕ) (xs : List Lexeme) → at < length s → next (drop at s) ≡ some p → e ≡ at + length (piece_bytes p) → m ≤ n + 1
      → length xs ≡ 4096 → Holds m (kinds_in xs) (starts_in xs) (ends_in xs) (placed 0 (h.pieces ++ (p ∷ []))) → Lexing s e m xs
  more p e m xs l q z o long hold = go h.fuel refl
    where
      size : (e ≤ length s) × (at + 1 ≤ e)
      size = within p e l q z

      go : (k : ℕ) → h.fuel ≡ k → Lexing s e m xs
      go zero y = let x : ⊥ = omega (arith, h.enough) in absurd x
      go (suc k) y =
          record {
            pieces = h.pieces ++ (p ∷ []);
            fuel = k;
            short = h.short;
            inside = size.0;
            few = omega (arith, h.few, size.1);
            long = long;
            enough = omega (arith, h.enough, size.1);
            place = rw (bytes_more h.pieces p) (omega (arith, h.place, length-append (pieces_bytes h.pieces) (piece_bytes p)));
            left =
                h.left
                ∙ rw (y, lex_more k (drop at s) p q, drop-drop (length (piece_bytes p)) at s, ← z) (before_all h.pieces p (lex_from k (drop e s)));
            holds = hold;
          }

  -- a blank or a comment
  module _ {e : ℕ} (l : at < length s) (q : Some (Between e) ≡ found_at at (next (drop at s))) where
    skipped : Skipped at e (next (drop at s))
    skipped = between_some at e (next (drop at s)) q

    pub lexing_between : Lexing s e n tokens
    lexing_between = go skipped
      where
        go : Skipped at e (next (drop at s)) → Lexing s e n tokens
        go x =
            let same : placed 0 (h.pieces ++ (x.piece ∷ [])) ≡ placed 0 h.pieces =
            placed_more 0 h.pieces x.piece ∙ ap (λ z. placed 0 h.pieces ++ z) (x.silent (0 + length (pieces_bytes h.pieces))) ∙ append-nil (placed 0 h.pieces) in
            more x.piece e n tokens l x.is x.ends (omega arith) h.long (rw same h.holds)

    pub between_within : (e ≤ length s) × (at + 1 ≤ e)
    between_within = let x : Skipped at e (next (drop at s)) = skipped in within x.piece e l x.is x.ends

  -- a token, for which there is a place
  pub lexing_room : at < length s → (n < 4096) × (at < 4096)
  lexing_room l = (omega (arith, h.few, h.short), omega (arith, h.short))

  module _ {k : Kind} {e : ℕ} (l : at < length s) (q : Some (Tokened k e) ≡ found_at at (next (drop at s))) where
    token_here : TokenHere at k e (next (drop at s))
    token_here = token_some at k e (next (drop at s)) q

    pub token_within : (e ≤ length s) × (at + 1 ≤ e) × (length s ≤ 4096)
    token_within =
        let x : TokenHere at k e (next (drop at s)) = token_here in
        let size : (e ≤ length s) × (at + 1 ≤ e) = within (token x.what) e l x.is x.ends in
        (size.0, size.1, h.short)

    -- the token in its place
    abbrev pub put : List Lexeme
    put = set tokens n (record { kind = k; start = at; end = e })

    pub lexing_token : Lexing s e (n + 1) put
    lexing_token = go token_here
      where
        room : n < 4096
        room = (lexing_room l).0

        within_all : {A : Type 0} (f : Lexeme → A) → n < length (map f tokens)
        within_all f = omega (arith, room, h.long, length-map tokens f)

        go : TokenHere at k e (next (drop at s)) → Lexing s e (n + 1) put
        go x =
            more (token x.what) e (n + 1) put l x.is x.ends (omega arith) (length-set tokens n (record { kind = k; start = at; end = e }) ∙ h.long) (rw same held)
          where
            p : Placed
            p = record { start = at; what = x.what }

            start_at : 0 + length (pieces_bytes h.pieces) ≡ at
            start_at = omega (arith, h.place)

            same : placed 0 (h.pieces ++ (token x.what ∷ [])) ≡ placed 0 h.pieces ++ (p ∷ [])
            same =
                placed_more 0 h.pieces (token x.what)
                ∙ ap (λ z. placed 0 h.pieces ++ z) (ap (λ a. placed a (token x.what ∷ [])) start_at ∙ single at x.what)

            ts : List Placed
            ts = placed 0 h.pieces

            code : kind_code k ≡ token_kind x.what
            code = ap kind_code x.kind ∙ code_same x.what

            held : Holds (n + 1) (kinds_in put) (starts_in put) (ends_in put) (ts ++ (p ∷ []))
            held =
                record {
                  count = omega (arith, h.holds.count, length-append ts (p ∷ []));
                  kinded = rw (add-one n, map-set, take-suc-set (kinds_in tokens) n (kind_code k) (within_all (λ x. kind_code x.kind)), h.holds.kinded, code) (sym (kinds_more ts p));
                  started = rw (add-one n, map-set, take-suc-set (starts_in tokens) n at (within_all (λ x. x.start)), h.holds.started) (sym (starts_more ts p));
                  ended = rw (add-one n, map-set, take-suc-set (ends_in tokens) n e (within_all (λ x. x.end)), h.holds.ended, x.ends) (sym (ends_more ts p));
                }

-- What the tokens that the lexer found say: the arrays hold them, they stand in the text, and by them it is outside the grammar or has a phrase and a file.
use Prim.Native.Nat.{ℕ, ◌+◌}
use mathlib.Core.List.{List, [], ◌∷◌, ◌++◌, append_assoc}
use mathlib.Core.Bool.{Bool, true, false}
use mathlib.Core.Option.{none, some}
use mathlib.Core.Path.{◌≡◌, refl, sym, ap, ◌∙◌}
use lib.ListN.{length, take, length-append}
use lib.Seq.{drop_at, take-append_seam}
use Rattle.tokens.specs.Token.{token_bytes, Piece, blank, comment, token, piece_bytes, pieces_bytes, Lexed, placed}
use Rattle.tokens.specs.Lex.{lex}
use Rattle.std.proofs.lemmas.List.{take-map}
use Rattle.tokens.specs.Code.TokenKind.{kind_code}
use Rattle.tokens.specs.Code.Arrays.{kinds_in, Lexes}
use Rattle.tokens.specs.declared.Lexeme.{Lexeme}
use Rattle.tokens.proofs.Lexing.{found_lexed}
use Rattle.grammar.specs.Grammar.{Text, spell_text}
use Rattle.grammar.specs.Parse.{phrase}
use Rattle.grammar.specs.Accept.{accepts}
use Rattle.grammar.specs.Read.{phrase_of}
use Rattle.grammar.specs.Code.Machine.{accepts_kinds}
use Rattle.grammar.specs.declared.table.Mode.TheVariants.{AtText as at_text}
use Rattle.grammar.proofs.Unique.{text_read}
use Rattle.grammar.proofs.Sound.{accepted_spells}
use Rattle.grammar.proofs.KindLaws.{kinds_accepted}
use Rattle.encoding.specs.Encode.{encode}
use Rattle.encoding.specs.Code.FlatFile.{flat_file}
use Rattle.encoding.proofs.FlatFile.{encoded_flat}
use Rattle.writing.specs.Code.Held.{HeldIn, Stand}

-- no pieces: outside the grammar
pub unlexed : (bytes : List ℕ) → lex bytes ≡ none → phrase_of bytes ≡ none
unfolding phrase_of
unlexed bytes h = rw h

-- tokens stand where they are placed
placed_stand : (b : List ℕ) (ps : List Piece) (front : List ℕ) (at : ℕ) → Lexed ps → front ++ pieces_bytes ps ≡ b → length front ≡ at → Stand b (placed at ps)
unfolding placed pieces_bytes
placed_stand b [] front at h e l = tt
placed_stand b (blank k ∷ ps) front at h e l =
    placed_stand b ps (front ++ piece_bytes (blank k)) (at + length (piece_bytes (blank k))) h.2 (append_assoc front (piece_bytes (blank k)) (pieces_bytes ps) ∙ e)
    (length-append front (piece_bytes (blank k)) ∙ rw l)
placed_stand b (comment cs ∷ ps) front at h e l =
    placed_stand b ps (front ++ piece_bytes (comment cs)) (at + length (piece_bytes (comment cs))) h.2 (append_assoc front (piece_bytes (comment cs)) (pieces_bytes ps) ∙ e)
    (length-append front (piece_bytes (comment cs)) ∙ rw l)
placed_stand b (token t ∷ ps) front at h e l = (
  record {
    allowed = h.0;
    same = rw (← e, drop_at front (token_bytes t ++ pieces_bytes ps) at l) (take-append_seam (token_bytes t) (pieces_bytes ps));
  },
  placed_stand b ps (front ++ token_bytes t) (at + length (token_bytes t)) h.2 (append_assoc front (token_bytes t) (pieces_bytes ps) ∙ e)
      (length-append front (token_bytes t) ∙ rw l),
)

module _ {bytes : List ℕ} {n : ℕ} {tokens : List Lexeme} (h : Lexes bytes n tokens) where
  pub tokens_held : HeldIn (take n tokens) (placed 0 h.pieces)
  tokens_held =
      record {
        kinded = sym (take-map (λ x. kind_code x.kind) n tokens) ∙ h.holds.kinded;
        started = sym (take-map (λ x. x.start) n tokens) ∙ h.holds.started;
        ended = sym (take-map (λ x. x.end) n tokens) ∙ h.holds.ended;
      }

  pub tokens_stand : Stand bytes (placed 0 h.pieces)
  tokens_stand = let split = found_lexed bytes h.pieces h.found in placed_stand bytes h.pieces [] 0 split.lexed split.whole refl

  taken : (t : Bool) → t ≡ accepts_kinds at_text [] (kinds_in (take n tokens)) → accepts at_text [] (placed 0 h.pieces) ≡ t
  taken t e = sym (kinds_accepted (placed 0 h.pieces) at_text []) ∙ sym (e ∙ ap (accepts_kinds at_text []) tokens_held.kinded)

  -- tokens that the machine refuses: outside the grammar
  pub refused_outside : (t : Bool) → t ≡ accepts_kinds at_text [] (kinds_in (take n tokens)) → t ≡ false → phrase_of bytes ≡ none
  unfolding phrase_of
  refused_outside t e f = rw (h.found, taken t e, f)

  -- tokens that it takes: a phrase, and its file from the tokens
  pub taken_phrase : (t : Bool) → t ≡ accepts_kinds at_text [] (kinds_in (take n tokens)) → t ≡ true
      → (x : Text) × (phrase_of bytes ≡ some x) × (encode bytes x ≡ flat_file bytes (placed 0 h.pieces))
  unfolding phrase_of
  taken_phrase t e f =
      let spelled = accepted_spells (placed 0 h.pieces) (taken t e ∙ f) in
      go spelled.0 spelled.1 (taken t e ∙ f)
    where
      go : (x : Text) → spell_text x ≡ placed 0 h.pieces → accepts at_text [] (placed 0 h.pieces) ≡ true
          → (x : Text) × (phrase_of bytes ≡ some x) × (encode bytes x ≡ flat_file bytes (placed 0 h.pieces))
      go x spells holds = (x, rw (h.found, holds) (ap some (ap phrase (sym spells) ∙ text_read x)), encoded_flat bytes x ∙ ap (flat_file bytes) spells)

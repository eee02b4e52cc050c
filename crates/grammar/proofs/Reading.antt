-- A text of the grammar has one phrase, `written_once`; `phrase_of` finds it, `written_found`, and finds nothing else, `found_written`.
use Prim.Native.Nat.{ℕ}
use mathlib.Core.List.{List, []}
use mathlib.Core.Bool.{Bool, true, false, cond}
use mathlib.Core.Option.{Option, none, some, some-injective, none-ne-some}
use mathlib.Core.Path.{◌≡◌, refl, sym, ap, ◌∙◌}
use Rattle.tokens.specs.Token.{Piece, placed}
use Rattle.tokens.specs.Lex.{lex}
use Rattle.tokens.proofs.Lexing.{Split, lexed_found, found_lexed, lexed_once}
use Rattle.grammar.specs.Grammar.{Text, Written}
use Rattle.grammar.specs.Parse.{phrase}
use Rattle.grammar.specs.Accept.{accepts}
use Rattle.grammar.specs.Read.{phrase_in, phrase_of}
use Rattle.grammar.proofs.Unique.{text_read, spelled_once}
use Rattle.grammar.proofs.Machine.{text_taken}
use Rattle.grammar.proofs.Sound.{accepted_spells}
use Rattle.grammar.specs.declared.table.Mode.TheVariants.{AtText}

-- a text has one phrase
pub written_once : (bytes : List ℕ) (x y : Text) → Written bytes x → Written bytes y → x ≡ y
written_once bytes x y w v =
    let same : w.pieces ≡ v.pieces = lexed_once w.pieces v.pieces w.lexed v.lexed (w.whole ∙ sym v.whole) in
    spelled_once x y (w.spelled ∙ ap (placed 0) same ∙ sym v.spelled)

-- it is found
pub written_found : (bytes : List ℕ) (x : Text) → Written bytes x → phrase_of bytes ≡ some x
unfolding phrase_of
written_found bytes x w =
    let lexes : lex bytes ≡ some w.pieces = rw (← w.whole) (lexed_found w.pieces w.lexed) in
    rw (lexes, ← w.spelled, text_taken x w.allowed, text_read x)

-- and nothing else is
pub found_written : (bytes : List ℕ) (x : Text) → phrase_of bytes ≡ some x → Written bytes x
unfolding phrase_of
found_written bytes x h = go (lex bytes) refl h
  where
    test : (ps : List Piece) → Split bytes ps → (b : Bool) → accepts AtText [] (placed 0 ps) ≡ b → cond b (some (phrase (placed 0 ps))) none ≡ some x → Written bytes x
    test ps s false e k = absurd (none-ne-some x k)
    test ps s true e k =
        let (y, spells, allowed) = accepted_spells (placed 0 ps) e in
        let found : y ≡ x = sym (text_read y) ∙ ap phrase spells ∙ some-injective (phrase (placed 0 ps)) x k in
        record {
          pieces = ps;
          lexed = s.lexed;
          whole = s.whole;
          allowed = rw (← found) allowed;
          spelled = rw (← found) spells;
        }

    go : (o : Option (List Piece)) → lex bytes ≡ o → phrase_in o ≡ some x → Written bytes x
    go none e k = absurd (none-ne-some x k)
    go (some ps) e k = test ps (found_lexed bytes ps e) (accepts AtText [] (placed 0 ps)) refl k

-- Laws for the piece at a byte: one for each way in which a piece begins, or none does.
use Prim.Native.Nat.{ℕ, suc, ◌+◌, ◌<◌}
use mathlib.Core.List.{List, [], ◌∷◌, ◌++◌}
use mathlib.Core.Bool.{Bool, true, false, cond, ◌&&◌, ◌||◌}
use mathlib.Core.Option.{none, some}
use mathlib.Core.Path.{◌≡◌, refl, sym, ap, ◌∙◌}
use lib.ListN.{length, take, drop, get_or}
use lib.Seq.{drop-cons}
use lib.Dec.{eqb}
use borrow.Author.Tests.{eqb-true, ne_eqb}
use Rattle.std.proofs.Common.{Option, Some, None}
use Rattle.std.specs.Cmp.Lexicographic.{pointwise}
use Rattle.names.specs.Name.{digit_byte, letter_byte}
use Rattle.tokens.specs.Token.{left_brace, right_brace, left_bracket, right_bracket, left_angle, right_angle, comma, colon, equals, semicolon}
use Rattle.tokens.specs.Token.{dollar_entry, dollar_extern, sign_bytes, sign, Blank, blank_byte, space, tab, line_feed, carriage_return, blank, token}
use Rattle.tokens.specs.Lex.{begins, sign_piece, guess, checked, next}
use Rattle.tokens.specs.Code.TokenKind.{sign_of}
use Rattle.tokens.specs.Code.Found.{found_at, is_blank}
use Rattle.tokens.proofs.Begins.{begins_found}
use Rattle.tokens.proofs.NextPiece.{sign_next, blank_next}
use Rattle.tokens.specs.declared.kinds.Kind.{Kind}
use Rattle.tokens.specs.declared.kinds.Kind.TheVariants.{LeftBrace, RightBrace, LeftBracket, RightBracket, LeftAngle, RightAngle, Comma, Colon, Equals, Semicolon, Entry, Extern}
use Rattle.tokens.specs.declared.pieces.Found.TheVariants.{Between, Token as Tokened}

-- ---- blanks and signs

module _ (at c : ℕ) (r : List ℕ) where
  -- one sign, or another
  one_sign : (n : ℕ) (g k : Kind) (rest : Option Kind) → Some (Tokened g (at + 1)) ≡ found_at at (next (n ∷ r)) → cond (eqb c n) (Some g) rest ≡ Some k
      → (rest ≡ Some k → Some (Tokened k (at + 1)) ≡ found_at at (next (c ∷ r))) → Some (Tokened k (at + 1)) ≡ found_at at (next (c ∷ r))
  one_sign n g k rest here h later = go (eqb c n) refl h
    where
      go : (b : Bool) → eqb c n ≡ b → cond b (Some g) rest ≡ Some k → Some (Tokened k (at + 1)) ≡ found_at at (next (c ∷ r))
      go true e q = let same : g ≡ k = cc in rw (eqb-true c n e, ← same) here
      go false e q = later q

  sign_each : (k : Kind) → sign_of c ≡ Some k → Some (Tokened k (at + 1)) ≡ found_at at (next (c ∷ r))
  sign_each k h =
      one_sign 123 LeftBrace k _ (rw (sign_next left_brace r)) h (λ h0.
      one_sign 125 RightBrace k _ (rw (sign_next right_brace r)) h0 (λ h1.
      one_sign 40 LeftBracket k _ (rw (sign_next left_bracket r)) h1 (λ h2.
      one_sign 41 RightBracket k _ (rw (sign_next right_bracket r)) h2 (λ h3.
      one_sign 60 LeftAngle k _ (rw (sign_next left_angle r)) h3 (λ h4.
      one_sign 62 RightAngle k _ (rw (sign_next right_angle r)) h4 (λ h5.
      one_sign 44 Comma k _ (rw (sign_next comma r)) h5 (λ h6.
      one_sign 58 Colon k _ (rw (sign_next colon r)) h6 (λ h7.
      one_sign 61 Equals k _ (rw (sign_next equals r)) h7 (λ h8.
      one_sign 59 Semicolon k _ (rw (sign_next semicolon r)) h8 (λ h9.
      absurd (cc)))))))))))

pub sign_here : (s : List ℕ) (at : ℕ) (k : Kind) → at < length s → sign_of (get_or s at 0) ≡ Some k → Some (Tokened k (at + 1)) ≡ found_at at (next (drop at s))
sign_here s at k l h = rw (drop-cons s at 0 l) (sign_each at (get_or s at 0) (drop (suc at) s) k h)

pub blank_here : (s : List ℕ) (at : ℕ) → at < length s → is_blank (get_or s at 0) ≡ true → Some (Between (at + 1)) ≡ found_at at (next (drop at s))
blank_here s at l h = rw (drop-cons s at 0 l) (go (eqb c 32) (eqb c 10) (eqb c 9) (eqb c 13) refl refl refl refl h)
  where
    c : ℕ
    c = get_or s at 0

    each : (b : Blank) → Some (Between (at + 1)) ≡ found_at at (some (blank b))
    each space = refl
    each tab = refl
    each line_feed = refl
    each carriage_return = refl

    here : (b : Blank) → c ≡ blank_byte b → Some (Between (at + 1)) ≡ found_at at (next (c ∷ drop (suc at) s))
    here b e = rw (e, blank_next b (drop (suc at) s)) (each b)

    go : (w x y z : Bool) → eqb c 32 ≡ w → eqb c 10 ≡ x → eqb c 9 ≡ y → eqb c 13 ≡ z → w || x || y || z ≡ true
        → Some (Between (at + 1)) ≡ found_at at (next (c ∷ drop (suc at) s))
    go true x y z e f g k q = here space (eqb-true c 32 e)
    go false true y z e f g k q = here line_feed (eqb-true c 10 f)
    go false false true z e f g k q = here tab (eqb-true c 9 g)
    go false false false true e f g k q = here carriage_return (eqb-true c 13 k)
    go false false false false e f g k q = absurd (cc)

no_blank : (w x y z : Bool) → w || x || y || z ≡ false → (w ≡ false) × (x ≡ false) × (y ≡ false) × (z ≡ false)
no_blank true x y z h = absurd (cc)
no_blank false true y z h = absurd (cc)
no_blank false false true z h = absurd (cc)
no_blank false false false true h = absurd (cc)
no_blank false false false false h = (refl, refl, refl, refl)

-- no piece begins with another byte
no_sign : (c n : ℕ) (g : Kind) (rest : Option Kind) → cond (eqb c n) (Some g) rest ≡ None → (eqb c n ≡ false) × (rest ≡ None)
no_sign c n g rest = go (eqb c n)
  where
    go : (b : Bool) → cond b (Some g) rest ≡ None → (b ≡ false) × (rest ≡ None)
    go true h = absurd (cc)
    go false h = (refl, h)

nothing_found : (c : ℕ) (r : List ℕ) → digit_byte c ≡ false → letter_byte c ≡ false → eqb c 32 ≡ false → eqb c 10 ≡ false → eqb c 9 ≡ false → eqb c 13 ≡ false
    → eqb c 39 ≡ false → eqb c 47 ≡ false → eqb c 36 ≡ false → sign_of c ≡ None → next (c ∷ r) ≡ none
unfolding next guess
nothing_found c r d l a b t e q m w h =
    let h0 = no_sign c 123 LeftBrace _ h in
    let h1 = no_sign c 125 RightBrace _ h0.1 in
    let h2 = no_sign c 40 LeftBracket _ h1.1 in
    let h3 = no_sign c 41 RightBracket _ h2.1 in
    let h4 = no_sign c 60 LeftAngle _ h3.1 in
    let h5 = no_sign c 62 RightAngle _ h4.1 in
    let h6 = no_sign c 44 Comma _ h5.1 in
    let h7 = no_sign c 58 Colon _ h6.1 in
    let h8 = no_sign c 61 Equals _ h7.1 in
    let h9 = no_sign c 59 Semicolon _ h8.1 in
    rw (d, l, a, b, t, e, q, m, w, h0.0, h1.0, h2.0, h3.0, h4.0, h5.0, h6.0, h7.0, h8.0, h9.0)

pub nothing_here : (s : List ℕ) (at : ℕ) → at < length s → digit_byte (get_or s at 0) ≡ false → letter_byte (get_or s at 0) ≡ false
    → is_blank (get_or s at 0) ≡ false → (get_or s at 0 ≡ 39 → ⊥) → (get_or s at 0 ≡ 47 → ⊥) → (get_or s at 0 ≡ 36 → ⊥) → sign_of (get_or s at 0) ≡ None
    → None ≡ found_at at (next (drop at s))
nothing_here s at l d k b q m w g =
    let c : ℕ = get_or s at 0 in
    let blank : (eqb c 32 ≡ false) × (eqb c 10 ≡ false) × (eqb c 9 ≡ false) × (eqb c 13 ≡ false) = no_blank (eqb c 32) (eqb c 10) (eqb c 9) (eqb c 13) b in
    let none_next : next (c ∷ drop (suc at) s) ≡ none =
    nothing_found c (drop (suc at) s) d k blank.0 blank.1 blank.2 blank.3 (ne_eqb c 39 q) (ne_eqb c 47 m) (ne_eqb c 36 w) g in
    rw (drop-cons s at 0 l, none_next)

-- ---- bytes that stand at a place

pub same_begins : (n s : List ℕ) → pointwise eqb n (take (length n) s) ≡ begins n s
unfolding begins
same_begins [] s = refl
same_begins (x ∷ n) [] = refl
same_begins (x ∷ n) (y ∷ s) = ap (λ b. eqb x y && b) (same_begins n s)

-- ---- `$ENTRY` and `$EXTERN`

module _ (s : List ℕ) (at : ℕ) {t : Bool} where
  pub entry_found : t ≡ begins (sign_bytes dollar_entry) (drop at s) → t ≡ true → Some (Tokened Entry (at + 6)) ≡ found_at at (next (drop at s))
  entry_found e h =
      let whole : sign_bytes dollar_entry ++ drop 6 (drop at s) ≡ drop at s = begins_found (sign_bytes dollar_entry) (drop at s) (sym e ∙ h) in
      let took : next (drop at s) ≡ some (token (sign dollar_entry)) = rw (← whole) (sign_next dollar_entry (drop 6 (drop at s))) in
      rw took

  pub extern_found : t ≡ begins (sign_bytes dollar_extern) (drop at s) → t ≡ true → Some (Tokened Extern (at + 7)) ≡ found_at at (next (drop at s))
  extern_found e h =
      let whole : sign_bytes dollar_extern ++ drop 7 (drop at s) ≡ drop at s = begins_found (sign_bytes dollar_extern) (drop at s) (sym e ∙ h) in
      let took : next (drop at s) ≡ some (token (sign dollar_extern)) = rw (← whole) (sign_next dollar_extern (drop 7 (drop at s))) in
      rw took

neither : (r : List ℕ) → begins (sign_bytes dollar_entry) (36 ∷ r) ≡ false → begins (sign_bytes dollar_extern) (36 ∷ r) ≡ false → next (36 ∷ r) ≡ none
unfolding next guess
neither r e f = go (eqb (get_or r 1 0) 78)
  where
    go : (b : Bool) → checked (36 ∷ r) (cond b (sign_piece dollar_entry) (sign_piece dollar_extern)) ≡ none
    go true = rw e
    go false = rw f

-- neither of them stands here
pub dollar_none : (s : List ℕ) (at : ℕ) {t u : Bool} → at < length s → get_or s at 0 ≡ 36 → t ≡ begins (sign_bytes dollar_entry) (drop at s) → t ≡ false
    → u ≡ begins (sign_bytes dollar_extern) (drop at s) → u ≡ false → None ≡ found_at at (next (drop at s))
dollar_none s at l c e h f k =
    let whole : drop at s ≡ 36 ∷ drop (suc at) s = drop-cons s at 0 l ∙ rw c in
    let none_next : next (36 ∷ drop (suc at) s) ≡ none = neither (drop (suc at) s) (rw whole at (sym e ∙ h)) (rw whole at (sym f ∙ k)) in
    rw (whole, none_next)

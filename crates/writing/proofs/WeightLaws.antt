-- Laws for the number of records that begin with a token.
use Prim.Native.Nat.{ℕ, suc, ◌+◌, ◌-◌, ◌≤◌, ◌<◌}
use mathlib.Core.List.{List, [], ◌∷◌, ◌++◌, nil≢cons, tail-eq_of_cons-eq}
use mathlib.Core.Bool.{Bool, true, false, cond}
use mathlib.Core.Path.{◌≡◌, refl, sym, ap, ◌∙◌}
use native.Mathlib.Omega.{arith}
use lib.ListN.{length, take, drop, length-append}
use lib.Seq.{take-take, take_at, drop-drop}
use lib.Dec.{ltb, eqb}
use borrow.Author.Tests.{ne_eqb, lt-ltb, le-ltb}
use Rattle.law.specs.Tree.{symbol_kind, term_kind, expression_kind}
use Rattle.tokens.specs.Token.{utf8, characters_bytes, Sign, left_brace, right_brace, left_bracket, right_bracket, left_angle, right_angle, comma, colon, equals}
use Rattle.tokens.specs.Token.{semicolon, dollar_entry, dollar_extern, identifier, number, variable, quoted, Token, sign, atom, token_bytes, Placed}
use Rattle.tokens.specs.Code.TokenKind.{sign_kind, token_kind}
use Rattle.encoding.specs.Encode.{character_records}
use Rattle.encoding.specs.Code.FlatTerms.{inside, calling, own_records, kind_at, end_at, weight}
use Rattle.writing.specs.Code.Held.{Stands}
use Rattle.writing.specs.Code.Found.{count_starts, run_state}
use Rattle.writing.proofs.CharacterLaws.{characters_counted}

-- ---- by kind

-- the characters of a quoted run
abbrev pub characters_in : Token → List ℕ
characters_in (sign g) = []
characters_in (atom (identifier w)) = []
characters_in (atom (number w)) = []
characters_in (atom (variable k w)) = []
characters_in (atom (quoted cs)) = cs

abbrev by_kind : ℕ → ℕ → ℕ
by_kind k n = cond (eqb k 6) n (cond (ltb k 6) 1 0)

characters_length : (at : ℕ) (cs : List ℕ) → length (character_records at cs) ≡ length cs
unfolding character_records
characters_length at [] = refl
characters_length at (c ∷ cs) = ap suc (characters_length (at + length (utf8 c)) cs)

-- signs have other kinds than atoms
pub sign_over : (g : Sign) → 6 < sign_kind g
sign_over left_brace = omega arith
sign_over right_brace = omega arith
sign_over left_bracket = omega arith
sign_over right_bracket = omega arith
sign_over left_angle = omega arith
sign_over right_angle = omega arith
sign_over comma = omega arith
sign_over colon = omega arith
sign_over equals = omega arith
sign_over semicolon = omega arith
sign_over dollar_entry = omega arith
sign_over dollar_extern = omega arith

-- only a quoted run is of kind 6
pub only_quoted : (P : Token → Type 0) → ((cs : List ℕ) → P (atom (quoted cs))) → (t : Token) → token_kind t ≡ 6 → P t
only_quoted P q (sign g) k = let z : ⊥ = omega (arith, k, sign_over g) in absurd z
only_quoted P q (atom (identifier w)) k = let z : ⊥ = omega (arith, k) in absurd z
only_quoted P q (atom (number w)) k = let z : ⊥ = omega (arith, k) in absurd z
only_quoted P q (atom (variable symbol_kind w)) k = let z : ⊥ = omega (arith, k) in absurd z
only_quoted P q (atom (variable term_kind w)) k = let z : ⊥ = omega (arith, k) in absurd z
only_quoted P q (atom (variable expression_kind w)) k = let z : ⊥ = omega (arith, k) in absurd z
only_quoted P q (atom (quoted cs)) k = q cs

own_weight : (at : ℕ) (t : Token) → length (own_records inside at t) ≡ by_kind (token_kind t) (length (characters_in t))
own_weight at (sign g) = let over = sign_over g in rw (ne_eqb (sign_kind g) 6 (λ e. omega (arith, e, over)), le-ltb (sign_kind g) 6 (omega (arith, over)))
own_weight at (atom (identifier w)) = refl
own_weight at (atom (number w)) = refl
own_weight at (atom (variable symbol_kind w)) = refl
own_weight at (atom (variable term_kind w)) = refl
own_weight at (atom (variable expression_kind w)) = refl
own_weight at (atom (quoted cs)) = characters_length (at + 1) cs

name_weight : (at : ℕ) (t : Token) → length (own_records calling at t) ≡ 0
name_weight at (sign g) = refl
name_weight at (atom a) = refl

-- ---- the bytes between quotes

tail_of_lem : (d : List ℕ) (x n : ℕ) (r : List ℕ) → take (suc n) d ≡ x ∷ r → take n (drop 1 d) ≡ r
tail_of_lem [] x n r h = absurd (nil≢cons h)
tail_of_lem (a ∷ d) x n r h = tail-eq_of_cons-eq h

pub quoted_bytes : (text : List ℕ) (at : ℕ) (cs : List ℕ) {start end : ℕ} → start ≡ at → end ≡ at + length (token_bytes (atom (quoted cs)))
    → Stands text (record { start = at; what = atom (quoted cs) }) → take (end - 1 - (start + 1)) (drop (start + 1) text) ≡ characters_bytes cs
quoted_bytes text at cs {start = start} {end = end} s e h =
    let inner = characters_bytes cs in
    let long : length (inner ++ 39 ∷ []) ≡ length inner + 1 = length-append inner (39 ∷ []) in
    let size : end - 1 - (start + 1) ≡ length inner = omega (arith, s, e, long) in
    let tail : take (length (inner ++ 39 ∷ [])) (drop 1 (drop at text)) ≡ inner ++ 39 ∷ [] = tail_of_lem (drop at text) 39 (length (inner ++ 39 ∷ [])) (inner ++ 39 ∷ []) h.same in
    rw (size, s, ← drop-drop 1 at text)
    (sym (take-take (length inner) (length (inner ++ 39 ∷ [])) (drop 1 (drop at text)) (omega (arith, long)))
    ∙ (ap (take (length inner)) tail ∙ take_at inner (39 ∷ []) (length inner) refl))

-- as many as characters
quoted_count : (text : List ℕ) (at : ℕ) (t : Token) {start end : ℕ} → token_kind t ≡ 6 → start ≡ at → end ≡ at + length (token_bytes t)
    → Stands text (record { start = at; what = t }) → count_starts (take (end - 1 - (start + 1)) (drop (start + 1) text)) ≡ length (characters_in t)
quoted_count text at t {start = start} {end = end} k s =
    only_quoted
    (λ u. end ≡ at + length (token_bytes u) → Stands text (record { start = at; what = u })
    → count_starts (take (end - 1 - (start + 1)) (drop (start + 1) text)) ≡ length (characters_in u))
    (λ cs e h. ap count_starts (quoted_bytes text at cs s e h) ∙ characters_counted cs)
    t k

-- ---- one law for each kind

module _ {k : ℕ} (p : Placed) (e : k ≡ kind_at p) where
  pub weight_bracket : (b : Bool) → k ≡ 40 → 1 ≡ weight (run_state b) p
  weight_bracket b h = rw (← e, h)

  pub weight_call : (b : Bool) → k ≡ 60 → 1 ≡ weight (run_state b) p
  weight_call b h = rw (← e, h)

  module _ (d : k ≡ 40 → ⊥) (f : k ≡ 60 → ⊥) where
    pub weight_name : (b : Bool) → b ≡ true → 0 ≡ weight (run_state b) p
    weight_name b h = rw (h, ← e, ne_eqb k 40 d, ne_eqb k 60 f) (sym (name_weight p.start p.what))

    plain : (b : Bool) → b ≡ false → weight (run_state b) p ≡ by_kind k (length (characters_in p.what))
    plain b h = rw (h, ← e, ne_eqb k 40 d, ne_eqb k 60 f) (own_weight p.start p.what ∙ rw (← e))

    pub weight_quoted : (text : List ℕ) {start end n : ℕ} (b : Bool) → b ≡ false → k ≡ 6 → start ≡ p.start → end ≡ end_at p → Stands text p
        → n ≡ count_starts (take (end - 1 - (start + 1)) (drop (start + 1) text)) → n ≡ weight (run_state b) p
    weight_quoted text b h g s t st c = c ∙ (quoted_count text p.start p.what (sym e ∙ g) s t st ∙ sym (plain b h ∙ rw g))

    pub weight_atom : (b : Bool) → b ≡ false → (k ≡ 6 → ⊥) → k < 6 → 1 ≡ weight (run_state b) p
    weight_atom b h g l = sym (plain b h ∙ rw (ne_eqb k 6 g, lt-ltb k 6 l))

    pub weight_sign : (b : Bool) → b ≡ false → (k ≡ 6 → ⊥) → 6 ≤ k → 0 ≡ weight (run_state b) p
    weight_sign b h g l = sym (plain b h ∙ rw (ne_eqb k 6 g, le-ltb k 6 l))

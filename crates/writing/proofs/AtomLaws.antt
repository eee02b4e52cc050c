-- Laws for the records of a token that is no bracket and no name of a call.
use Prim.Native.Nat.{ℕ, suc, ◌+◌, ◌-◌, ◌≤◌, ◌<◌}
use mathlib.Core.List.{List, [], ◌∷◌, ◌++◌, append_assoc}
use mathlib.Core.Bool.{true, cond, not, ◌&&◌, false≢true}
use mathlib.Core.Path.{◌≡◌, refl, sym, ap, ◌∙◌}
use native.Mathlib.Omega.{arith}
use lib.ListN.{length, take, drop, length-append, length-take, length-drop, take-append-drop}
use lib.Seq.{drop-drop}
use lib.Dec.{ltb, eqb}
use borrow.Author.Tests.{lt-ltb, le-ltb}
use Rattle.names.specs.Name.{every_byte}
use Rattle.file.specs.Fields.{scalar_allowed}
use Rattle.file.proofs.Below.{both, both_first, both_second}
use Rattle.law.specs.Tree.{symbol_kind, term_kind, expression_kind}
use Rattle.tokens.specs.Token.{characters_bytes, quotable, identifier, number, variable, quoted, Token, sign, atom, token_bytes, Placed}
use Rattle.std.proofs.Common.{Some, None}
use Rattle.tokens.specs.Code.TokenKind.{sign_kind, token_kind, kind_code}
use Rattle.tokens.specs.declared.kinds.Kind.{Kind}
use Rattle.tokens.specs.declared.kinds.Kind.TheVariants.{Identifier, Number, SymbolVariable, TermVariable, ExpressionVariable, Quoted, LeftBrace, RightBrace, LeftBracket, RightBracket, LeftAngle, RightAngle, Comma, Colon, Equals, Semicolon, Entry, Extern}
use Rattle.encoding.specs.Encode.{Record, character_records}
use Rattle.encoding.specs.Code.FlatTerms.{inside, own_records, own, kind_at, end_at}
use Rattle.writing.specs.Code.Found.{record_kind}
use Rattle.writing.specs.Code.Held.{Stands, Spans}
use Rattle.writing.proofs.WeightLaws.{sign_over, only_quoted}

-- ---- one record, or none

-- a token's record by its kind and place
abbrev atom_row : ℕ → ℕ → ℕ → List Record
atom_row k s e =
    cond (ltb 6 k) []
    (cond (ltb k 3) ((k ∷ s ∷ (e - s) ∷ 0 ∷ s ∷ e ∷ []) ∷ []) ((k ∷ (s + 2) ∷ (e - s - 2) ∷ 0 ∷ s ∷ e ∷ []) ∷ []))

whole_size : (s n : ℕ) → s + n - s ≡ n
whole_size s n = omega arith

index_size : (s n : ℕ) → s + suc (suc n) - s - 2 ≡ n
index_size s n = omega arith

index_end : (s n : ℕ) → s + 2 + n ≡ s + suc (suc n)
index_end s n = omega arith

own_row : (at : ℕ) (t : Token) → (token_kind t ≡ 6 → ⊥) → own_records inside at t ≡ atom_row (token_kind t) at (at + length (token_bytes t))
own_row at (sign g) d = rw (lt-ltb 6 (sign_kind g) (sign_over g))
own_row at (atom (identifier w)) d = rw (whole_size at (length w))
own_row at (atom (number w)) d = rw (whole_size at (length w))
own_row at (atom (variable symbol_kind w)) d = rw (index_size at (length w), index_end at (length w))
own_row at (atom (variable term_kind w)) d = rw (index_size at (length w), index_end at (length w))
own_row at (atom (variable expression_kind w)) d = rw (index_size at (length w), index_end at (length w))
own_row at (atom (quoted cs)) d = absurd (d refl)

module _ {k start end : ℕ} (p : Placed) (e : k ≡ kind_at p) (s : start ≡ p.start) (t : end ≡ end_at p) (d : k ≡ 6 → ⊥) where
  here_row : own inside p ≡ atom_row k start end
  here_row = own_row p.start p.what (λ z. d (e ∙ z)) ∙ rw (e, s, t)

  pub atom_sign : 6 < k → own inside p ≡ []
  atom_sign l = here_row ∙ rw (lt-ltb 6 k l)

  module _ (l : k ≤ 6) {size word : ℕ} (q : size ≡ end - start) (r : word ≡ k) where
    pub atom_word : k < 3 → own inside p ≡ (word ∷ start ∷ size ∷ 0 ∷ start ∷ end ∷ []) ∷ []
    atom_word j = here_row ∙ rw (le-ltb 6 k l, lt-ltb k 3 j, q, r)

    pub atom_variable : {n : ℕ} → 3 ≤ k → n ≡ size - 2 → own inside p ≡ (word ∷ (start + 2) ∷ n ∷ 0 ∷ start ∷ end ∷ []) ∷ []
    atom_variable j g = here_row ∙ rw (le-ltb 6 k l, le-ltb k 3 j, g, q, r)

-- ---- by the code's kind

pub kind_word : (g : Kind) (k : ℕ) → record_kind g ≡ Some k → (k ≡ kind_code g) × (kind_code g ≤ 5)
kind_word Identifier k h = (cc, omega arith)
kind_word Number k h = (cc, omega arith)
kind_word SymbolVariable k h = (cc, omega arith)
kind_word TermVariable k h = (cc, omega arith)
kind_word ExpressionVariable k h = (cc, omega arith)
kind_word Quoted k h = absurd (cc)
kind_word LeftBrace k h = absurd (cc)
kind_word RightBrace k h = absurd (cc)
kind_word LeftBracket k h = absurd (cc)
kind_word RightBracket k h = absurd (cc)
kind_word LeftAngle k h = absurd (cc)
kind_word RightAngle k h = absurd (cc)
kind_word Comma k h = absurd (cc)
kind_word Colon k h = absurd (cc)
kind_word Equals k h = absurd (cc)
kind_word Semicolon k h = absurd (cc)
kind_word Entry k h = absurd (cc)
kind_word Extern k h = absurd (cc)

pub kind_sign : (g : Kind) → record_kind g ≡ None → (kind_code g ≡ 6 → ⊥) → 6 < kind_code g
kind_sign Identifier h d = absurd (cc)
kind_sign Number h d = absurd (cc)
kind_sign SymbolVariable h d = absurd (cc)
kind_sign TermVariable h d = absurd (cc)
kind_sign ExpressionVariable h d = absurd (cc)
kind_sign Quoted h d = absurd (d refl)
kind_sign LeftBrace h d = omega arith
kind_sign RightBrace h d = omega arith
kind_sign LeftBracket h d = omega arith
kind_sign RightBracket h d = omega arith
kind_sign LeftAngle h d = omega arith
kind_sign RightAngle h d = omega arith
kind_sign Comma h d = omega arith
kind_sign Colon h d = omega arith
kind_sign Equals h d = omega arith
kind_sign Semicolon h d = omega arith
kind_sign Entry h d = omega arith
kind_sign Extern h d = omega arith

-- ---- a quoted run

scalars : (cs : List ℕ) → every_byte quotable cs ≡ true → every_byte scalar_allowed cs ≡ true
unfolding every_byte
scalars [] h = refl
scalars (c ∷ cs) h =
    let q = both_first (quotable c) (every_byte quotable cs) h in
    both (scalar_allowed c) (every_byte scalar_allowed cs)
    (both_first (scalar_allowed c) (not (eqb c 39)) (both_first (scalar_allowed c && not (eqb c 39)) (not (eqb c 92)) q))
    (scalars cs (both_second (quotable c) (every_byte quotable cs) h))

allowed_scalars : (text : List ℕ) (at : ℕ) (cs : List ℕ) → Stands text (record { start = at; what = atom (quoted cs) }) → every_byte scalar_allowed cs ≡ true
allowed_scalars text at [] h = absurd (false≢true h.allowed)
allowed_scalars text at (c ∷ cs) h = scalars (c ∷ cs) h.allowed

-- what is found of it
pub record Run (text : List ℕ) (at : ℕ) (t : Token) (start end : ℕ) : Type 0 where
  pub characters : List ℕ
  pub records : own_records inside at t ≡ character_records (start + 1) characters
  pub spans : Spans text (start + 1) (end - 1) characters
  pub within : end ≤ length text

quoted_run_lem : (text : List ℕ) (at : ℕ) (cs : List ℕ) {start end : ℕ} → start ≡ at → end ≡ at + length (token_bytes (atom (quoted cs)))
    → Stands text (record { start = at; what = atom (quoted cs) }) → Run text at (atom (quoted cs)) start end
quoted_run_lem text at cs {start = start} {end = end} s e h =
    let inner = characters_bytes cs in
    let n : ℕ = length (39 ∷ inner ++ 39 ∷ []) in
    let long : length (inner ++ 39 ∷ []) ≡ length inner + 1 = length-append inner (39 ∷ []) in
    let here : (39 ∷ inner ++ 39 ∷ []) ++ drop n (drop at text) ≡ drop at text = ap (λ z. z ++ drop n (drop at text)) (sym h.same) ∙ take-append-drop n (drop at text) in
    let size : length (take n (drop at text)) ≡ n = ap length h.same in
    record {
      characters = cs;
      records = rw s;
      spans =
          record {
            after = (39 ∷ []) ++ drop n (drop at text);
            allowed = allowed_scalars text at cs h;
            size = omega (arith, s, e, long);
            same = rw s (sym (drop-drop 1 at text) ∙ (ap (drop 1) (sym here) ∙ append_assoc inner (39 ∷ []) (drop n (drop at text))));
          };
      within = omega (arith, e, long, size, length-take n (drop at text), length-drop at text);
    }

token_run : (text : List ℕ) (at : ℕ) (t : Token) {start end : ℕ} → token_kind t ≡ 6 → start ≡ at → end ≡ at + length (token_bytes t)
    → Stands text (record { start = at; what = t }) → Run text at t start end
token_run text at t {start = start} {end = end} k s =
    only_quoted (λ u. end ≡ at + length (token_bytes u) → Stands text (record { start = at; what = u }) → Run text at u start end)
    (λ cs e h. quoted_run_lem text at cs s e h)
    t k

pub run_of : (text : List ℕ) {k start end : ℕ} (p : Placed) → k ≡ kind_at p → start ≡ p.start → end ≡ end_at p → Stands text p → k ≡ 6 → Run text p.start p.what start end
run_of text p e s t h g = token_run text p.start p.what (sym e ∙ g) s t h

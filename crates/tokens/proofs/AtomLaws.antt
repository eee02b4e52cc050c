-- Laws for identifiers, numbers and variables: the loop that looks for their end, and the tokens that are found.
use Prim.Native.Nat.{ℕ, suc, ◌+◌, ◌≤◌, ◌<◌}
use mathlib.Core.List.{List, [], ◌∷◌}
use mathlib.Core.Bool.{Bool, true, false, cond}
use mathlib.Core.Option.{none, some, Option as Choice}
use mathlib.Core.Path.{◌≡◌, refl, sym, ap, ◌∙◌}
use native.Mathlib.Omega.{arith}
use native.Mathlib.Numerals.{add-one}
use lib.ListN.{length, drop, get_or, drop_of_length-le}
use lib.Seq.{drop-cons, drop-drop}
use lib.Dec.{eqb, ltb}
use borrow.Author.Tests.{eq-eqb, ne_eqb, ltb-true, ltb-false}
use Rattle.std.specs.Bool.{then_some}
use Rattle.std.proofs.Common.{Option, Some, None}
use Rattle.names.specs.Name.{digit_byte, letter_byte, name_byte, every_byte}
use Rattle.file.proofs.Below.{both}
use Rattle.law.specs.Tree as tree
use Rattle.law.specs.Tree.{symbol_kind, term_kind, expression_kind}
use Rattle.tokens.specs.Token.{identifier, number, variable, atom, token, token_bytes}
use Rattle.tokens.specs.Lex.{leading, variable_kind, index_after, identifier_or_variable, next}
use Rattle.tokens.specs.Code.TokenKind.{kind_of, variable_of}
use Rattle.tokens.specs.Code.Found.{index_end, index_ends, found_at, IdentifierAt}
use Rattle.tokens.proofs.NextPiece.{number_next, identifier_next, variable_next}
use Rattle.tokens.specs.declared.kinds.Kind.{Kind}
use Rattle.tokens.specs.declared.kinds.Kind.TheVariants.{Identifier, Number, SymbolVariable, TermVariable, ExpressionVariable}
use Rattle.tokens.specs.declared.pieces.Found.TheVariants.{Token as Tokened}

-- the run that a byte begins, by the byte
pub leading_here : (p : ℕ → Bool) (s : List ℕ) (i : ℕ) → i < length s
    → length (leading p (drop i s)) ≡ cond (p (get_or s i 0)) (suc (length (leading p (drop (i + 1) s)))) 0
unfolding leading
leading_here p s i l = rw (drop-cons s i 0 l, add-one) (go (p (get_or s i 0)))
  where
    go : (b : Bool) → length (cond b (get_or s i 0 ∷ leading p (drop (suc i) s)) []) ≡ cond b (suc (length (leading p (drop (suc i) s)))) 0
    go true = refl
    go false = refl

pub leading_past : (p : ℕ → Bool) (s : List ℕ) (i : ℕ) → length s ≤ i → length (leading p (drop i s)) ≡ 0
unfolding leading
leading_past p s i l = rw (drop_of_length-le s {i = i} l)

-- ---- an index after a point

-- the text ends, no point stands here, or one does
pub index_past : (s : List ℕ) (at : ℕ) → length s ≤ at → None ≡ index_ends at (drop at s)
unfolding index_after
index_past s at h = rw (drop_of_length-le s {i = at} h)

pub index_other : (s : List ℕ) (at : ℕ) → at < length s → (get_or s at 0 ≡ 46 → ⊥) → None ≡ index_ends at (drop at s)
unfolding index_after
index_other s at h d = rw (drop-cons s at 0 h, ne_eqb (get_or s at 0) 46 d)

module _ (s : List ℕ) (at e : ℕ) (h : at < length s) (d : get_or s at 0 ≡ 46) (q : e ≡ at + 1 + length (leading name_byte (drop (at + 1) s))) where
  run : index_after (drop at s) ≡ leading name_byte (drop (at + 1) s)
  unfolding index_after
  run = rw (drop-cons s at 0 h, eq-eqb (get_or s at 0) 46 d, add-one)

  -- an index has one byte or more
  pub index_test : then_some (ltb (at + 1) e) e ≡ index_ends at (drop at s)
  index_test = go (leading name_byte (drop (at + 1) s)) run q (ltb (at + 1) e) refl
    where
      go : (i : List ℕ) → index_after (drop at s) ≡ i → e ≡ at + 1 + length i → (b : Bool) → ltb (at + 1) e ≡ b → then_some b e ≡ index_ends at (drop at s)
      go [] f m true t = absurd (omega (arith, ltb-true (at + 1) e t))
      go [] f m false t = rw f
      go (x ∷ i) f m true t = rw (f, m)
      go (x ∷ i) f m false t = absurd (omega (arith, ltb-false (at + 1) e t))

-- ---- tokens

-- a number
pub number_found : (s : List ℕ) (at e : ℕ) → at < length s → digit_byte (get_or s at 0) ≡ true → e ≡ at + 1 + length (leading digit_byte (drop (at + 1) s))
    → Some (Tokened Number e) ≡ found_at at (next (drop at s))
unfolding every_byte
number_found s at e h d q =
    let first : next (drop at s) ≡ some (token (atom (number (get_or s at 0 ∷ leading digit_byte (drop (suc at) s))))) =
    rw (drop-cons s at 0 h) (number_next (get_or s at 0) [] (drop (suc at) s) (both (digit_byte (get_or s at 0)) true d refl)) in
    let size : e ≡ at + suc (length (leading digit_byte (drop (suc at) s))) = let m = rw (add-one at) at q in omega arith in
    rw (first, size)

-- an identifier
identifier_found : (s : List ℕ) (at e : ℕ) → at < length s → letter_byte (get_or s at 0) ≡ true
    → identifier_or_variable (variable_kind (get_or s at 0)) (index_after (drop (suc at) s)) (get_or s at 0) (drop (suc at) s) ≡ identifier (get_or s at 0 ∷ leading name_byte (drop (suc at) s))
    → e ≡ at + 1 + length (leading name_byte (drop (at + 1) s))
    → Some (Tokened Identifier e) ≡ found_at at (next (drop at s))
unfolding every_byte
identifier_found s at e h d w q =
    let first : next (drop at s) ≡ some (token (atom (identifier (get_or s at 0 ∷ leading name_byte (drop (suc at) s))))) =
    rw (drop-cons s at 0 h) (identifier_next (get_or s at 0) [] (drop (suc at) s) (both (letter_byte (get_or s at 0)) true d refl) w) in
    let size : e ≡ at + suc (length (leading name_byte (drop (suc at) s))) = let m = rw (add-one at) at q in omega arith in
    rw (first, size)

-- the kind of variable that a letter begins, as the code has it
kinds_same : (c : ℕ) (k : Kind) → variable_of c ≡ Some k → (t : tree.Kind) × (variable_kind c ≡ some t) × ((w : List ℕ) → kind_of (atom (variable t w)) ≡ k)
kinds_same c k = go (eqb c 115) (eqb c 116) (eqb c 101)
  where
    go : (x y z : Bool) → cond x (Some SymbolVariable) (cond y (Some TermVariable) (cond z (Some ExpressionVariable) None)) ≡ Some k
        → (t : tree.Kind) × (cond x (some symbol_kind) (cond y (some term_kind) (cond z (some expression_kind) none)) ≡ some t) × ((w : List ℕ) → kind_of (atom (variable t w)) ≡ k)
    go true y z e = (symbol_kind, refl, λ w. cc)
    go false true z e = (term_kind, refl, λ w. cc)
    go false false true e = (expression_kind, refl, λ w. cc)
    go false false false e = absurd (cc)

no_kind : (c : ℕ) → variable_of c ≡ None → variable_kind c ≡ none
no_kind c = go (eqb c 115) (eqb c 116) (eqb c 101)
  where
    go : (x y z : Bool) → ◌≡◌ {A = Option Kind} (cond x (Some SymbolVariable) (cond y (Some TermVariable) (cond z (Some ExpressionVariable) None))) None
        → ◌≡◌ {A = Choice tree.Kind} (cond x (some symbol_kind) (cond y (some term_kind) (cond z (some expression_kind) none))) none
    go true y z e = absurd (cc)
    go false true z e = absurd (cc)
    go false false true e = absurd (cc)
    go false false false e = refl

no_index : (at : ℕ) (i : List ℕ) → index_end at i ≡ None → i ≡ []
no_index at [] e = refl
no_index at (x ∷ i) e = absurd (cc)

-- where the letter begins no variable, or no index follows
after_one : (s : List ℕ) (at : ℕ) → drop 1 (drop at s) ≡ drop (at + 1) s
after_one s at = drop-drop 1 at s

pub identifier_plain : (s : List ℕ) (at : ℕ) → at < length s → letter_byte (get_or s at 0) ≡ true → variable_of (get_or s at 0) ≡ None → IdentifierAt at (drop at s)
identifier_plain s at h d p = λ e q. identifier_found s at e h d (rw (no_kind (get_or s at 0) p)) (q ∙ ap (λ r. at + 1 + length (leading name_byte r)) (after_one s at))

pub identifier_short : (s : List ℕ) (at : ℕ) → at < length s → letter_byte (get_or s at 0) ≡ true → index_ends (at + 1) (drop (at + 1) s) ≡ None → IdentifierAt at (drop at s)
identifier_short s at h d p =
    let empty : index_after (drop (suc at) s) ≡ [] = rw (add-one at) at (no_index (at + 1) (index_after (drop (at + 1) s)) p) in
    λ e q. identifier_found s at e h d (rw empty (either (variable_kind (get_or s at 0)))) (q ∙ ap (λ r. at + 1 + length (leading name_byte r)) (after_one s at))
  where
    either : (o : Choice tree.Kind) → identifier_or_variable o [] (get_or s at 0) (drop (suc at) s) ≡ identifier (get_or s at 0 ∷ leading name_byte (drop (suc at) s))
    either none = refl
    either (some k) = refl

-- a variable
pub variable_found : (s : List ℕ) (at e : ℕ) (k : Kind) → at < length s → letter_byte (get_or s at 0) ≡ true → variable_of (get_or s at 0) ≡ Some k
    → index_ends (at + 1) (drop (at + 1) s) ≡ Some e → Some (Tokened k e) ≡ found_at at (next (drop at s))
variable_found s at e k h d p q = rw (drop-cons s at 0 h) (go (index_after (drop (suc at) s)) refl (rw (add-one at) at q))
  where
    same : (t : tree.Kind) × (variable_kind (get_or s at 0) ≡ some t) × ((w : List ℕ) → kind_of (atom (variable t w)) ≡ k)
    same = kinds_same (get_or s at 0) k p

    go : (i : List ℕ) → index_after (drop (suc at) s) ≡ i → index_ends (suc at) (drop (suc at) s) ≡ Some e
        → Some (Tokened k e) ≡ found_at at (next (get_or s at 0 ∷ drop (suc at) s))
    go [] f m = let z : ◌≡◌ {A = Option ℕ} None (Some e) = ap (index_end (suc at)) (sym f) ∙ m in absurd (cc)
    go (x ∷ i) f m =
        let size : suc at + 1 + length (x ∷ i) ≡ e = let z : ◌≡◌ {A = Option ℕ} (Some (suc at + 1 + length (x ∷ i))) (Some e) = ap (index_end (suc at)) (sym f) ∙ m in cc in
        let end : e ≡ at + length (token_bytes (atom (variable same.0 (x ∷ i)))) = omega arith in
        rw (variable_next (get_or s at 0) same.0 x i (drop (suc at) s) d same.1 f, same.2 (x ∷ i), end)

-- Laws for the scan from an opening sign to its closing sign.
use Prim.Native.Nat.{ℕ, suc}
use mathlib.Core.List.{List, [], ◌∷◌}
use mathlib.Core.Bool.{Bool, true, false, cond, ◌||◌, true≢false, false≢true}
use mathlib.Core.Path.{◌≡◌, refl, sym, ◌∙◌}
use lib.ListN.{length}
use lib.Dec.{eqb}
use borrow.Author.Tests.{ne_eqb, eqb-true}
use Rattle.law.specs.Tree.{symbol_kind, term_kind, expression_kind}
use Rattle.tokens.specs.Token.{Atom, identifier, number, variable, quoted, Token, sign, atom, Placed}
use Rattle.tokens.specs.Code.TokenKind.{atom_kind, token_kind}
use Rattle.encoding.specs.Code.FlatTerms.{Where, inside, state_after, opens, closes, own_records, kind_at, end_at, weight, add, closed, scan}

-- ---- a closing sign

pub closes_other : (k : ℕ) → (k ≡ 41 → ⊥) → eqb k 62 ≡ closes k
closes_other k d = rw (ne_eqb k 41 d)

pub opens_other : (k : ℕ) → (k ≡ 40 → ⊥) → eqb k 60 ≡ opens k
opens_other k d = rw (ne_eqb k 40 d)

-- it opens nothing, and no call
closes_no_open : (k : ℕ) → closes k ≡ true → (opens k ≡ false) × (eqb k 60 ≡ false)
closes_no_open k h = go (eqb k 41) (eqb k 62) refl refl h
  where
    go : (x y : Bool) → eqb k 41 ≡ x → eqb k 62 ≡ y → x || y ≡ true → (opens k ≡ false) × (eqb k 60 ≡ false)
    go true y e f g = let n : k ≡ 41 = eqb-true k 41 e in (rw n, rw n)
    go false true e f g = let n : k ≡ 62 = eqb-true k 62 f in (rw n, rw n)
    go false false e f g = absurd (false≢true g)

atom_no_close : (a : Atom) → closes (atom_kind a) ≡ false
atom_no_close (identifier w) = refl
atom_no_close (number w) = refl
atom_no_close (variable symbol_kind w) = refl
atom_no_close (variable term_kind w) = refl
atom_no_close (variable expression_kind w) = refl
atom_no_close (quoted w) = refl

-- and has no record
own_closing : (w : Where) (at : ℕ) (t : Token) → closes (token_kind t) ≡ true → length (own_records w at t) ≡ 0
own_closing w at (sign g) h = refl
own_closing w at (atom a) h = absurd (true≢false (sym h ∙ atom_no_close a))

pub weight_closing : (w : Where) (p : Placed) → closes (kind_at p) ≡ true → weight w p ≡ 0
weight_closing w p h = rw (closes_no_open (kind_at p) h).0 (own_closing w p.start p.what h)

-- behind it the name of no call stands
pub state_closing : (k : ℕ) → closes k ≡ true → state_after k ≡ inside
state_closing k h = rw (closes_no_open k h).1

-- where it ends does not depend on what stands before the first token
pub scan_end : (v w : Where) (d : ℕ) (ps : List Placed) → (scan v d ps).end ≡ (scan w d ps).end
scan_end v w d [] = refl
scan_end v w d (p ∷ ps) = go (closes (kind_at p))
  where
    go : (b : Bool) → (cond b (closed (end_at p) d (λ e. scan inside e ps)) (add (weight v p) (scan (state_after (kind_at p)) (cond (opens (kind_at p)) (suc d) d) ps))).end
        ≡ (cond b (closed (end_at p) d (λ e. scan inside e ps)) (add (weight w p) (scan (state_after (kind_at p)) (cond (opens (kind_at p)) (suc d) d) ps))).end
    go true = refl
    go false = refl

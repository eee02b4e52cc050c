-- Laws of the words of single shapes (specs/Leaf.antt): what the code's tests of a word say of the shape.
use Prim.Native.Nat.{ℕ, zero, suc, ◌≤◌, ◌<◌}
use mathlib.Core.Bool.{Bool, true, false, cond, not}
use mathlib.Core.Path.{◌≡◌, refl}
use native.Mathlib.Omega.{arith}
use native.Mathlib.Decide.{dec_lt}
use lib.Dec.{eqb, leb}
use borrow.Author.Tests.{le-leb, lt-leb}
use Rattle.shapes.specs.Leaf.{Leaf, character, number, identifier, any_symbol, unknown, holds_brackets, join_leaves, leaves_apart, leaf_word, leaf_at}

-- what holds of the words 0 to 3 holds of every word below 4
below_four : (P : ℕ → Type 0) → P 0 → P 1 → P 2 → P 3 → (w : ℕ) → w < 4 → P w
below_four P a b c d zero h = a
below_four P a b c d (suc zero) h = b
below_four P a b c d (suc (suc zero)) h = c
below_four P a b c d (suc (suc (suc zero))) h = d
below_four P a b c d (suc (suc (suc (suc w)))) h = absurd (omega arith)

-- every other word says unknown
pub leaf_high : (w : ℕ) → 4 ≤ w → leaf_at w ≡ unknown
leaf_high zero h = absurd (omega arith)
leaf_high (suc zero) h = absurd (omega arith)
leaf_high (suc (suc zero)) h = absurd (omega arith)
leaf_high (suc (suc (suc zero))) h = absurd (omega arith)
leaf_high (suc (suc (suc (suc w)))) h = refl

-- a word that is none of 0 to 3
pub leaf_word_past : (w : ℕ) → (w ≡ 0 → ⊥) → (w ≡ 1 → ⊥) → (w ≡ 2 → ⊥) → (w ≡ 3 → ⊥) → 4 ≤ w
leaf_word_past w a b c d = omega arith

-- these words alone say a shape that holds brackets
pub leaf_holds : (w : ℕ) → leb 4 w ≡ holds_brackets (leaf_at w)
leaf_holds w = go (dec_lt w 4)
  where
    go : Dec (w < 4) → leb 4 w ≡ holds_brackets (leaf_at w)
    go (yes h) = rw (lt-leb 4 w h) (below_four (λ x. false ≡ holds_brackets (leaf_at x)) refl refl refl refl w h)
    go (no h) = rw (le-leb 4 w (omega arith), leaf_high w (omega arith))

-- the table of shapes that are apart, by their words
abbrev Apart : ℕ → ℕ → Type 0
Apart x y = cond (leb 3 x) false (cond (leb 3 y) false (not (eqb x y))) ≡ leaves_apart (leaf_at x) (leaf_at y)

-- nothing is apart from unknown
apart_unknown : (t : Bool) (b : Leaf) → cond t false false ≡ leaves_apart b unknown
apart_unknown true character = refl
apart_unknown true number = refl
apart_unknown true identifier = refl
apart_unknown true any_symbol = refl
apart_unknown true unknown = refl
apart_unknown false character = refl
apart_unknown false number = refl
apart_unknown false identifier = refl
apart_unknown false any_symbol = refl
apart_unknown false unknown = refl

-- the code's answer is that of the table
pub leaves_apart_lem : (x y : ℕ) → cond (leb 3 x) false (cond (leb 3 y) false (not (eqb x y))) ≡ leaves_apart (leaf_at x) (leaf_at y)
leaves_apart_lem x y = go (dec_lt x 4) (dec_lt y 4)
  where
    go : Dec (x < 4) → Dec (y < 4) → Apart x y
    go (no h) k = rw (le-leb 3 x (omega arith), leaf_high x (omega arith))
    go (yes h) (no k) = rw (le-leb 3 y (omega arith), leaf_high y (omega arith)) (apart_unknown (leb 3 x) (leaf_at x))
    go (yes h) (yes k) =
        below_four (λ x. Apart x y)
        (below_four (Apart 0) refl refl refl refl y k)
        (below_four (Apart 1) refl refl refl refl y k)
        (below_four (Apart 2) refl refl refl refl y k)
        (below_four (Apart 3) refl refl refl refl y k)
        x
        h

-- the table of joins, by their words
abbrev Joins : ℕ → ℕ → Type 0
Joins x y = cond (leb 4 x) 4 (cond (leb 4 y) 4 (cond (eqb x y) x 3)) ≡ leaf_word (join_leaves (leaf_at x) (leaf_at y))

-- a join with unknown is unknown
join_unknown : (t : Bool) (b : Leaf) → cond t 4 4 ≡ leaf_word (join_leaves b unknown)
join_unknown true character = refl
join_unknown true number = refl
join_unknown true identifier = refl
join_unknown true any_symbol = refl
join_unknown true unknown = refl
join_unknown false character = refl
join_unknown false number = refl
join_unknown false identifier = refl
join_unknown false any_symbol = refl
join_unknown false unknown = refl

-- the code's word is that of the table
pub leaves_join : (x y : ℕ) → cond (leb 4 x) 4 (cond (leb 4 y) 4 (cond (eqb x y) x 3)) ≡ leaf_word (join_leaves (leaf_at x) (leaf_at y))
leaves_join x y = go (dec_lt x 4) (dec_lt y 4)
  where
    go : Dec (x < 4) → Dec (y < 4) → Joins x y
    go (no h) k = rw (le-leb 4 x (omega arith), leaf_high x (omega arith))
    go (yes h) (no k) = rw (le-leb 4 y (omega arith), leaf_high y (omega arith)) (join_unknown (leb 4 x) (leaf_at x))
    go (yes h) (yes k) =
        below_four (λ x. Joins x y)
        (below_four (Joins 0) refl refl refl refl y k)
        (below_four (Joins 1) refl refl refl refl y k)
        (below_four (Joins 2) refl refl refl refl y k)
        (below_four (Joins 3) refl refl refl refl y k)
        x
        h

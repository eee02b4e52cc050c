-- Laws of rows by their first shapes (specs/Code/Rows.antt): where both have one, and where one is over.
use Prim.Native.Nat.{ℕ, suc, ◌+◌, ◌-◌, ◌/◌, ◌%◌, ◌≤◌, ◌<◌, min}
use mathlib.Core.Bool.{Bool, true, false, not, ◌||◌}
use mathlib.Core.List.{List, ◌∷◌, ◌++◌, append-nil}
use mathlib.Core.Path.{◌≡◌, refl, sym, ◌∙◌}
use native.Mathlib.Omega.{arith}
use lib.ListN.{length, take, drop, set, length-drop}
use lib.Seq.{take_all}
use lib.Dec.{leb}
use Rattle.shapes.specs.Leaf as leaves
use Rattle.shapes.specs.Format.{Shapes, end, item, group, size, is_open}
use Rattle.shapes.specs.Join.{join_rows}
use Rattle.shapes.specs.Disjoint.{disjoint_rows}
use Rattle.shapes.specs.Words.{bracket_word, shape_words, is_bracket, shapes_end, shapes_in}
use Rattle.shapes.specs.declared.row.Shape.{Shape}
use Rattle.shapes.specs.declared.row.Shape.TheVariants.{Leaf, Bracket}
use Rattle.buffers.specs.Written.{written}
use Rattle.shapes.specs.Code.Rows.{in_front, apart, first_join, ShapesWritten}
use Rattle.shapes.proofs.WordLaws.{shapes_none, shapes_leaf, shapes_bracket, words_length}
use Rattle.buffers.proofs.WrittenLaws.{written_none, written_one, written_front, written_more}

-- ---- a row's first word

-- a row of no words is over
pub split_none : (o : Bool) (s : List ℕ) → length s ≡ 0 → shapes_in o s ≡ end o
split_none o s e = shapes_none o s (omega arith)

-- a first word that is no bracket's, and the words after it
pub split_leaf : (o : Bool) (s : List ℕ) (w : ℕ) (after : List ℕ) → s ≡ w ∷ after → is_bracket w ≡ false → shapes_in o s ≡ item (leaves.leaf_at w) (shapes_in o after)
unfolding shapes_end
split_leaf o s w after is b =
    let e : 1 ≡ shapes_end (w ∷ after) = rw b (omega arith) in
    rw is (shapes_leaf o (w ∷ after) 1 (omega arith) b e ∙ rw (take_all (length (w ∷ after) - 1) after (omega arith)))

-- a bracket's, with as many words inside it as it says and as there are, and the words after those
pub split_bracket : (o : Bool) (s : List ℕ) (w : ℕ) (after : List ℕ) (n : ℕ) → s ≡ w ∷ after → is_bracket w ≡ true → n ≡ min (w / 8 % 128) (length after)
    → shapes_in o s ≡ group (shapes_in (leb 1024 w) (take n after)) (shapes_in o (drop n after))
unfolding shapes_end
split_bracket o s w after n is b inside =
    let e : suc n ≡ shapes_end (w ∷ after) = rw b (omega arith) in
    rw is (shapes_bracket o (w ∷ after) (suc n) (omega arith) b e
    ∙ rw (suc_less_one n, take_all (length (w ∷ after) - suc n) (drop n after) (omega (arith, length-drop n after))))
  where
    suc_less_one : (n : ℕ) → suc n - 1 ≡ n
    suc_less_one n = omega arith

-- ---- disjointness

-- two rows that are not over: their first shapes, then the rest
pub disjoint_split : (x y : Shape) (f g : Shapes) → disjoint_rows (in_front x f) (in_front y g) ≡ (apart x y || disjoint_rows f g)
unfolding disjoint_rows
disjoint_split (Leaf a) (Leaf b) f g = refl
disjoint_split (Leaf a) (Bracket d) f g = refl
disjoint_split (Bracket c) (Leaf b) f g = refl
disjoint_split (Bracket c) (Bracket d) f g = refl

-- rows that are both over share the empty expression
pub disjoint_none_none : (o p : Bool) → false ≡ disjoint_rows (end o) (end p)
unfolding disjoint_rows
disjoint_none_none true p = refl
disjoint_none_none false p = refl

-- a row that is over and one that goes on share something only where the first is open
pub disjoint_none_some : (o : Bool) (y : Shape) (g : Shapes) → not o ≡ disjoint_rows (end o) (in_front y g)
unfolding disjoint_rows
disjoint_none_some true y g = refl
disjoint_none_some false (Leaf b) g = refl
disjoint_none_some false (Bracket d) g = refl

pub disjoint_some_none : (x : Shape) (f : Shapes) (p : Bool) → not p ≡ disjoint_rows (in_front x f) (end p)
unfolding disjoint_rows
disjoint_some_none (Leaf a) f p = refl
disjoint_some_none (Bracket c) f p = refl

-- ---- join

-- two rows that are not over: their first shapes, then the rest
pub join_split : (x y : Shape) (f g : Shapes) → join_rows (in_front x f) (in_front y g) ≡ first_join x y (join_rows f g)
unfolding join_rows
join_split (Leaf a) (Leaf b) f g = refl
join_split (Leaf a) (Bracket d) f g = refl
join_split (Bracket c) (Leaf b) f g = refl
join_split (Bracket c) (Bracket d) f g = refl

-- one row alone is over
pub join_none_some : (o : Bool) (y : Shape) (g : Shapes) → join_rows (end o) (in_front y g) ≡ end true
unfolding join_rows
join_none_some o (Leaf b) g = refl
join_none_some o (Bracket d) g = refl

pub join_some_none : (x : Shape) (f : Shapes) (p : Bool) → join_rows (in_front x f) (end p) ≡ end true
unfolding join_rows
join_some_none (Leaf a) f p = refl
join_some_none (Bracket c) f p = refl

-- the join of the first shapes in front of a row: its size, its end and its words
abbrev InFront : (Shapes → Shapes) → Shapes → Type 0
InFront first f = (size (first f) ≡ size (first (end false)) + size f) × (is_open (first f) ≡ is_open f) × (shape_words (first f) ≡ shape_words (first (end false)) ++ shape_words f)

-- a shape that is no bracket, and a bracket, in front of a row
item_in_front : (b : leaves.Leaf) (f : Shapes) → InFront (item b) f
unfolding size is_open shape_words
item_in_front b f = (omega arith, refl, refl)

group_in_front : (g f : Shapes) → InFront (group g) f
unfolding size is_open shape_words
group_in_front g f = (omega arith, refl, rw (append-nil (shape_words g)))

-- the join of the first shapes is one of the two
first_in_front : (x y : Shape) (f : Shapes) → InFront (first_join x y) f
first_in_front (Leaf a) (Leaf b) f = item_in_front _ f
first_in_front (Leaf a) (Bracket d) f = item_in_front _ f
first_in_front (Bracket c) (Leaf b) f = item_in_front _ f
first_in_front (Bracket c) (Bracket d) f = group_in_front _ f

-- a join that is over writes nothing
pub end_joined : (f : Shapes) (o : Bool) (old : List ℕ) (at : ℕ) → f ≡ end o → ShapesWritten f old at at o old
unfolding size is_open shape_words
end_joined f o old at e = rw e (record { after = omega arith; ends = refl; words = written_none old at })

-- both rows are over
pub join_none_none : (o p : Bool) → join_rows (end o) (end p) ≡ end (o || p)
unfolding join_rows
join_none_none o p = refl

-- the first shapes were joined, then the rest
pub join_some_some : (x y : Shape) (f g : Shapes) (old : List ℕ) (at middle next : ℕ) (q : Bool) (new newer : List ℕ)
    → middle ≤ length old → middle ≡ at + size (first_join x y (end false)) → new ≡ written old at (shape_words (first_join x y (end false)))
    → ShapesWritten (join_rows f g) new middle next q newer → ShapesWritten (join_rows (in_front x f) (in_front y g)) old at next q newer
join_some_some x y f g old at middle next q new newer l e w j =
    let rest : Shapes = join_rows f g in
    let first : List ℕ = shape_words (first_join x y (end false)) in
    let (i, ends, all) = first_in_front x y rest in
    let long : length first ≡ size (first_join x y (end false)) = words_length (first_join x y (end false)) in
    rw (join_split x y f g) (record {
      after = omega (arith, j.after);
      ends = j.ends ∙ sym ends;
      words = j.words ∙ (rw (w, all) (written_more old at middle first (shape_words rest) (omega arith) (omega arith)));
    })

-- what a join of first shapes says of the position after it and of the words that then stand
abbrev pub FirstWritten : Shapes → List ℕ → ℕ → ℕ → List ℕ → Type 0
FirstWritten f old at next new = (next ≡ at + size f) × (new ≡ written old at (shape_words f))

-- a shape that is no bracket was written
pub leaf_joined : (b : leaves.Leaf) (old : List ℕ) (at w : ℕ) → at < length old → w ≡ leaves.leaf_word b → FirstWritten (item b (end false)) old at (at + 1) (set old at w)
unfolding size shape_words
leaf_joined b old at w l e = rw e (refl, written_one old at _ l)

-- a bracket's contents were written after its word
pub brackets_joined : (inner : Shapes) (old : List ℕ) (at next w : ℕ) (q : Bool) (new : List ℕ) → next ≤ length old → ShapesWritten inner old (at + 1) next q new
    → w ≡ bracket_word (next - at - 1) q → FirstWritten (group inner (end false)) old at next (set new at w)
unfolding size shape_words
brackets_joined inner old at next w q new l j r =
    let inside : next - at - 1 ≡ size inner = omega (arith, j.after) in (
      omega (arith, j.after),
      rw (r, inside, j.ends, j.words, append-nil (shape_words inner)) (written_front old at (bracket_word (size inner) (is_open inner)) (shape_words inner)
          (omega (arith, j.after, words_length inner))),
    )

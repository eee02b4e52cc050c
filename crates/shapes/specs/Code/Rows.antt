-- The code's rows of shapes, and a row's first shape.
use Rattle.std.specs.Prelude.{ℕ, ◌+◌, ◌-◌, ◌%◌, ◌≤◌, ◌<◌, Bool, true, false, not, ◌≡◌, List, length, take, drop, get_or, leb}
use Rattle.shapes.specs.Leaf.{unknown, holds_brackets, join_leaves, leaves_apart}
use Rattle.shapes.specs.Format.{Shapes, item, group, of, size, is_open}
use Rattle.shapes.specs.Join.{join_rows}
use Rattle.shapes.specs.Disjoint.{disjoint_rows}
use Rattle.shapes.specs.Words.{shape_words, shapes_in, read_format}
use Rattle.shapes.specs.declared.RowEnd.{RowEnd}
use Rattle.shapes.specs.declared.RowEnd.TheVariants.{Closed, Open}
use Rattle.shapes.specs.declared.row.Row.{Row}
use Rattle.shapes.specs.declared.row.Shape.{Shape}
use Rattle.shapes.specs.declared.row.Shape.TheVariants.{Leaf, Bracket}
use Rattle.shapes.specs.Code.Leaves.{leaf_meant}
use Rattle.buffers.specs.Written.{written}

-- the shapes that a row's words say
abbrev pub row_meant : Row → Shapes
row_meant r = shapes_in r.is_open r.words.now

-- a shape in front of a row
abbrev pub in_front : Shape → Shapes → Shapes
in_front (Leaf b) f = item (leaf_meant b) f
in_front (Bracket c) f = group (row_meant c) f

-- how many words a shape has
abbrev pub word_count : Shape → ℕ
word_count (Leaf b) = 1
word_count (Bracket c) = 1 + length c.words.now

-- the row that a format's words say
pub record IsRowOf (format : List ℕ) (row : Row) : Type 0 where
  pub same : read_format format ≡ of (row_meant row)
  pub few : length row.words.now < 256
  pub within : length row.words.now ≤ length format - 1
  pub words : row.words.now ≡ take (get_or format 0 0 % 256) (drop 1 format)
  pub opens : row.is_open ≡ leb 256 (get_or format 0 0)

-- words are those of a first shape, and of the rest
pub record IsFirstAndRest (words : List ℕ) (first : Shape) (rest : List ℕ) : Type 0 where
  pub parts : (o : Bool) → shapes_in o words ≡ in_front first (shapes_in o rest)
  pub count : length words ≡ word_count first + length rest

-- where a row that was written ends, and whether it is open
abbrev pub row_next : RowEnd → ℕ
row_next (Closed n) = n
row_next (Open n) = n

abbrev pub row_opens : RowEnd → Bool
row_opens (Closed n) = false
row_opens (Open n) = true

-- is no term of both shapes?
abbrev pub apart : Shape → Shape → Bool
apart (Leaf a) (Leaf b) = leaves_apart (leaf_meant a) (leaf_meant b)
apart (Leaf a) (Bracket d) = not (holds_brackets (leaf_meant a))
apart (Bracket c) (Leaf b) = not (holds_brackets (leaf_meant b))
apart (Bracket c) (Bracket d) = disjoint_rows (row_meant c) (row_meant d)

-- the join of two shapes, in front of a row
abbrev pub first_join : Shape → Shape → Shapes → Shapes
first_join (Leaf a) (Leaf b) f = item (join_leaves (leaf_meant a) (leaf_meant b)) f
first_join (Leaf a) (Bracket d) f = item unknown f
first_join (Bracket c) (Leaf b) f = item unknown f
first_join (Bracket c) (Bracket d) f = group (join_rows (row_meant c) (row_meant d)) f

-- shapes were written at a position: the position after them, whether their row is open, and the words that then stand
pub record ShapesWritten (f : Shapes) (old : List ℕ) (at next : ℕ) (o : Bool) (new : List ℕ) : Type 0 where
  pub after : next ≡ at + size f
  pub ends : o ≡ is_open f
  pub words : new ≡ written old at (shape_words f)

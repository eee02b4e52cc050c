-- A row's items as the code writes them: the first stands without a space.
use Rattle.std.specs.Prelude.{Bool, cond, List, [], ◌∷◌, ◌++◌, ℕ, drop}
use Rattle.shapes.specs.Leaf.{leaf_byte}
use Rattle.shapes.specs.Format.{Shapes}
use Rattle.shapes.specs.Display.{spaced}
use Rattle.shapes.specs.declared.row.Shape.{Shape}
use Rattle.shapes.specs.declared.row.Shape.TheVariants.{Leaf, Bracket}
use Rattle.shapes.specs.Code.Leaves.{leaf_meant}
use Rattle.shapes.specs.Code.Rows.{row_meant}

-- the items of a row, with no space before the first of them or with one
abbrev pub shown : Bool → Shapes → List ℕ
shown first f = cond first (drop 1 (spaced f)) (spaced f)

-- an item
abbrev pub first_shown : Shape → List ℕ
first_shown (Leaf b) = leaf_byte (leaf_meant b) ∷ []
first_shown (Bracket c) = 40 ∷ 91 ∷ drop 1 (spaced (row_meant c)) ++ 93 ∷ 41 ∷ []

-- Are two formats the same?
-- docs/SPECIFICATION.md, 4.2.
use Rattle.std.specs.Prelude.{Bool, true, false, ◌&&◌}
use Rattle.shapes.specs.Leaf.{same_leaf}
use Rattle.shapes.specs.Format.{Shapes, end, item, group, Format, never, of}

abbrev pub same_bool : Bool → Bool → Bool
same_bool true true = true
same_bool true false = false
same_bool false true = false
same_bool false false = true

unfoldable pub same_shapes : Shapes → Shapes → Bool
same_shapes (end o) (end p) = same_bool o p
same_shapes (end o) (item b g) = false
same_shapes (end o) (group d g) = false
same_shapes (item a f) (end p) = false
same_shapes (item a f) (item b g) = same_leaf a b && same_shapes f g
same_shapes (item a f) (group d g) = false
same_shapes (group c f) (end p) = false
same_shapes (group c f) (item b g) = false
same_shapes (group c f) (group d g) = same_shapes c d && same_shapes f g

abbrev pub same_format : Format → Format → Bool
same_format never never = true
same_format never (of g) = false
same_format (of f) never = false
same_format (of f) (of g) = same_shapes f g

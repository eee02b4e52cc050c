-- Disjointness, as in formats.rs: "Disjoint is yes exactly when no expression is in both."
-- docs/SPECIFICATION.md, 3.6.
use Rattle.std.specs.Prelude.{Bool, true, false, not, ◌||◌}
use Rattle.shapes.specs.Leaf.{holds_brackets, leaves_apart}
use Rattle.shapes.specs.Format.{Shapes, end, item, group, Format, never, of}

-- a closed row shares nothing with one that asks for more terms; two brackets share nothing exactly when their contents do
unfoldable pub disjoint_rows : Shapes → Shapes → Bool
disjoint_rows (end true) g = false
disjoint_rows (end false) (end p) = false
disjoint_rows (end false) (item b g) = true
disjoint_rows (end false) (group d g) = true
disjoint_rows (item a f) (end p) = not p
disjoint_rows (item a f) (item b g) = leaves_apart a b || disjoint_rows f g
disjoint_rows (item a f) (group d g) = not (holds_brackets a) || disjoint_rows f g
disjoint_rows (group c f) (end p) = not p
disjoint_rows (group c f) (item b g) = not (holds_brackets b) || disjoint_rows f g
disjoint_rows (group c f) (group d g) = disjoint_rows c d || disjoint_rows f g

abbrev pub disjoint_formats : Format → Format → Bool
disjoint_formats never g = true
disjoint_formats (of f) never = true
disjoint_formats (of f) (of g) = disjoint_rows f g

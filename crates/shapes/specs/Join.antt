-- Join, as in formats.rs: "Join is the least format over both."
-- docs/SPECIFICATION.md, 3.5.
use Rattle.std.specs.Prelude.{true, ◌||◌}
use Rattle.shapes.specs.Leaf.{unknown, join_leaves}
use Rattle.shapes.specs.Format.{Shapes, end, item, group, Format, never, of}

-- rows of different lengths join to the shared items and an open tail; shapes of which one alone is a bracket join to unknown
unfoldable pub join_rows : Shapes → Shapes → Shapes
join_rows (end o) (end p) = end (o || p)
join_rows (end o) (item b g) = end true
join_rows (end o) (group d g) = end true
join_rows (item a f) (end p) = end true
join_rows (item a f) (item b g) = item (join_leaves a b) (join_rows f g)
join_rows (item a f) (group d g) = item unknown (join_rows f g)
join_rows (group c f) (end p) = end true
join_rows (group c f) (item b g) = item unknown (join_rows f g)
join_rows (group c f) (group d g) = group (join_rows c d) (join_rows f g)

-- never with a format is that format
abbrev pub join_formats : Format → Format → Format
join_formats never g = g
join_formats (of f) never = of f
join_formats (of f) (of g) = of (join_rows f g)

-- `same_format` (specs/Same.antt) is equality of formats.
use mathlib.Core.Bool.{Bool, true, false, ◌&&◌}
use mathlib.Core.Logic.{◌↔◌}
use mathlib.Core.Path.{◌≡◌, refl, ap}
use lib.Dec.{T}
use Rattle.shapes.specs.Leaf.{same_leaf}
use Rattle.shapes.specs.Format.{Shapes, end, item, group, Format, never, of}
use Rattle.shapes.specs.Same.{same_shapes, same_format}
use Rattle.shapes.proofs.LeafLaws.{leaf_same_equal, leaf_same_itself}

both : (a b : Bool) → T (a && b) → T a × T b
both true b h = (tt, h)
both false b h = elim h [ ]

-- shapes that pass the test are equal
shapes_equal : (f g : Shapes) → T (same_shapes f g) → f ≡ g
unfolding same_shapes
shapes_equal (end true) (end true) h = refl
shapes_equal (end false) (end false) h = refl
shapes_equal (item a f) (item b g) h =
    let (p, q) = both (same_leaf a b) (same_shapes f g) h in
    cc (leaf_same_equal a b p, shapes_equal f g q)
shapes_equal (group c f) (group d g) h =
    let (p, q) = both (same_shapes c d) (same_shapes f g) h in
    cc (shapes_equal c d p, shapes_equal f g q)
shapes_equal (end false) (end true) h = elim h [ ]
shapes_equal (end false) (item b g) h = elim h [ ]
shapes_equal (end false) (group d g) h = elim h [ ]
shapes_equal (end true) (end false) h = elim h [ ]
shapes_equal (end true) (item b g) h = elim h [ ]
shapes_equal (end true) (group d g) h = elim h [ ]
shapes_equal (item a f) (end _) h = elim h [ ]
shapes_equal (item a f) (group d g) h = elim h [ ]
shapes_equal (group c f) (end _) h = elim h [ ]
shapes_equal (group c f) (item b g) h = elim h [ ]

-- shapes pass the test with themselves
shapes_itself : (f : Shapes) → same_shapes f f ≡ true
unfolding same_shapes
shapes_itself (end true) = refl
shapes_itself (end false) = refl
shapes_itself (item b f) = rw (leaf_same_itself b, shapes_itself f)
shapes_itself (group g f) = rw (shapes_itself g, shapes_itself f)

-- formats that are the same are equal
pub same_equal : (f g : Format) → same_format f g ≡ true → f ≡ g
same_equal f g h = go f g (rw h tt)
  where
    go : (f g : Format) → T (same_format f g) → f ≡ g
    go never never h = refl
    go (of f) (of g) h = ap of (shapes_equal f g h)
    go never (of g) h = elim h [ ]
    go (of f) never h = elim h [ ]

-- a format is the same as itself
pub same_itself : (f : Format) → same_format f f ≡ true
same_itself never = refl
same_itself (of f) = shapes_itself f

-- the test is yes exactly of equal formats
pub same_exact : (f g : Format) → (same_format f g ≡ true) ↔ (f ≡ g)
same_exact f g = (same_equal f g, λ e. rw e (same_itself g))

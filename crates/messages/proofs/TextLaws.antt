-- How long the parts of a finding's text are.
use Prim.Native.Nat.{ℕ, ◌+◌, ◌*◌, ◌%◌, ◌≤◌}
use mathlib.Core.Bool.{Bool, true, false}
use mathlib.Core.List.{List, [], ◌∷◌}
use mathlib.Core.Path.{◌≡◌, refl}
use native.Mathlib.Omega.{arith}
use lib.ListN.{length, take, drop, get_or, length-append, length-take, length-drop}
use lib.Dec.{leb}
use Rattle.shapes.specs.Format.{Shapes, end, item, group, size}
use Rattle.shapes.specs.Words.{shapes_in, read_format}
use Rattle.buffers.specs.Code.Put.{Put}
use Rattle.shapes.specs.Display.{spaced, display}
use Rattle.shapes.proofs.WordLaws.{shapes_size}

-- a shape takes eight bytes at most
spaced_few : (f : Shapes) → length (spaced f) ≤ 8 * size f + 3
unfolding spaced size
spaced_few (end true) = omega arith
spaced_few (end false) = omega arith
spaced_few (item b f) = omega (arith, spaced_few f)
spaced_few (group g f) = omega (arith, spaced_few g, spaced_few f, length-append (drop 1 (spaced g)) (93 ∷ 41 ∷ spaced f), length-drop 1 (spaced g))

-- words say a format of at most 255 shapes
display_few : (s : List ℕ) → length (display (read_format s)) ≤ 2048
unfolding display read_format
display_few s = go (leb 512 (get_or s 0 0)) refl
  where
    go : (t : Bool) → leb 512 (get_or s 0 0) ≡ t → length (display (read_format s)) ≤ 2048
    go true q = rw q (omega arith)
    go false q =
        let shapes : Shapes = shapes_in (leb 256 (get_or s 0 0)) (take (get_or s 0 0 % 256) (drop 1 s)) in
        rw q (
        omega (
          arith,
          length-append (drop 1 (spaced shapes)) (93 ∷ []),
          length-drop 1 (spaced shapes),
          spaced_few shapes,
          shapes_size (leb 256 (get_or s 0 0)) (take (get_or s 0 0 % 256) (drop 1 s)),
          length-take (get_or s 0 0 % 256) (drop 1 s),
        )
        )

-- so the position after it is near
pub shown_near : (s : List ℕ) {old new : List ℕ} {at next : ℕ} → Put old at (display (read_format s)) next new → next ≤ at + 2048
shown_near s p = omega (arith, p.end, display_few s)

-- A format as formats.rs displays it: `never`, or its items between `[` and `]`, one space between them, with `..` last where it is open.
-- docs/SPECIFICATION.md, 6.1.
use Rattle.std.specs.Prelude.{ℕ, true, false, List, [], ◌∷◌, ◌++◌, drop, Option, Some, None}
use Rattle.file.specs.Answer.{Answer, refused, given}
use Rattle.shapes.specs.Leaf.{leaf_byte}
use Rattle.shapes.specs.Format.{Shapes, end, item, group, Format, never, of}
use Rattle.buffers.specs.Fitted.{fitted_at}

-- the items of a row, each after a space; a bracket's contents stand as a format between `(` and `)`
unfoldable pub spaced : Shapes → List ℕ
spaced (end false) = []
spaced (end true) = 32 ∷ 46 ∷ 46 ∷ []
spaced (item b f) = 32 ∷ leaf_byte b ∷ spaced f
spaced (group g f) = 32 ∷ 40 ∷ 91 ∷ drop 1 (spaced g) ++ 93 ∷ 41 ∷ spaced f

unfoldable pub display : Format → List ℕ
display never = 110 ∷ 101 ∷ 118 ∷ 101 ∷ 114 ∷ []
display (of f) = 91 ∷ drop 1 (spaced f) ++ 93 ∷ []

-- ---- a text put into a buffer

-- the position after the text; or 13, "the text does not fit"
abbrev pub shown_answer : Option ℕ → Answer ℕ
shown_answer (Some next) = given next
shown_answer None = refused 13

-- a format's text at a position of a buffer: all of it is written; where there is no room for all of it the buffer stays as it is
abbrev pub display_at : List ℕ → ℕ → Format → Answer ℕ × List ℕ
display_at buffer at f = fitted_at 13 buffer at (display f)

-- A format's words. Document 01, "Formats": "Header: shapes at all depths, + 256 if open, + 512 if never. Shapes depth first: 0 character, 1 number, 2 identifier, 3 symbol, 4 unknown;
-- bracket 5 + 8 × shapes inside, + 1,024 if its contents are open." A format has one word more than the limit on its shapes.
-- docs/SPECIFICATION.md, 5.2.
use Rattle.std.specs.Prelude.{ℕ, ◌+◌, ◌*◌, ◌-◌, ◌/◌, ◌%◌, ◌≤◌, min, Bool, cond, List, [], ◌∷◌, ◌++◌, length, take, drop, get_or, replicate, eqb, leb}
use Rattle.file.specs.Forest as forest
use Rattle.shapes.specs.Leaf.{leaf_word, leaf_at}
use Rattle.shapes.specs.Format.{Shapes, end, item, group, Format, never, of, size, format_size, is_open}

abbrev pub bracket_word : ℕ → Bool → ℕ
bracket_word inside o = 5 + 8 * inside + cond o 1024 0

unfoldable pub shape_words : Shapes → List ℕ
shape_words (end o) = []
shape_words (item b f) = leaf_word b ∷ shape_words f
shape_words (group g f) = bracket_word (size g) (is_open g) ∷ shape_words g ++ shape_words f

abbrev pub header_word : Format → ℕ
header_word never = 512
header_word (of f) = size f + cond (is_open f) 256 0

abbrev pub used_words : Format → List ℕ
used_words never = 512 ∷ []
used_words (of f) = header_word (of f) ∷ shape_words f

-- filled with zeros to so many words
abbrev pub filled : ℕ → List ℕ → List ℕ
filled n s = s ++ replicate (n - length s) 0

-- a format's words, one more than the limit
abbrev pub format_words : ℕ → Format → List ℕ
format_words limit f = filled (limit + 1) (used_words f)

-- a format that the store has words for: at most so many shapes
abbrev pub Encodable : ℕ → Format → Type 0
Encodable limit f = format_size f ≤ limit

-- ---- the words read back, whatever words they are

-- is this shape's word a bracket's?
abbrev pub is_bracket : ℕ → Bool
is_bracket w = eqb (w % 8) 5

-- are the contents of a bracket's word open?
abbrev pub inside_open : ℕ → Bool
inside_open w = leb 1024 w

-- the shapes inside a shape's word
abbrev pub inside_of : ℕ → ℕ
inside_of w = cond (is_bracket w) (w / 8 % 128) 0

-- where the contents of the first shape end: at the last word at most
unfoldable pub shapes_end : List ℕ → ℕ
shapes_end s = min (1 + inside_of (get_or s 0 0)) (length s)

-- a forest of shapes' words, in a row that is closed or open
unfoldable pub shapes_of : Bool → forest.Forest → Shapes
shapes_of o forest.Forest.end = end o
shapes_of o (forest.Forest.node s inside after) =
    cond (is_bracket (get_or s 0 0))
    (group (shapes_of (inside_open (get_or s 0 0)) inside) (shapes_of o after))
    (item (leaf_at (get_or s 0 0)) (shapes_of o after))

-- the shapes that words say, in a row that is closed or open
unfoldable pub shapes_in : Bool → List ℕ → Shapes
shapes_in o s = shapes_of o (forest.forest_of 1 shapes_end s)

-- the format that a header and the words after it say
unfoldable pub read_format : List ℕ → Format
read_format s =
    cond (leb 512 (get_or s 0 0)) never
    (of (shapes_in (leb 256 (get_or s 0 0)) (take (get_or s 0 0 % 256) (drop 1 s))))

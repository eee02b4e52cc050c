-- Examples of the definitions, by computation. The table of document 01's small laws stands in the crate `lints`.
use Rattle.std.specs.Prelude.{true, false, [], ◌∷◌, ◌≡◌, refl, replicate}
use Rattle.file.specs.Answer.{refused, given}
use Rattle.file.specs.Forest.{decode, forest_of}
use Rattle.law.specs.Examples.{bytes_of}
use Rattle.shapes.specs.Leaf.{character, number, identifier, any_symbol, unknown}
use Rattle.shapes.specs.Format.{Shapes, end, item, group, Format, never, of, size, is_open}
use Rattle.shapes.specs.Words.{shape_words, format_words, shapes_end, shapes_of, shapes_in, read_format}
use Rattle.buffers.specs.Written.{written}
use Rattle.shapes.specs.Display.{spaced, display, display_at}

-- the ends of a row
abbrev pub closed : Shapes
closed = end false

abbrev pub opened : Shapes
opened = end true

-- as formats.rs displays formats
abbrev Displays : Type 0
Displays =
    (display never ≡ bytes_of "never")
    × (display (of closed) ≡ bytes_of "[]")
    × (display (of opened) ≡ bytes_of "[..]")
    × (display (of (item identifier closed)) ≡ bytes_of "[I]")
    × (display (of (item character (item number opened))) ≡ bytes_of "[C N ..]")
    × (display (of (group (item character closed) (item unknown closed))) ≡ bytes_of "[([C]) ?]")
    × (display (of (item any_symbol (group closed (group opened opened)))) ≡ bytes_of "[S ([]) ([..]) ..]")

displays : Displays
unfolding spaced display bytes_of
displays = (refl, refl, refl, refl, refl, refl, refl)

-- a text where there is room for it, and where one byte is wanting; no words are the empty format
abbrev Texts : Type 0
Texts =
    (display_at (replicate 3 0) 1 (of closed) ≡ (given 3, 0 ∷ 91 ∷ 93 ∷ []))
    × (display_at (replicate 3 0) 2 (of closed) ≡ (refused 13, 0 ∷ 0 ∷ 0 ∷ []))
    × (display (read_format []) ≡ bytes_of "[]")

texts : Texts
unfolding written spaced display bytes_of shapes_end shapes_of shapes_in read_format decode forest_of
texts = (refl, refl, refl)

-- [([C ..]) ? ..]: three shapes, of which one stands in a bracket whose contents are open
abbrev nested : Format
nested = of (group (item character opened) (item unknown opened))

-- a format's words, read back, and words that no format has
abbrev Words : Type 0
Words =
    (format_words 4 never ≡ 512 ∷ 0 ∷ 0 ∷ 0 ∷ 0 ∷ [])
    × (format_words 4 (of closed) ≡ replicate 5 0)
    × (format_words 4 (of opened) ≡ 256 ∷ 0 ∷ 0 ∷ 0 ∷ 0 ∷ [])
    × (format_words 4 nested ≡ 259 ∷ 1037 ∷ 0 ∷ 4 ∷ 0 ∷ [])
    × (read_format (259 ∷ 1037 ∷ 0 ∷ 4 ∷ 0 ∷ []) ≡ nested)
    -- a bracket that says more shapes than there are, and a word of no kind
    × (read_format (2 ∷ 805 ∷ 1 ∷ []) ≡ of (group (item number closed) closed))
    × (read_format (1 ∷ 7 ∷ []) ≡ of (item unknown closed))

words : Words
unfolding size is_open shape_words shapes_end shapes_of shapes_in read_format decode forest_of
words = (refl, refl, refl, refl, refl, refl, refl)

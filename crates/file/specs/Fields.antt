-- Row 5 of the table: "value not allowed above, or outside the text". Every record of sections 2 and 5 is looked at, whether a run reaches it or not.
-- What a count or `n` may be belongs to row 6.
-- docs/SPECIFICATION.md, 1.5, 1.7, 2.2.
use Rattle.std.specs.Prelude.{ℕ, ◌+◌, ◌*◌, List, [], ◌∷◌, Bool, false, not, ◌&&◌, length, take, drop, get_or, leb, eqb}
use Rattle.names.specs.Name.{between, name_allowed, number_allowed}
use Rattle.file.specs.Word.{word_at}
use Rattle.file.specs.Below.{every}
use Rattle.file.specs.Sections.{File}

-- a part that lies inside the text and is spelled as the test asks
unfoldable pub spelled : (List ℕ → Bool) → List ℕ → ℕ → ℕ → Bool
spelled allowed text start len = leb (start + len) (length text) && allowed (take len (drop start text))

-- "Unused fields are 0"
abbrev pub unused : ℕ → Bool
unused n = eqb n 0

-- a Unicode scalar value: at most 0x10FFFF, and no surrogate
abbrev pub scalar_allowed : ℕ → Bool
scalar_allowed a = leb a 0x10FFFF && not (between 0xD800 0xDFFF a)

-- the words kind, a, b and n of a term record
unfoldable pub term_allowed : List ℕ → ℕ → ℕ → ℕ → ℕ → Bool
term_allowed text kind a b n =
    let name : Bool = spelled name_allowed text a b in
    get_or
    ((scalar_allowed a && unused b && unused n)
    ∷ (name && unused n)
    ∷ (spelled number_allowed text a b && unused n)
    ∷ (name && unused n)
    ∷ (name && unused n)
    ∷ (name && unused n)
    ∷ (unused a && unused b)
    ∷ name
    ∷ unused b
    ∷ []) kind false

-- the term record at a byte position
abbrev pub term_fields_at : List ℕ → List ℕ → ℕ → Bool
term_fields_at text terms at = term_allowed text (word_at terms at) (word_at terms (at + 4)) (word_at terms (at + 8)) (word_at terms (at + 12))

-- the function record at a byte position: the start and length of its name
abbrev pub function_fields_at : List ℕ → List ℕ → ℕ → Bool
function_fields_at text functions at = spelled name_allowed text (word_at functions at) (word_at functions (at + 4))

abbrev pub functions_allowed : List ℕ → List ℕ → ℕ → Bool
functions_allowed text functions count = every count (λ f. function_fields_at text functions (20 * f))

abbrev pub terms_allowed : List ℕ → List ℕ → ℕ → Bool
terms_allowed text terms count = every count (λ t. term_fields_at text terms (24 * t))

unfoldable pub fields_allowed : File → Bool
fields_allowed file =
    functions_allowed file.text.records file.functions.records file.functions.count
    && terms_allowed file.text.records file.terms.records file.terms.count

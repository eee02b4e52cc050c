-- The lexical grammar of a law typed as text, without a reader: which bytes a character, a token, a blank and a comment are, and what a text is made of.
-- Document 02, R-1: "single-quoted runs of one or more characters, none `'` or backslash, identifiers, decimal numbers, brackets, calls, conditions, and `/* */`
-- comments, which do not nest", "Between tokens stand spaces, tabs, line feeds, carriage returns or comments, or nothing. Identifiers begin with a letter; a token is
-- the longest that fits. The text is UTF-8".
--
--   text       = { blank | comment | token }, each token the longest that fits where it stands
--   token      = sign | identifier | number | variable | quoted
--   identifier = letter { letter | digit | "-" | "_" }
--   number     = digit { digit }
--   variable   = ( "s" | "t" | "e" ) "." index, the index one or more of letter, digit, "-", "_"
--   quoted     = "'" character { character } "'", each character any but "'" and "\"
--   comment    = "/*" characters without "*/" "*/"
--   blank      = space | tab | line feed | carriage return
--
-- Whatever is more than ASCII stands in quotes and comments, and these hold characters, given by their scalar values. So no clause is needed for bytes that are not
-- UTF-8: no character has an overlong form, a surrogate's or one past 0x10FFFF.
-- docs/SPECIFICATION.md, 19.1 to 19.4.
use Rattle.std.specs.Prelude.{ℕ, ◌+◌, ◌/◌, ◌%◌, ◌≤◌, List, [], ◌∷◌, ◌++◌, Bool, true, false, cond, not, ◌&&◌, ◌≡◌, length, ltb, eqb}
use Rattle.names.specs.Name.{digit_byte, letter_byte, name_byte, every_byte}
use Rattle.file.specs.Fields.{scalar_allowed}
use Rattle.law.specs.Tree.{Kind, symbol_kind, term_kind, expression_kind}

-- ---- characters

-- the bytes of a character, given by its Unicode scalar value
unfoldable pub utf8 : ℕ → List ℕ
utf8 c =
    cond (ltb c 0x80) (c ∷ [])
    (cond (ltb c 0x800) ((0xC0 + c / 64) ∷ (0x80 + c % 64) ∷ [])
    (cond (ltb c 0x10000) ((0xE0 + c / 4096) ∷ (0x80 + c / 64 % 64) ∷ (0x80 + c % 64) ∷ [])
    ((0xF0 + c / 262144) ∷ (0x80 + c / 4096 % 64) ∷ (0x80 + c / 64 % 64) ∷ (0x80 + c % 64) ∷ [])))

-- the bytes of some characters
unfoldable pub characters_bytes : List ℕ → List ℕ
characters_bytes [] = []
characters_bytes (c ∷ cs) = utf8 c ++ characters_bytes cs

-- ---- tokens

-- tokens with one spelling: `{` `}` `(` `)` `<` `>` `,` `:` `=` `;` `$ENTRY` `$EXTERN`
pub data Sign : Type 0 where
  left_brace right_brace left_bracket right_bracket left_angle right_angle comma colon equals semicolon dollar_entry dollar_extern : Sign

-- their bytes
abbrev pub sign_bytes : Sign → List ℕ
sign_bytes left_brace = 123 ∷ []
sign_bytes right_brace = 125 ∷ []
sign_bytes left_bracket = 40 ∷ []
sign_bytes right_bracket = 41 ∷ []
sign_bytes left_angle = 60 ∷ []
sign_bytes right_angle = 62 ∷ []
sign_bytes comma = 44 ∷ []
sign_bytes colon = 58 ∷ []
sign_bytes equals = 61 ∷ []
sign_bytes semicolon = 59 ∷ []
sign_bytes dollar_entry = 36 ∷ 69 ∷ 78 ∷ 84 ∷ 82 ∷ 89 ∷ []
sign_bytes dollar_extern = 36 ∷ 69 ∷ 88 ∷ 84 ∷ 69 ∷ 82 ∷ 78 ∷ []

-- the other tokens: an identifier and a number by their bytes, a variable by its kind and index, a quoted run by its characters
pub data Atom : Type 0 where
  identifier : List ℕ → Atom
  number : List ℕ → Atom
  variable : Kind → List ℕ → Atom
  quoted : List ℕ → Atom

-- a character that may stand between quotes: any but `'` and `\`
abbrev pub quotable : ℕ → Bool
quotable c = scalar_allowed c && not (eqb c 39) && not (eqb c 92)

-- what each may hold
abbrev pub atom_allowed : Atom → Bool
atom_allowed (identifier []) = false
atom_allowed (identifier (c ∷ cs)) = letter_byte c && every_byte name_byte cs
atom_allowed (number []) = false
atom_allowed (number (c ∷ cs)) = every_byte digit_byte (c ∷ cs)
atom_allowed (variable k []) = false
atom_allowed (variable k (c ∷ cs)) = every_byte name_byte (c ∷ cs)
atom_allowed (quoted []) = false
atom_allowed (quoted (c ∷ cs)) = every_byte quotable (c ∷ cs)

-- `s`, `t` or `e`
abbrev pub kind_byte : Kind → ℕ
kind_byte symbol_kind = 115
kind_byte term_kind = 116
kind_byte expression_kind = 101

-- its number in a term record: docs/SPECIFICATION.md, 1.5
abbrev pub kind_number : Kind → ℕ
kind_number symbol_kind = 3
kind_number term_kind = 4
kind_number expression_kind = 5

-- the bytes of an atom
abbrev pub atom_bytes : Atom → List ℕ
atom_bytes (identifier cs) = cs
atom_bytes (number cs) = cs
atom_bytes (variable k i) = kind_byte k ∷ 46 ∷ i
atom_bytes (quoted cs) = 39 ∷ characters_bytes cs ++ (39 ∷ [])

-- a token, what it may hold, and its bytes
pub data Token : Type 0 where
  sign : Sign → Token
  atom : Atom → Token

abbrev pub token_allowed : Token → Bool
token_allowed (sign g) = true
token_allowed (atom a) = atom_allowed a

abbrev pub token_bytes : Token → List ℕ
token_bytes (sign g) = sign_bytes g
token_bytes (atom a) = atom_bytes a

-- ---- pieces

-- what may stand between tokens besides comments
pub data Blank : Type 0 where
  space tab line_feed carriage_return : Blank

abbrev pub blank_byte : Blank → ℕ
blank_byte space = 32
blank_byte tab = 9
blank_byte line_feed = 10
blank_byte carriage_return = 13

-- what a text is made of; a comment by the characters between `/*` and `*/`
pub data Piece : Type 0 where
  blank : Blank → Piece
  comment : List ℕ → Piece
  token : Token → Piece

-- a character and those after it do not begin with `*/`
abbrev pub apart : ℕ → List ℕ → Bool
apart c [] = true
apart c (d ∷ cs) = not (eqb c 42 && eqb d 47)

-- no `*/` stands in these characters
unfoldable pub unclosed : List ℕ → Bool
unclosed [] = true
unclosed (c ∷ cs) = apart c cs && unclosed cs

-- what each may hold
abbrev pub piece_allowed : Piece → Bool
piece_allowed (blank b) = true
piece_allowed (comment cs) = every_byte scalar_allowed cs && unclosed cs
piece_allowed (token t) = token_allowed t

-- the bytes of a piece
abbrev pub piece_bytes : Piece → List ℕ
piece_bytes (blank b) = blank_byte b ∷ []
piece_bytes (comment cs) = 47 ∷ 42 ∷ characters_bytes cs ++ (42 ∷ 47 ∷ [])
piece_bytes (token t) = token_bytes t

-- the bytes of pieces one after the other
unfoldable pub pieces_bytes : List Piece → List ℕ
pieces_bytes [] = []
pieces_bytes (p ∷ ps) = piece_bytes p ++ pieces_bytes ps

-- ---- "a token is the longest that fits"

-- a token that fits where these bytes begin
pub record Fits (t : Token) (s : List ℕ) : Type 0 where
  pub allowed : token_allowed t ≡ true
  pub after : List ℕ
  pub whole : token_bytes t ++ after ≡ s

-- whatever token fits there is not longer
abbrev pub Longest : Token → List ℕ → Type 0
Longest t s = (u : Token) → Fits u s → length (token_bytes u) ≤ length (token_bytes t)

-- what is asked of a piece where these bytes begin
abbrev pub Stands : Piece → List ℕ → Type 0
Stands (blank b) s = Unit {0}
Stands (comment cs) s = Unit {0}
Stands (token t) s = Longest t s

-- these are the pieces of a text, the one of the bytes `pieces_bytes`
abbrev pub Lexed : List Piece → Type 0
Lexed [] = Unit {0}
Lexed (p ∷ ps) = (piece_allowed p ≡ true) × Stands p (piece_bytes p ++ pieces_bytes ps) × Lexed ps

-- ---- where tokens stand

-- a token and the byte where it starts
pub record Placed : Type 0 where
  pub start : ℕ
  pub what : Token

-- the tokens among these pieces, the first piece at a byte
unfoldable pub placed : ℕ → List Piece → List Placed
placed at [] = []
placed at (blank b ∷ ps) = placed (at + length (piece_bytes (blank b))) ps
placed at (comment cs ∷ ps) = placed (at + length (piece_bytes (comment cs))) ps
placed at (token t ∷ ps) = record { start = at; what = t } ∷ placed (at + length (piece_bytes (token t))) ps

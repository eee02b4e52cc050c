-- Lexical corners of document 02's R-1, by computation: a text, and its tokens; none are those of a text that is not made of pieces.
use Rattle.std.specs.Prelude.{ℕ, List, [], ◌∷◌, ◌++◌, map, ◌≡◌, refl, replicate}
use Prim.Native.String.{String}
use Rattle.std.proofs.Math.Option.{Option, none, some}
use Rattle.names.specs.Name.{every_byte}
use Rattle.law.specs.Text.{bytes_of}
use Rattle.law.specs.Tree.{symbol_kind, term_kind, expression_kind}
use Rattle.tokens.specs.Token.{utf8, characters_bytes, left_brace, right_brace, left_bracket, right_bracket, left_angle, right_angle, comma, colon, equals, semicolon, dollar_entry, dollar_extern, identifier, number, variable, quoted, Token, sign, atom, Piece, unclosed, Placed, placed}
use Rattle.tokens.specs.Lex.{leading, begins, character_in, characters_to, index_after, guess, next, lex_from, lex}

-- ---- how a row is written

-- tokens by what is written
abbrev word : String → Token
word w = atom (identifier (bytes_of w))

abbrev digits : String → Token
digits w = atom (number (bytes_of w))

abbrev s_variable : String → Token
s_variable i = atom (variable symbol_kind (bytes_of i))

abbrev t_variable : String → Token
t_variable i = atom (variable term_kind (bytes_of i))

abbrev e_variable : String → Token
e_variable i = atom (variable expression_kind (bytes_of i))

abbrev in_quotes : String → Token
in_quotes w = atom (quoted (bytes_of w))

abbrev Row : Type 0
Row = List ℕ × Option (List Token)

-- bytes with these tokens, or with none
abbrev bytes : List ℕ → List Token → Row
bytes text tokens = (text, some tokens)

abbrev no_bytes : List ℕ → Row
no_bytes text = (text, none)

-- the same of a text
abbrev has : String → List Token → Row
has text tokens = bytes (bytes_of text) tokens

abbrev no : String → Row
no text = no_bytes (bytes_of text)

-- the tokens that the lexer finds
abbrev tokens_in : Option (List Piece) → Option (List Token)
tokens_in none = none
tokens_in (some ps) = some (map (λ (p : Placed). p.what) (placed 0 ps))

abbrev tokens_found : List Row → List (Option (List Token))
tokens_found rows = map (λ (r : Row). tokens_in (lex r.0)) rows

abbrev wanted : List Row → List (Option (List Token))
wanted rows = map (λ (r : Row). r.1) rows

-- ---- "a token is the longest that fits"

abbrev longest : List Row
longest =
    -- a letter goes on with the index before it, and the point after it is stray
    no "e.1e.2"
    ∷ no "s.1t.2"
    ∷ has "e.1 e.2" (e_variable "1" ∷ e_variable "2" ∷ [])
    ∷ has "e.1'a'" (e_variable "1" ∷ in_quotes "a" ∷ [])
    ∷ has "1e.X" (digits "1" ∷ e_variable "X" ∷ [])
    ∷ has "12ab" (digits "12" ∷ word "ab" ∷ [])
    ∷ has "'a''b'" (in_quotes "a" ∷ in_quotes "b" ∷ [])
    ∷ has "e.X-1" (e_variable "X-1" ∷ [])
    ∷ has "e._" (e_variable "_" ∷ [])
    ∷ has "e.-" (e_variable "-" ∷ [])
    ∷ []

-- ---- identifiers, numbers and variables

abbrev atoms : List Row
atoms =
    has "s t e S" (word "s" ∷ word "t" ∷ word "e" ∷ word "S" ∷ [])
    ∷ has "s.X t.y_2 e.0" (s_variable "X" ∷ t_variable "y_2" ∷ e_variable "0" ∷ [])
    ∷ has "a-b_9-" (word "a-b_9-" ∷ [])
    ∷ has "007" (digits "007" ∷ [])
    -- identifiers begin with a letter
    ∷ no "-a"
    ∷ no "_a"
    -- a variable's letter is s, t or e, in lower case, with its point and its index
    ∷ no "E.X"
    ∷ no "e. X"
    ∷ no "e .X"
    ∷ no "e."
    ∷ no "x.X"
    ∷ no "ss.X"
    ∷ no "e.X.Y"
    -- no token is limited in length
    ∷ bytes (replicate 65 65) (atom (identifier (replicate 65 65)) ∷ [])
    ∷ bytes (replicate 65 55) (atom (number (replicate 65 55)) ∷ [])
    ∷ bytes (115 ∷ 46 ∷ replicate 65 65) (atom (variable symbol_kind (replicate 65 65)) ∷ [])
    ∷ []

-- ---- signs

abbrev signs : List Row
signs =
    has "{}()<>" (sign left_brace ∷ sign right_brace ∷ sign left_bracket ∷ sign right_bracket ∷ sign left_angle ∷ sign right_angle ∷ [])
    ∷ has ",:=;" (sign comma ∷ sign colon ∷ sign equals ∷ sign semicolon ∷ [])
    -- nothing need stand after `$ENTRY` and `$EXTERN`; they are in upper case
    ∷ has "$ENTRYGo" (sign dollar_entry ∷ word "Go" ∷ [])
    ∷ has "$EXTERNF;" (sign dollar_extern ∷ word "F" ∷ sign semicolon ∷ [])
    ∷ has "$EXTERNAL" (sign dollar_extern ∷ word "AL" ∷ [])
    ∷ no "$EXTRN"
    ∷ no "$Entry"
    ∷ no "$ ENTRY"
    ∷ no "$"
    -- no other sign
    ∷ no "\""
    ∷ no "[a : b]"
    ∷ no "+"
    ∷ no "."
    ∷ []

-- ---- blanks and comments

abbrev blanks : List Row
blanks =
    has "" []
    ∷ has " \t\r\n" []
    -- a comment parts tokens, and ends at the first `*/`
    ∷ has "/**/" []
    ∷ has "/***/" []
    ∷ has "/*/*/" []
    ∷ has "a/* b */c" (word "a" ∷ word "c" ∷ [])
    ∷ has "e.X/**/Y" (e_variable "X" ∷ word "Y" ∷ [])
    ∷ has "/* ' \\ \" { */" []
    ∷ no "/*/"
    ∷ no "/* /* */ */"
    ∷ no "/* a"
    ∷ no "/ * */"
    ∷ no "/"
    -- form feed, vertical tab, NUL and a byte order mark are no blanks
    ∷ no_bytes (12 ∷ [])
    ∷ no_bytes (11 ∷ [])
    ∷ no_bytes (0 ∷ [])
    ∷ no_bytes (239 ∷ 187 ∷ 191 ∷ [])
    ∷ []

-- ---- quoted runs

abbrev quotes : List Row
quotes =
    has "'a b'" (in_quotes "a b" ∷ [])
    -- comments and signs in quotes are characters, as are line feeds and NUL
    ∷ has "'/* */'" (in_quotes "/* */" ∷ [])
    ∷ has "'\"'" (in_quotes "\"" ∷ [])
    ∷ has "'\n'" (in_quotes "\n" ∷ [])
    ∷ bytes (39 ∷ 0 ∷ 39 ∷ []) (atom (quoted (0 ∷ [])) ∷ [])
    -- one or more characters, none `'` or backslash
    ∷ no "''"
    ∷ no "'''"
    ∷ no "'a"
    ∷ no "'\\'"
    ∷ no "'a\\n'"
    ∷ []

-- ---- UTF-8

-- bytes in quotes, and the one character that they are
abbrev quote : List ℕ → List ℕ
quote text = 39 ∷ text ++ (39 ∷ [])

abbrev scalar : List ℕ → ℕ → Row
scalar text c = bytes (quote text) (atom (quoted (c ∷ [])) ∷ [])

abbrev characters : List Row
characters =
    scalar (127 ∷ []) 0x7F
    ∷ scalar (194 ∷ 128 ∷ []) 0x80
    ∷ scalar (223 ∷ 191 ∷ []) 0x7FF
    ∷ scalar (224 ∷ 160 ∷ 128 ∷ []) 0x800
    ∷ scalar (237 ∷ 159 ∷ 191 ∷ []) 0xD7FF
    ∷ scalar (238 ∷ 128 ∷ 128 ∷ []) 0xE000
    ∷ scalar (239 ∷ 187 ∷ 191 ∷ []) 0xFEFF
    ∷ scalar (239 ∷ 191 ∷ 191 ∷ []) 0xFFFF
    ∷ scalar (240 ∷ 144 ∷ 128 ∷ 128 ∷ []) 0x10000
    ∷ scalar (244 ∷ 143 ∷ 191 ∷ 191 ∷ []) 0x10FFFF
    -- past the last scalar value
    ∷ no_bytes (quote (244 ∷ 144 ∷ 128 ∷ 128 ∷ []))
    ∷ no_bytes (quote (248 ∷ 136 ∷ 128 ∷ 128 ∷ 128 ∷ []))
    -- surrogates
    ∷ no_bytes (quote (237 ∷ 160 ∷ 128 ∷ []))
    ∷ no_bytes (quote (237 ∷ 191 ∷ 191 ∷ []))
    -- overlong forms
    ∷ no_bytes (quote (192 ∷ 128 ∷ []))
    ∷ no_bytes (quote (193 ∷ 191 ∷ []))
    ∷ no_bytes (quote (224 ∷ 159 ∷ 191 ∷ []))
    ∷ no_bytes (quote (240 ∷ 143 ∷ 191 ∷ 191 ∷ []))
    -- bytes that are missing, or too many
    ∷ no_bytes (quote (226 ∷ 130 ∷ []))
    ∷ no_bytes (quote (194 ∷ []))
    ∷ no_bytes (quote (128 ∷ []))
    ∷ no_bytes (quote (194 ∷ 128 ∷ 128 ∷ []))
    ∷ no_bytes (quote (255 ∷ []))
    -- in comments too, and nowhere else
    ∷ bytes (47 ∷ 42 ∷ 195 ∷ 169 ∷ 42 ∷ 47 ∷ []) []
    ∷ no_bytes (47 ∷ 42 ∷ 255 ∷ 42 ∷ 47 ∷ [])
    ∷ no_bytes (47 ∷ 42 ∷ 195 ∷ 42 ∷ 47 ∷ [])
    ∷ no_bytes (195 ∷ 169 ∷ [])
    ∷ []

-- ---- all of them

abbrev corners : List Row
corners = longest ++ atoms ++ signs ++ blanks ++ quotes ++ characters

lexical_corners : tokens_found corners ≡ wanted corners
unfolding bytes_of every_byte utf8 characters_bytes unclosed placed leading begins character_in characters_to index_after guess next lex_from lex
lexical_corners = refl

-- A lexer: at each place a piece is guessed by its first bytes, and taken if it is allowed and the bytes begin with it. What it takes is `Lexed`, and the only such
-- reading: `found_lexed`, `lexed_found` and `lexed_once` of proofs/Lexing.antt.
-- docs/SPECIFICATION.md, 19.4.
use Rattle.std.specs.Prelude.{ℕ, zero, suc, ◌+◌, ◌*◌, ◌-◌, List, [], ◌∷◌, Bool, true, false, cond, ◌&&◌, length, drop, get_or, ltb, eqb}
use Rattle.std.proofs.Math.Option.{Option, none, some}
use Rattle.names.specs.Name.{digit_byte, letter_byte, name_byte}
use Rattle.law.specs.Tree.{Kind, symbol_kind, term_kind, expression_kind}
use Rattle.tokens.specs.Token.{utf8, Sign, left_brace, right_brace, left_bracket, right_bracket, left_angle, right_angle, comma, colon, equals, semicolon, dollar_entry, dollar_extern, Atom, identifier, number, variable, quoted, sign, atom, space, tab, line_feed, carriage_return, Piece, blank, comment, token, piece_allowed, piece_bytes}

-- the bytes at the start that pass a test
unfoldable pub leading : (ℕ → Bool) → List ℕ → List ℕ
leading p [] = []
leading p (c ∷ s) = cond (p c) (c ∷ leading p s) []

-- bytes that begin with others
unfoldable pub begins : List ℕ → List ℕ → Bool
begins [] s = true
begins (x ∷ xs) [] = false
begins (x ∷ xs) (y ∷ ys) = eqb x y && begins xs ys

-- ---- characters

-- the character at the start, if one is there
unfoldable pub character_in : List ℕ → ℕ
character_in s =
    let b : ℕ = get_or s 0 0 in
    let c : ℕ = get_or s 1 0 - 128 in
    let d : ℕ = get_or s 2 0 - 128 in
    let e : ℕ = get_or s 3 0 - 128 in
    cond (ltb b 128) b
    (cond (ltb b 224) ((b - 192) * 64 + c)
    (cond (ltb b 240) ((b - 224) * 4096 + c * 64 + d)
    ((b - 240) * 262144 + c * 4096 + d * 64 + e)))

-- the characters up to a place where a test passes, at most so many
unfoldable pub characters_to : (List ℕ → Bool) → ℕ → List ℕ → List ℕ
characters_to stop zero s = []
characters_to stop (suc k) s =
    elim (stop s) as (λ _. List ℕ) [
      | true ↦ []
      | false ↦ character_in s ∷ characters_to stop k (drop (length (utf8 (character_in s))) s)
    ]

-- a quote, or nothing more
abbrev pub at_quote : List ℕ → Bool
at_quote s = eqb (get_or s 0 39) 39

-- `*/`
abbrev pub at_close : List ℕ → Bool
at_close s = eqb (get_or s 0 0) 42 && eqb (get_or s 1 0) 47

-- ---- identifiers and variables

-- the kind of variable that a letter begins
abbrev pub variable_kind : ℕ → Option Kind
variable_kind c = cond (eqb c 115) (some symbol_kind) (cond (eqb c 116) (some term_kind) (cond (eqb c 101) (some expression_kind) none))

-- the index after a point
unfoldable pub index_after : List ℕ → List ℕ
index_after [] = []
index_after (d ∷ s) = cond (eqb d 46) (leading name_byte s) []

-- what a letter begins: a variable where it is one's and an index follows it, else an identifier
abbrev pub identifier_or_variable : Option Kind → List ℕ → ℕ → List ℕ → Atom
identifier_or_variable none i c s = identifier (c ∷ leading name_byte s)
identifier_or_variable (some k) [] c s = identifier (c ∷ leading name_byte s)
identifier_or_variable (some k) (x ∷ i) c s = variable k (x ∷ i)

-- ---- pieces

-- a sign as a piece
abbrev pub sign_piece : Sign → Option Piece
sign_piece g = some (token (sign g))

-- a piece that begins with neither a digit nor a letter
abbrev pub guess_other : ℕ → List ℕ → Option Piece
guess_other c s =
    cond (eqb c 32) (some (blank space))
    (cond (eqb c 10) (some (blank line_feed))
    (cond (eqb c 9) (some (blank tab))
    (cond (eqb c 13) (some (blank carriage_return))
    (cond (eqb c 39) (some (token (atom (quoted (characters_to at_quote (length s) s)))))
    (cond (eqb c 47) (some (comment (characters_to at_close (length s) (drop 1 s))))
    (cond (eqb c 36) (cond (eqb (get_or s 1 0) 78) (sign_piece dollar_entry) (sign_piece dollar_extern))
    (cond (eqb c 123) (sign_piece left_brace)
    (cond (eqb c 125) (sign_piece right_brace)
    (cond (eqb c 40) (sign_piece left_bracket)
    (cond (eqb c 41) (sign_piece right_bracket)
    (cond (eqb c 60) (sign_piece left_angle)
    (cond (eqb c 62) (sign_piece right_angle)
    (cond (eqb c 44) (sign_piece comma)
    (cond (eqb c 58) (sign_piece colon)
    (cond (eqb c 61) (sign_piece equals)
    (cond (eqb c 59) (sign_piece semicolon) none))))))))))))))))

-- the piece that may stand at the start
unfoldable pub guess : List ℕ → Option Piece
guess [] = none
guess (c ∷ s) =
    cond (digit_byte c) (some (token (atom (number (c ∷ leading digit_byte s)))))
    (cond (letter_byte c) (some (token (atom (identifier_or_variable (variable_kind c) (index_after s) c s))))
    (guess_other c s))

-- a piece that is allowed, where the bytes begin with it
abbrev pub checked : List ℕ → Option Piece → Option Piece
checked s none = none
checked s (some p) = cond (piece_allowed p && begins (piece_bytes p) s) (some p) none

-- the piece at the start
unfoldable pub next : List ℕ → Option Piece
next s = checked s (guess s)

-- a piece before others, where there are some
abbrev pub piece_before : Piece → Option (List Piece) → Option (List Piece)
piece_before p none = none
piece_before p (some ps) = some (p ∷ ps)

-- the pieces of some bytes, at most so many
unfoldable pub lex_from : ℕ → List ℕ → Option (List Piece)
lex_from zero [] = some []
lex_from zero (c ∷ s) = none
lex_from (suc k) [] = some []
lex_from (suc k) (c ∷ s) =
    elim (next (c ∷ s)) as (λ _. Option (List Piece)) [
      | none ↦ none
      | some p ↦ piece_before p (lex_from k (drop (length (piece_bytes p)) (c ∷ s)))
    ]

-- the pieces of a text; none where it has none
unfoldable pub lex : List ℕ → Option (List Piece)
lex s = lex_from (length s) s

-- Kinds of tokens, as the code has them, and as numbers: a sign by a byte of its own, `$ENTRY` as `E` and `$EXTERN` as `X`, an identifier 1, a number 2, a variable
-- as its term record (3 to 5), a quoted run 6.
use Rattle.std.specs.Prelude.{ℕ, Option, Some, None, cond, eqb, ◌≡◌}
use Rattle.law.specs.Tree.{symbol_kind, term_kind, expression_kind}
use Rattle.tokens.specs.Token.{Sign, left_brace, right_brace, left_bracket, right_bracket, left_angle, right_angle, comma, colon, equals, semicolon, dollar_entry, dollar_extern, Atom, identifier, number, variable, quoted, kind_number, Token, sign, atom}
use Rattle.tokens.specs.declared.kinds.Kind.{Kind}
use Rattle.tokens.specs.declared.kinds.Kind.TheVariants.{Identifier, Number, SymbolVariable, TermVariable, ExpressionVariable, Quoted, LeftBrace, RightBrace, LeftBracket, RightBracket, LeftAngle, RightAngle, Comma, Colon, Equals, Semicolon, Entry, Extern}

-- the number of the kind of a sign, of an atom and of any token
abbrev pub sign_kind : Sign → ℕ
sign_kind left_brace = 123
sign_kind right_brace = 125
sign_kind left_bracket = 40
sign_kind right_bracket = 41
sign_kind left_angle = 60
sign_kind right_angle = 62
sign_kind comma = 44
sign_kind colon = 58
sign_kind equals = 61
sign_kind semicolon = 59
sign_kind dollar_entry = 69
sign_kind dollar_extern = 88

abbrev pub atom_kind : Atom → ℕ
atom_kind (identifier w) = 1
atom_kind (number w) = 2
atom_kind (variable k w) = kind_number k
atom_kind (quoted w) = 6

abbrev pub token_kind : Token → ℕ
token_kind (sign g) = sign_kind g
token_kind (atom a) = atom_kind a

-- the number of a kind
abbrev pub kind_code : Kind → ℕ
kind_code Identifier = 1
kind_code Number = 2
kind_code SymbolVariable = 3
kind_code TermVariable = 4
kind_code ExpressionVariable = 5
kind_code Quoted = 6
kind_code LeftBrace = 123
kind_code RightBrace = 125
kind_code LeftBracket = 40
kind_code RightBracket = 41
kind_code LeftAngle = 60
kind_code RightAngle = 62
kind_code Comma = 44
kind_code Colon = 58
kind_code Equals = 61
kind_code Semicolon = 59
kind_code Entry = 69
kind_code Extern = 88

-- a number that no kind has
abbrev pub NoKind : ℕ → Type 0
NoKind n = (kind : Kind) → kind_code kind ≡ n → ⊥

-- the kind of a token
abbrev pub kind_of : Token → Kind
kind_of (sign left_brace) = LeftBrace
kind_of (sign right_brace) = RightBrace
kind_of (sign left_bracket) = LeftBracket
kind_of (sign right_bracket) = RightBracket
kind_of (sign left_angle) = LeftAngle
kind_of (sign right_angle) = RightAngle
kind_of (sign comma) = Comma
kind_of (sign colon) = Colon
kind_of (sign equals) = Equals
kind_of (sign semicolon) = Semicolon
kind_of (sign dollar_entry) = Entry
kind_of (sign dollar_extern) = Extern
kind_of (atom (identifier w)) = Identifier
kind_of (atom (number w)) = Number
kind_of (atom (variable symbol_kind w)) = SymbolVariable
kind_of (atom (variable term_kind w)) = TermVariable
kind_of (atom (variable expression_kind w)) = ExpressionVariable
kind_of (atom (quoted w)) = Quoted

-- the kind of variable that a letter begins
abbrev pub variable_of : ℕ → Option Kind
variable_of c = cond (eqb c 115) (Some SymbolVariable) (cond (eqb c 116) (Some TermVariable) (cond (eqb c 101) (Some ExpressionVariable) None))

-- the sign of one byte
abbrev pub sign_of : ℕ → Option Kind
sign_of c =
    cond (eqb c 123) (Some LeftBrace)
    (cond (eqb c 125) (Some RightBrace)
    (cond (eqb c 40) (Some LeftBracket)
    (cond (eqb c 41) (Some RightBracket)
    (cond (eqb c 60) (Some LeftAngle)
    (cond (eqb c 62) (Some RightAngle)
    (cond (eqb c 44) (Some Comma)
    (cond (eqb c 58) (Some Colon)
    (cond (eqb c 61) (Some Equals)
    (cond (eqb c 59) (Some Semicolon) None)))))))))

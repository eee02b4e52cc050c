-- What is found among kinds of tokens from a place on, and among bytes.
use Rattle.std.specs.Prelude.{ℕ, suc, ◌+◌, ◌-◌, List, [], ◌∷◌, Bool, cond, not, ◌&&◌, ◌||◌, Option as Maybe, Some, None, length, drop, eqb}
use Rattle.names.specs.Name.{between}
use Rattle.tokens.specs.Lex.{leading}
use Rattle.tokens.specs.Token.{Placed}
use Rattle.tokens.specs.declared.kinds.Kind.{Kind}
use Rattle.tokens.specs.declared.kinds.Kind.TheVariants.{Identifier, Number, SymbolVariable, TermVariable, ExpressionVariable, Quoted, LeftBrace, RightBrace, LeftBracket, RightBracket, LeftAngle, RightAngle, Comma, Colon, Equals, Semicolon, Entry, Extern}
use Rattle.encoding.specs.Encode.{Record}
use Rattle.encoding.specs.Code.FlatTerms.{Where, inside, calling, kind_at, first_start, first_length, opens, closes, scan, holder}
use Rattle.encoding.specs.Code.FlatFile.{sentences_after, conditions_after}

-- the place of the first of a kind; the end where there is none
abbrev pub not_kind : ℕ → ℕ → Bool
not_kind k x = not (eqb x k)

abbrev pub place_of : ℕ → ℕ → List ℕ → ℕ
place_of k from ks = from + length (leading (not_kind k) (drop from ks))

-- the number of a kind before the first of another
unfoldable pub count_kinds : ℕ → ℕ → List ℕ → ℕ
count_kinds k stop [] = 0
count_kinds k stop (x ∷ xs) = cond (eqb x stop) 0 (cond (eqb x k) 1 0 + count_kinds k stop xs)

-- the number of characters in some bytes: of bytes that begin one
abbrev pub start_here : ℕ → ℕ
start_here b = cond (between 128 191 b) 0 1

unfoldable pub count_starts : List ℕ → ℕ
count_starts [] = 0
count_starts (b ∷ bs) = start_here b + count_starts bs

-- inside braces, after `<` or not
abbrev pub run_state : Bool → Where
run_state b = cond b calling inside

-- a sentence begins after a token of the one kind, before one of the other
abbrev pub sentence_begins : Bool → ℕ → ℕ → Bool
sentence_begins b k after = (eqb k 123 || (b && eqb k 59)) && not (eqb after 125)

-- the records that begin after a token
abbrev pub sentences_at : Bool → Placed → List Placed → List Record
sentences_at b p ps = sentences_after b (kind_at p) ps

abbrev pub conditions_at : Bool → Placed → List Placed → List Record
conditions_at b p ps = conditions_after b (kind_at p) ps

-- the number that is open after a token
abbrev pub depth_after : ℕ → ℕ → ℕ
depth_after k d = cond (closes k) (d - 1) (cond (opens k) (suc d) d)

-- the number in a term record of a token that has one record of its own
abbrev pub record_kind : Kind → Maybe ℕ
record_kind Identifier = Some 1
record_kind Number = Some 2
record_kind SymbolVariable = Some 3
record_kind TermVariable = Some 4
record_kind ExpressionVariable = Some 5
record_kind Quoted = None
record_kind LeftBrace = None
record_kind RightBrace = None
record_kind LeftBracket = None
record_kind RightBracket = None
record_kind LeftAngle = None
record_kind RightAngle = None
record_kind Comma = None
record_kind Colon = None
record_kind Equals = None
record_kind Semicolon = None
record_kind Entry = None
record_kind Extern = None

-- the record that a token opens
abbrev pub bracket_at : Placed → List Placed → List Record
bracket_at p ps = holder 6 0 0 p (scan inside 0 ps) ∷ []

abbrev pub call_at : Placed → List Placed → List Record
call_at p ps = holder 7 (first_start ps) (first_length ps) p (scan calling 0 ps) ∷ []

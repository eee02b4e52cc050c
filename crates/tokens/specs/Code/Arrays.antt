-- The tokens of a text in the code's array: their kinds, and the bytes where they start and end.
use Rattle.std.specs.Prelude.{ℕ, ◌+◌, ◌≤◌, List, [], ◌∷◌, ◌≡◌, Option, Some, None, map, length, take}
use Rattle.std.proofs.Math.Option.{none, some}
use Rattle.tokens.specs.Token.{token_bytes, Piece, Placed, placed}
use Rattle.tokens.specs.Lex.{lex}
use Rattle.tokens.specs.Code.TokenKind.{token_kind, kind_code}
use Rattle.tokens.specs.declared.Lexeme.{Lexeme}

-- kinds, starts and ends of some tokens
abbrev pub kinds_of : List Placed → List ℕ
kinds_of [] = []
kinds_of (p ∷ ps) = token_kind p.what ∷ kinds_of ps

abbrev pub starts_of : List Placed → List ℕ
starts_of [] = []
starts_of (p ∷ ps) = p.start ∷ starts_of ps

abbrev pub ends_of : List Placed → List ℕ
ends_of [] = []
ends_of (p ∷ ps) = (p.start + length (token_bytes p.what)) ∷ ends_of ps

-- what the code's tokens are, by number, and where they start and end
abbrev pub kinds_in : List Lexeme → List ℕ
kinds_in = map (λ x. kind_code x.kind)

abbrev pub starts_in : List Lexeme → List ℕ
starts_in = map (λ x. x.start)

abbrev pub ends_in : List Lexeme → List ℕ
ends_in = map (λ x. x.end)

-- the first n places of the arrays hold these tokens
pub record Holds (n : ℕ) (kinds starts ends : List ℕ) (ts : List Placed) : Type 0 where
  pub count : n ≡ length ts
  pub kinded : take n kinds ≡ kinds_of ts
  pub started : take n starts ≡ starts_of ts
  pub ended : take n ends ≡ ends_of ts

-- a text that has pieces, with its tokens in the first n places
pub record Lexes (bytes : List ℕ) (n : ℕ) (tokens : List Lexeme) : Type 0 where
  pub pieces : List Piece
  pub found : lex bytes ≡ some pieces
  pub small : n ≤ 4096
  pub holds : Holds n (kinds_in tokens) (starts_in tokens) (ends_in tokens) (placed 0 pieces)

-- what the lexer's answer says of a text and the array
abbrev pub LexedAs : List ℕ → Option ℕ → List Lexeme → Type 0
LexedAs bytes None tokens = lex bytes ≡ none
LexedAs bytes (Some n) tokens = Lexes bytes n tokens

-- The tokens that the arrays hold: kinds, starts and ends.
use Rattle.std.specs.Prelude.{ℕ, ◌+◌, List, [], ◌∷◌, ◌++◌, true, ◌≡◌, length, take, drop}
use Rattle.names.specs.Name.{every_byte}
use Rattle.file.specs.Fields.{scalar_allowed}
use Rattle.tokens.specs.Token.{characters_bytes, token_allowed, token_bytes, Placed}
use Rattle.tokens.specs.Code.Arrays.{kinds_of, starts_of, ends_of, kinds_in, starts_in, ends_in}
use Rattle.tokens.specs.declared.Lexeme.{Lexeme}
use Rattle.encoding.specs.Encode.{Record}

-- the arrays hold these tokens, and nothing more
pub record Held (kinds starts ends : List ℕ) (ts : List Placed) : Type 0 where
  pub kinded : kinds ≡ kinds_of ts
  pub started : starts ≡ starts_of ts
  pub ended : ends ≡ ends_of ts

-- the code's tokens are these
abbrev pub HeldIn : List Lexeme → List Placed → Type 0
HeldIn tokens ts = Held (kinds_in tokens) (starts_in tokens) (ends_in tokens) ts

-- a token that may be one, and whose bytes stand in the text at its place
pub record Stands (text : List ℕ) (p : Placed) : Type 0 where
  pub allowed : token_allowed p.what ≡ true
  pub same : take (length (token_bytes p.what)) (drop p.start text) ≡ token_bytes p.what

abbrev pub Stand : List ℕ → List Placed → Type 0
Stand text [] = Unit {0}
Stand text (p ∷ ps) = Stands text p × Stand text ps

-- from a byte to another these characters stand
pub record Spans (text : List ℕ) (from to : ℕ) (cs : List ℕ) : Type 0 where
  pub after : List ℕ
  pub allowed : every_byte scalar_allowed cs ≡ true
  pub size : to ≡ from + length (characters_bytes cs)
  pub same : drop from text ≡ characters_bytes cs ++ after

-- the records of the first token, from it and those after it
abbrev pub at_first : (Placed → List Placed → List Record) → List Placed → List Record
at_first f [] = []
at_first f (p ∷ ps) = f p ps

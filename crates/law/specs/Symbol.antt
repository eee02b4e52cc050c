-- Symbols of a law, apart from where they are spelled, and what they are in a run.
-- Document 02, R-3: "Two number literals are now the same symbol when their values are equal."
-- docs/SPECIFICATION.md, 7.5, 15.1.
use Rattle.std.specs.Prelude.{ℕ, List}
use Rattle.names.specs.Name.{folded}
use Rattle.numbers.specs.Value.{value_of, stripped}
use Rattle.law.specs.Tree as tree
use Rattle.law.specs.Expression.{Literal}

-- an identifier is folded, a number is without needless zeros: then its digits are those of its value alone
pub data Symbol : Type 0 where
  character : ℕ → Symbol
  identifier : List ℕ → Symbol
  number : List ℕ → Symbol

-- the symbol of a tree
abbrev pub symbol_of : tree.Symbol → Symbol
symbol_of (tree.Symbol.character c) = character c
symbol_of (tree.Symbol.identifier i) = identifier (folded i.spelled)
symbol_of (tree.Symbol.number n) = number (stripped n.spelled)

-- what a symbol is in a run: numbers by value
abbrev pub literal_of : Symbol → Literal
literal_of (character c) = Literal.character c
literal_of (identifier i) = Literal.identifier i
literal_of (number n) = Literal.number (value_of n)

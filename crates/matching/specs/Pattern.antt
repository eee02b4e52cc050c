-- Patterns as such: they may stand in a law, or in none.
-- docs/SPECIFICATION.md, 7.1, 7.5, 7.6.
use Rattle.std.specs.Prelude.{Bool, false, eqb}
use Rattle.names.specs.Name.{folded_index, same_bytes}
use Rattle.law.specs.Tree as tree
use Rattle.law.specs.Expression.{Literal, Terms, nothing, symbol, brackets}
use Rattle.law.specs.Symbol.{Symbol, character, identifier, number, symbol_of}
use Rattle.law.specs.Variables.{Variable}

-- the one place where two symbols of a law are said to be the same; numbers have no needless zeros there (`symbol_of`), so they compare by value
abbrev pub same_symbol : Symbol → Symbol → Bool
same_symbol (character a) (character b) = eqb a b
same_symbol (character a) (identifier y) = false
same_symbol (character a) (number y) = false
same_symbol (identifier x) (character b) = false
same_symbol (identifier x) (identifier y) = same_bytes x y
same_symbol (identifier x) (number y) = false
same_symbol (number x) (character b) = false
same_symbol (number x) (identifier y) = false
same_symbol (number x) (number y) = same_bytes x y

-- two symbols of a run are the same
abbrev pub same_literal : Literal → Literal → Bool
same_literal (Literal.character a) (Literal.character b) = eqb a b
same_literal (Literal.character a) (Literal.identifier y) = false
same_literal (Literal.character a) (Literal.number y) = false
same_literal (Literal.identifier x) (Literal.character b) = false
same_literal (Literal.identifier x) (Literal.identifier y) = same_bytes x y
same_literal (Literal.identifier x) (Literal.number y) = false
same_literal (Literal.number x) (Literal.character b) = false
same_literal (Literal.number x) (Literal.identifier y) = false
same_literal (Literal.number x) (Literal.number y) = eqb x y

-- a term of a pattern that is no bracket; `other` is a call or a block, with which a pattern matches nothing
pub data Atom : Type 0 where
  literal : Symbol → Atom
  variable : Variable → Atom
  other : Atom

abbrev pub Pattern : Type 0
Pattern = Terms Atom

-- a run of a law as a pattern
unfoldable pub pattern_of : tree.Run → Pattern
pattern_of tree.Run.empty = nothing
pattern_of (tree.Run.symbol a after) = symbol (literal (symbol_of a)) (pattern_of after)
pattern_of (tree.Run.variable k i after) = symbol (variable (record { kind = k; index = folded_index i.spelled })) (pattern_of after)
pattern_of (tree.Run.bracket inside after) = brackets (pattern_of inside) (pattern_of after)
pattern_of (tree.Run.call m f inside after) = symbol other (pattern_of after)
pattern_of (tree.Run.block m inside ss after) = symbol other (pattern_of after)

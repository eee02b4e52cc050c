-- Literal matching. Document 01: "Recognition by literals speaks only of arguments without variables, calls and blocks, and matches them wholly as the
-- manual does, going back into a bracket whose contents matched".
-- docs/SPECIFICATION.md, 7.6.
use Rattle.std.specs.Prelude.{Bool, true, false, ◌&&◌}
use Rattle.numbers.specs.Value.{Digits}
use Rattle.law.specs.Tree as tree
use Rattle.law.specs.Expression.{Expression, Terms, nothing, symbol, brackets}
use Rattle.law.specs.Symbol.{Symbol, literal_of, symbol_of}
use Rattle.matching.specs.Pattern.{same_symbol, Pattern}
use Rattle.matching.specs.Match.{none_bound, some_in, matches}

-- has a run no variable, call or block at any depth?
unfoldable pub is_literal : tree.Run → Bool
is_literal tree.Run.empty = true
is_literal (tree.Run.symbol a after) = is_literal after
is_literal (tree.Run.variable k i after) = false
is_literal (tree.Run.bracket inside after) = is_literal inside && is_literal after
is_literal (tree.Run.call m f inside after) = false
is_literal (tree.Run.block m inside ss after) = false

-- a literal run as a row of symbols; what is not literal is left out
unfoldable pub literal_terms : tree.Run → Terms Symbol
literal_terms tree.Run.empty = nothing
literal_terms (tree.Run.symbol a after) = symbol (symbol_of a) (literal_terms after)
literal_terms (tree.Run.variable k i after) = literal_terms after
literal_terms (tree.Run.bracket inside after) = brackets (literal_terms inside) (literal_terms after)
literal_terms (tree.Run.call m f inside after) = literal_terms after
literal_terms (tree.Run.block m inside ss after) = literal_terms after

abbrev pub any_symbol : Symbol → Bool
any_symbol a = true

-- does a pattern match a literal row?
abbrev pub literal_matches : Pattern → Terms Symbol → Bool
literal_matches p x = some_in (matches same_symbol (λ a. a) any_symbol any_symbol true p x none_bound)

-- a row with another symbol in the place of each symbol
module _ {A B : Type 0} (f : A → B) where
  unfoldable pub changed : Terms A → Terms B
  changed nothing = nothing
  changed (symbol a x) = symbol (f a) (changed x)
  changed (brackets c x) = brackets (changed c) (changed x)

-- the expression that a literal row is in a run
abbrev pub expression_of : Terms Symbol → Expression
expression_of = changed literal_of

-- is a symbol, if it is a number, spelled by digits? Refusal 5 sees to it
abbrev pub InDigits : tree.Symbol → Type 0
InDigits (tree.Symbol.character c) = Unit {0}
InDigits (tree.Symbol.identifier i) = Unit {0}
InDigits (tree.Symbol.number n) = Digits n.spelled

-- and each symbol of a run that stands in its pattern
abbrev pub RunInDigits : tree.Run → Type 0
RunInDigits tree.Run.empty = Unit {0}
RunInDigits (tree.Run.symbol a after) = InDigits a × RunInDigits after
RunInDigits (tree.Run.variable k i after) = RunInDigits after
RunInDigits (tree.Run.bracket inside after) = RunInDigits inside × RunInDigits after
RunInDigits (tree.Run.call m f inside after) = RunInDigits after
RunInDigits (tree.Run.block m inside ss after) = RunInDigits after

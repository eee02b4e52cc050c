-- The shapes of single terms that are no brackets of a format. Document 01, "Formats": "Shapes: character, number, identifier, symbol (all three), bracket of a
-- format, unknown." What they hold, how they join, when they share nothing or are the same, their store words and how they are displayed stand here.
-- docs/SPECIFICATION.md, 3.1, 3.5, 3.6, 4.2, 5.2, 6.1.
use Rattle.std.specs.Prelude.{ℕ, Bool, true, false, [], ◌∷◌, get_or}
use Rattle.law.specs.Expression as expressions
use Rattle.law.specs.Tree as tree

pub data Leaf : Type 0 where
  character number identifier any_symbol unknown : Leaf
  deriving Discrete as leaf-discrete

-- a symbol is of this shape
abbrev pub holds_symbol : Leaf → expressions.Literal → Bool
holds_symbol character (expressions.Literal.character c) = true
holds_symbol character (expressions.Literal.identifier i) = false
holds_symbol character (expressions.Literal.number n) = false
holds_symbol number (expressions.Literal.character c) = false
holds_symbol number (expressions.Literal.identifier i) = false
holds_symbol number (expressions.Literal.number n) = true
holds_symbol identifier (expressions.Literal.character c) = false
holds_symbol identifier (expressions.Literal.identifier i) = true
holds_symbol identifier (expressions.Literal.number n) = false
holds_symbol any_symbol x = true
holds_symbol unknown x = true

-- a bracket is of this shape
abbrev pub holds_brackets : Leaf → Bool
holds_brackets character = false
holds_brackets number = false
holds_brackets identifier = false
holds_brackets any_symbol = false
holds_brackets unknown = true

-- the least shape over both: two kinds of symbol are any symbol, and what is unknown stays so
abbrev pub join_leaves : Leaf → Leaf → Leaf
join_leaves character character = character
join_leaves character number = any_symbol
join_leaves character identifier = any_symbol
join_leaves character any_symbol = any_symbol
join_leaves character unknown = unknown
join_leaves number character = any_symbol
join_leaves number number = number
join_leaves number identifier = any_symbol
join_leaves number any_symbol = any_symbol
join_leaves number unknown = unknown
join_leaves identifier character = any_symbol
join_leaves identifier number = any_symbol
join_leaves identifier identifier = identifier
join_leaves identifier any_symbol = any_symbol
join_leaves identifier unknown = unknown
join_leaves any_symbol character = any_symbol
join_leaves any_symbol number = any_symbol
join_leaves any_symbol identifier = any_symbol
join_leaves any_symbol any_symbol = any_symbol
join_leaves any_symbol unknown = unknown
join_leaves unknown b = unknown

-- no term is of both shapes
abbrev pub leaves_apart : Leaf → Leaf → Bool
leaves_apart character character = false
leaves_apart character number = true
leaves_apart character identifier = true
leaves_apart character any_symbol = false
leaves_apart character unknown = false
leaves_apart number character = true
leaves_apart number number = false
leaves_apart number identifier = true
leaves_apart number any_symbol = false
leaves_apart number unknown = false
leaves_apart identifier character = true
leaves_apart identifier number = true
leaves_apart identifier identifier = false
leaves_apart identifier any_symbol = false
leaves_apart identifier unknown = false
leaves_apart any_symbol b = false
leaves_apart unknown b = false

-- the same shape
abbrev pub same_leaf : Leaf → Leaf → Bool
same_leaf character character = true
same_leaf character number = false
same_leaf character identifier = false
same_leaf character any_symbol = false
same_leaf character unknown = false
same_leaf number character = false
same_leaf number number = true
same_leaf number identifier = false
same_leaf number any_symbol = false
same_leaf number unknown = false
same_leaf identifier character = false
same_leaf identifier number = false
same_leaf identifier identifier = true
same_leaf identifier any_symbol = false
same_leaf identifier unknown = false
same_leaf any_symbol character = false
same_leaf any_symbol number = false
same_leaf any_symbol identifier = false
same_leaf any_symbol any_symbol = true
same_leaf any_symbol unknown = false
same_leaf unknown character = false
same_leaf unknown number = false
same_leaf unknown identifier = false
same_leaf unknown any_symbol = false
same_leaf unknown unknown = true

-- store words: "0 character, 1 number, 2 identifier, 3 symbol, 4 unknown"
abbrev pub leaf_word : Leaf → ℕ
leaf_word character = 0
leaf_word number = 1
leaf_word identifier = 2
leaf_word any_symbol = 3
leaf_word unknown = 4

-- as formats.rs displays them: C, N, I, S and ?
abbrev pub leaf_byte : Leaf → ℕ
leaf_byte character = 67
leaf_byte number = 78
leaf_byte identifier = 73
leaf_byte any_symbol = 83
leaf_byte unknown = 63

-- the shape of a symbol of a law
abbrev pub leaf_of : tree.Symbol → Leaf
leaf_of (tree.Symbol.character c) = character
leaf_of (tree.Symbol.identifier i) = identifier
leaf_of (tree.Symbol.number n) = number

-- the shape that a store word says; any other word says unknown
abbrev pub leaf_at : ℕ → Leaf
leaf_at w = get_or (character ∷ number ∷ identifier ∷ any_symbol ∷ []) w unknown

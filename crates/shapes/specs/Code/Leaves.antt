-- The code's shapes that are no brackets, as specs/Leaf.antt has them.
use Rattle.file.specs.declared.Symbol.{Symbol}
use Rattle.file.specs.declared.Symbol.TheVariants.{Character, Identifier, Number}
use Rattle.shapes.specs.Leaf.{Leaf, character, number, identifier, any_symbol, unknown}
use Rattle.shapes.specs.declared.leaf.Leaf as code
use Rattle.shapes.specs.declared.leaf.Leaf.TheVariants as variants

-- the shape that is meant
abbrev pub leaf_meant : code.Leaf → Leaf
leaf_meant variants.Character = character
leaf_meant variants.Number = number
leaf_meant variants.Identifier = identifier
leaf_meant variants.Symbol = any_symbol
leaf_meant variants.Unknown = unknown

-- the shape of a symbol of a record
abbrev pub symbol_leaf : Symbol → Leaf
symbol_leaf (Character c) = character
symbol_leaf (Identifier a b) = identifier
symbol_leaf (Number a b) = number

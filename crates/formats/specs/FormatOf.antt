-- The format of a pattern, and of a result with its calls abstracted by the results found so far, as in formats.rs.
-- docs/SPECIFICATION.md, 3.7, 3.8.
use Rattle.std.specs.Prelude.{true, false, List, ℕ}
use Rattle.std.proofs.Math.Option.{Option, none, some}
use Rattle.names.specs.Name.{folded}
use Rattle.law.specs.Tree.{Kind, symbol_kind, term_kind, expression_kind, Run, empty, symbol, variable, bracket, call, block}
use Rattle.shapes.specs.Leaf.{any_symbol, unknown, leaf_of}
use Rattle.shapes.specs.Format.{Shapes, end, item, group, Format, never, of}

-- a variable before the rest: an s. variable is any symbol, a t. variable unknown, and an e. variable opens the row
abbrev pub variable_shapes : Kind → Shapes → Shapes
variable_shapes symbol_kind f = item any_symbol f
variable_shapes term_kind f = item unknown f
variable_shapes expression_kind f = end true

-- a call or block in a pattern opens the row too
unfoldable pub pattern_shapes : Run → Shapes
pattern_shapes empty = end false
pattern_shapes (symbol a after) = item (leaf_of a) (pattern_shapes after)
pattern_shapes (variable k i after) = variable_shapes k (pattern_shapes after)
pattern_shapes (bracket inside after) = group (pattern_shapes inside) (pattern_shapes after)
pattern_shapes (call m f inside after) = end true
pattern_shapes (block m inside ss after) = end true

-- one row after another: nothing is looked at past an open end
unfoldable pub chain : Shapes → Shapes → Shapes
chain (end true) g = end true
chain (end false) g = g
chain (item b f) g = item b (chain f g)
chain (group c f) g = group c (chain f g)

-- a callee's format before the rest. "A callee still at never adds no items; an undefined callee adds an open tail."
abbrev pub extend : Option Format → Shapes → Shapes
extend none g = end true
extend (some never) g = g
extend (some (of f)) g = chain f g

-- the results found so far, by folded name; none where no function has the name
abbrev pub Results : Type 0
Results = List ℕ → Option Format

unfoldable pub result_shapes : Results → Run → Shapes
result_shapes t empty = end false
result_shapes t (symbol a after) = item (leaf_of a) (result_shapes t after)
result_shapes t (variable k i after) = variable_shapes k (result_shapes t after)
result_shapes t (bracket inside after) = group (result_shapes t inside) (result_shapes t after)
result_shapes t (call m f inside after) = extend (t (folded f.spelled)) (result_shapes t after)
result_shapes t (block m inside ss after) = end true

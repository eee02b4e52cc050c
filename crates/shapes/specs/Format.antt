-- Formats. Document 01, "Formats": "A closed format admits exactly as many terms as it has items, an open one that many or more, each item's shape
-- holding its term; never admits nothing."
-- docs/SPECIFICATION.md, 3.1 to 3.4.
use Rattle.std.specs.Prelude.{ℕ, suc, ◌+◌, Bool, true, false, T}
use Rattle.law.specs.Expression.{Expression, nothing, symbol, brackets}
use Rattle.shapes.specs.Leaf.{Leaf, holds_symbol, holds_brackets}

-- the shapes of a format that is not never; their row ends closed (false) or open (true)
pub data Shapes : Type 0 where
  end : Bool → Shapes
  item : Leaf → Shapes → Shapes
  group : Shapes → Shapes → Shapes
  deriving Discrete as shapes-discrete

-- never stands only at the top: no law gives a bracket whose contents are never
pub data Format : Type 0 where
  never : Format
  of : Shapes → Format
  deriving Discrete as format-discrete

-- which expressions a format admits
abbrev pub Admits : Shapes → Expression → Type 0
Admits (end true) x = Unit {0}
Admits (end false) nothing = Unit {0}
Admits (end false) (symbol a x) = ⊥
Admits (end false) (brackets c x) = ⊥
Admits (item b f) nothing = ⊥
Admits (item b f) (symbol a x) = T (holds_symbol b a) × Admits f x
Admits (item b f) (brackets c x) = T (holds_brackets b) × Admits f x
Admits (group g f) nothing = ⊥
Admits (group g f) (symbol a x) = ⊥
Admits (group g f) (brackets c x) = Admits g c × Admits f x

abbrev pub FormatAdmits : Format → Expression → Type 0
FormatAdmits never x = ⊥
FormatAdmits (of f) x = Admits f x

-- shapes at all depths: a bracket is one, and its contents count too
unfoldable pub size : Shapes → ℕ
size (end o) = 0
size (item b f) = suc (size f)
size (group g f) = suc (size g + size f)

abbrev pub format_size : Format → ℕ
format_size never = 0
format_size (of f) = size f

-- does the row end open?
unfoldable pub is_open : Shapes → Bool
is_open (end o) = o
is_open (item b f) = is_open f
is_open (group g f) = is_open f

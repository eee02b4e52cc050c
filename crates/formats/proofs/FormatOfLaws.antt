-- The format of a row after another admits what stands one after the other (specs/FormatOf.antt).
use mathlib.Core.Bool.{true, false}
use mathlib.Core.Option.{Option, none, some}
use Rattle.law.specs.Expression.{Expression, nothing, symbol, brackets, ◌⊕◌}
use Rattle.shapes.specs.Format.{Shapes, end, item, group, Format, never, of, Admits, FormatAdmits}
use Rattle.formats.specs.FormatOf.{chain, extend}

-- one row after another
pub chain_admits : (f g : Shapes) (x y : Expression) → Admits f x → Admits g y → Admits (chain f g) (x ⊕ y)
unfolding chain
chain_admits (end true) g x y h k = tt
chain_admits (end false) g nothing y h k = k
chain_admits (item b f) g (symbol a x) y h k = (h.0, chain_admits f g x y h.1 k)
chain_admits (item b f) g (brackets c x) y h k = (h.0, chain_admits f g x y h.1 k)
chain_admits (group d f) g (brackets c x) y h k = (h.0, chain_admits f g x y h.1 k)
chain_admits (end false) g (symbol a x) y h k = elim h [ ]
chain_admits (end false) g (brackets c x) y h k = elim h [ ]
chain_admits (item b f) g nothing y h k = elim h [ ]
chain_admits (group d f) g nothing y h k = elim h [ ]
chain_admits (group d f) g (symbol a x) y h k = elim h [ ]

-- what a call may give: anything where its function is not defined
abbrev pub MayGive : Option Format → Expression → Type 0
MayGive none x = Unit {0}
MayGive (some f) x = FormatAdmits f x

-- a callee's format before the rest
pub extend_admits : (o : Option Format) (g : Shapes) (x y : Expression) → MayGive o x → Admits g y → Admits (extend o g) (x ⊕ y)
extend_admits none g x y h k = tt
extend_admits (some (of f)) g x y h k = chain_admits f g x y h k
extend_admits (some never) g x y h k = elim h [ ]

-- Join is the least format over both (specs/Join.antt). The order of formats is that of what they admit; between formats that are not never it is
-- an order on their shapes, `Below`, in which join is a least upper bound by induction.
use Prim.Native.Nat.{◌≤◌}
use mathlib.Core.Bool.{true, false, not, ◌||◌}
use mathlib.Core.Path.{◌≡◌, refl, ap}
use native.Mathlib.Omega.{arith}
use lib.Dec.{T}
use Rattle.law.specs.Expression.{Expression, nothing, symbol, brackets}
use Rattle.shapes.specs.Leaf.{holds_brackets}
use Rattle.shapes.specs.Format.{Shapes, end, item, group, Format, never, of, Admits, FormatAdmits, size, format_size}
use Rattle.shapes.specs.Join.{join_rows, join_formats}
use Rattle.shapes.proofs.LeafLaws.{some_literal, some_literal_held, LeafWithin, leaf_within_unknown, unknown_within, leaf_within_same, join_leaf_left, join_leaf_right, join_leaf_least}

-- every format but never admits something
abbrev pub some_of : Shapes → Expression
some_of (end o) = nothing
some_of (item b f) = symbol (some_literal b) (some_of f)
some_of (group g f) = brackets (some_of g) (some_of f)

pub some_admitted : (f : Shapes) → Admits f (some_of f)
some_admitted (end true) = tt
some_admitted (end false) = tt
some_admitted (item b f) = (some_literal_held b, some_admitted f)
some_admitted (group g f) = (some_admitted g, some_admitted f)

-- ---- the order on shapes

abbrev Below : Shapes → Shapes → Type 0
Below (end o) (end p) = T (not o || p)
Below (end o) (item b g) = ⊥
Below (end o) (group d g) = ⊥
Below (item a f) (end p) = T p
Below (item a f) (item b g) = LeafWithin a b × Below f g
Below (item a f) (group d g) = ⊥
Below (group c f) (end p) = T p
Below (group c f) (item b g) = T (holds_brackets b) × Below f g
Below (group c f) (group d g) = Below c d × Below f g

-- what is below admits no more
below_sound : (f g : Shapes) (x : Expression) → Below f g → Admits f x → Admits g x
below_sound (end true) (end true) x l h = tt
below_sound (end false) (end true) x l h = tt
below_sound (end false) (end false) x l h = h
below_sound (item a f) (end true) x l h = tt
below_sound (item a f) (item b g) (symbol s x) l h = (l.0.0 s h.0, below_sound f g x l.1 h.1)
below_sound (item a f) (item b g) (brackets d x) l h = (l.0.1 h.0, below_sound f g x l.1 h.1)
below_sound (group c f) (end true) x l h = tt
below_sound (group c f) (item b g) (brackets d x) l h = (l.0, below_sound f g x l.1 h.1)
below_sound (group c f) (group d g) (brackets e x) l h = (below_sound c d e l.0 h.0, below_sound f g x l.1 h.1)
below_sound (end false) (item b g) x l h = elim l [ ]
below_sound (end false) (group d g) x l h = elim l [ ]
below_sound (end true) (end false) x l h = elim l [ ]
below_sound (end true) (item b g) x l h = elim l [ ]
below_sound (end true) (group d g) x l h = elim l [ ]
below_sound (item a f) (end false) x l h = elim l [ ]
below_sound (item a f) (item b g) nothing l h = elim h [ ]
below_sound (item a f) (group d g) x l h = elim l [ ]
below_sound (group c f) (end false) x l h = elim l [ ]
below_sound (group c f) (item b g) nothing l h = elim h [ ]
below_sound (group c f) (item b g) (symbol s x) l h = elim h [ ]
below_sound (group c f) (group d g) nothing l h = elim h [ ]
below_sound (group c f) (group d g) (symbol s x) l h = elim h [ ]

-- what admits no more is below
below_complete : (f g : Shapes) → ((x : Expression) → Admits f x → Admits g x) → Below f g
below_complete (end true) (end true) k = tt
below_complete (end true) (end false) k = k (brackets nothing nothing) tt
below_complete (end false) (end p) k = tt
below_complete (end o) (item b g) k = k nothing (some_admitted (end o))
below_complete (end o) (group d g) k = k nothing (some_admitted (end o))
below_complete (item a f) (end true) k = tt
below_complete (item a f) (end false) k = k (some_of (item a f)) (some_admitted (item a f))
below_complete (item a f) (item b g) k = (
  (λ s h. (k (symbol s (some_of f)) (h, some_admitted f)).0, λ h. (k (brackets nothing (some_of f)) (h, some_admitted f)).0),
  below_complete f g (λ x h. (k (symbol (some_literal a) x) (some_literal_held a, h)).1),
)
below_complete (item a f) (group d g) k = k (some_of (item a f)) (some_admitted (item a f))
below_complete (group c f) (end true) k = tt
below_complete (group c f) (end false) k = k (some_of (group c f)) (some_admitted (group c f))
below_complete (group c f) (item b g) k = (
  (k (some_of (group c f)) (some_admitted (group c f))).0,
  below_complete f g (λ x h. (k (brackets (some_of c) x) (some_admitted c, h)).1),
)
below_complete (group c f) (group d g) k = (
  below_complete c d (λ x h. (k (brackets x (some_of f)) (h, some_admitted f)).0),
  below_complete f g (λ x h. (k (brackets (some_of c) x) (some_admitted c, h)).1),
)

-- shapes that are below each other are the same
below_same : (f g : Shapes) → Below f g → Below g f → f ≡ g
below_same (end true) (end true) l m = refl
below_same (end false) (end false) l m = refl
below_same (item a f) (item b g) l m = cc (leaf_within_same a b l.0 m.0, below_same f g l.1 m.1)
below_same (group c f) (group d g) l m = cc (below_same c d l.0 m.0, below_same f g l.1 m.1)
below_same (end false) (end true) l m = elim m [ ]
below_same (end false) (item b g) l m = elim l [ ]
below_same (end false) (group d g) l m = elim l [ ]
below_same (end true) (end false) l m = elim l [ ]
below_same (end true) (item b g) l m = elim l [ ]
below_same (end true) (group d g) l m = elim l [ ]
below_same (item a f) (end _) l m = elim m [ ]
below_same (item a f) (group d g) l m = elim l [ ]
below_same (group c f) (end _) l m = elim m [ ]
below_same (group c f) (item b g) l m = elim m [ ]

-- ---- the join of shapes is over both, and the least such

below_left : (f g : Shapes) → Below f (join_rows f g)
unfolding join_rows
below_left (end true) (end p) = tt
below_left (end false) (end p) = tt
below_left (end true) (item b g) = tt
below_left (end false) (item b g) = tt
below_left (end true) (group d g) = tt
below_left (end false) (group d g) = tt
below_left (item a f) (end p) = tt
below_left (item a f) (item b g) = (join_leaf_left a b, below_left f g)
below_left (item a f) (group d g) = (leaf_within_unknown a, below_left f g)
below_left (group c f) (end p) = tt
below_left (group c f) (item b g) = (tt, below_left f g)
below_left (group c f) (group d g) = (below_left c d, below_left f g)

below_right : (f g : Shapes) → Below g (join_rows f g)
unfolding join_rows
below_right (end true) (end true) = tt
below_right (end true) (end false) = tt
below_right (end false) (end true) = tt
below_right (end false) (end false) = tt
below_right (end o) (item b g) = tt
below_right (end o) (group d g) = tt
below_right (item a f) (end true) = tt
below_right (item a f) (end false) = tt
below_right (item a f) (item b g) = (join_leaf_right a b, below_right f g)
below_right (item a f) (group d g) = (tt, below_right f g)
below_right (group c f) (end true) = tt
below_right (group c f) (end false) = tt
below_right (group c f) (item b g) = (leaf_within_unknown b, below_right f g)
below_right (group c f) (group d g) = (below_right c d, below_right f g)

below_least : (f g h : Shapes) → Below f h → Below g h → Below (join_rows f g) h
unfolding join_rows
below_least (end true) (end p) (end true) l m = tt
below_least (end false) (end p) (end o) l m = m
below_least (end o) (item b g) (end true) l m = tt
below_least (end o) (group d g) (end true) l m = tt
below_least (item a f) (end p) (end true) l m = tt
below_least (item a f) (item b g) (end o) l m = l
below_least (item a f) (item b g) (item c h) l m = (join_leaf_least a b c l.0 m.0, below_least f g h l.1 m.1)
below_least (item a f) (group d g) (end o) l m = l
below_least (item a f) (group d g) (item c h) l m = (unknown_within c m.0, below_least f g h l.1 m.1)
below_least (group c f) (end p) (end true) l m = tt
below_least (group c f) (item b g) (end o) l m = l
below_least (group c f) (item b g) (item d h) l m = (unknown_within d l.0, below_least f g h l.1 m.1)
below_least (group c f) (group d g) (end o) l m = l
below_least (group c f) (group d g) (item b h) l m = (l.0, below_least f g h l.1 m.1)
below_least (group c f) (group d g) (group e h) l m = (below_least c d e l.0 m.0, below_least f g h l.1 m.1)
below_least (end false) (end p) (item c h) l m = elim l [ ]
below_least (end false) (end p) (group e h) l m = elim l [ ]
below_least (end true) (end p) (end false) l m = elim l [ ]
below_least (end true) (end p) (item c h) l m = elim l [ ]
below_least (end true) (end p) (group e h) l m = elim l [ ]
below_least (end o) (item b g) (end false) l m = elim m [ ]
below_least (end o) (item b g) (item c h) l m = elim l [ ]
below_least (end o) (item b g) (group e h) l m = elim l [ ]
below_least (end o) (group d g) (end false) l m = elim m [ ]
below_least (end o) (group d g) (item c h) l m = elim l [ ]
below_least (end o) (group d g) (group e h) l m = elim l [ ]
below_least (item a f) (end p) (end false) l m = elim l [ ]
below_least (item a f) (end p) (item c h) l m = elim m [ ]
below_least (item a f) (end p) (group e h) l m = elim l [ ]
below_least (item a f) (item b g) (group e h) l m = elim l [ ]
below_least (item a f) (group d g) (group e h) l m = elim l [ ]
below_least (group c f) (end p) (end false) l m = elim l [ ]
below_least (group c f) (end p) (item d h) l m = elim m [ ]
below_least (group c f) (end p) (group e h) l m = elim m [ ]
below_least (group c f) (item b g) (group e h) l m = elim m [ ]

-- ---- formats

-- what the first admits the second admits
abbrev pub Within : Format → Format → Type 0
Within f g = (x : Expression) → FormatAdmits f x → FormatAdmits g x

-- join is over both
pub join_over_left : (f g : Format) (x : Expression) → FormatAdmits f x → FormatAdmits (join_formats f g) x
join_over_left (of f) never x h = h
join_over_left (of f) (of g) x h = below_sound f (join_rows f g) x (below_left f g) h
join_over_left never g x h = elim h [ ]

pub join_over_right : (f g : Format) (x : Expression) → FormatAdmits g x → FormatAdmits (join_formats f g) x
join_over_right never (of g) x h = h
join_over_right (of f) (of g) x h = below_sound g (join_rows f g) x (below_right f g) h
join_over_right never never x h = elim h [ ]
join_over_right (of f) never x h = elim h [ ]

-- "Join is the least format over both"
pub join_least : (f g h : Format) → ((x : Expression) → FormatAdmits f x → FormatAdmits h x) → ((x : Expression) → FormatAdmits g x → FormatAdmits h x)
    → (x : Expression) → FormatAdmits (join_formats f g) x → FormatAdmits h x
join_least never g h l m x p = m x p
join_least (of f) never h l m x p = l x p
join_least (of f) (of g) never l m x p = l (some_of f) (some_admitted f)
join_least (of f) (of g) (of h) l m x p =
    below_sound (join_rows f g) h x (below_least f g h (below_complete f h l) (below_complete g h m)) p

-- formats that admit the same are the same
pub within_same : (f g : Format) → Within f g → Within g f → f ≡ g
within_same never never l m = refl
within_same never (of g) l m = absurd (m (some_of g) (some_admitted g))
within_same (of f) never l m = absurd (l (some_of f) (some_admitted f))
within_same (of f) (of g) l m = ap of (below_same f g (below_complete f g l) (below_complete g f m))

-- a format joined with what is within it stays the same, and only then
pub within_join : (f g : Format) → Within g f → join_formats f g ≡ f
within_join f g l = within_same (join_formats f g) f (join_least f g f (λ x h. h) l) (join_over_left f g)

pub join_within : (f g : Format) → join_formats f g ≡ f → Within g f
join_within f g e x h = rw e at (join_over_right f g x h)

-- ---- a join never has more shapes than either side that is not never

pub join_size_left : (f g : Shapes) → size (join_rows f g) ≤ size f
unfolding join_rows size
join_size_left (end o) (end p) = omega arith
join_size_left (end o) (item b g) = omega arith
join_size_left (end o) (group d g) = omega arith
join_size_left (item a f) (end p) = omega arith
join_size_left (item a f) (item b g) = omega (arith, join_size_left f g)
join_size_left (item a f) (group d g) = omega (arith, join_size_left f g)
join_size_left (group c f) (end p) = omega arith
join_size_left (group c f) (item b g) = omega (arith, join_size_left f g)
join_size_left (group c f) (group d g) = omega (arith, join_size_left c d, join_size_left f g)

pub join_size_right : (f g : Shapes) → size (join_rows f g) ≤ size g
unfolding join_rows size
join_size_right (end o) (end p) = omega arith
join_size_right (end o) (item b g) = omega arith
join_size_right (end o) (group d g) = omega arith
join_size_right (item a f) (end p) = omega arith
join_size_right (item a f) (item b g) = omega (arith, join_size_right f g)
join_size_right (item a f) (group d g) = omega (arith, join_size_right f g)
join_size_right (group c f) (end p) = omega arith
join_size_right (group c f) (item b g) = omega (arith, join_size_right f g)
join_size_right (group c f) (group d g) = omega (arith, join_size_right c d, join_size_right f g)

-- of formats
pub join_format_size_left : (f : Shapes) (g : Format) → format_size (join_formats (of f) g) ≤ size f
join_format_size_left f never = omega arith
join_format_size_left f (of g) = join_size_left f g

pub join_format_size_right : (f : Format) (g : Shapes) → format_size (join_formats f (of g)) ≤ size g
join_format_size_right never g = omega arith
join_format_size_right (of f) g = join_size_right f g

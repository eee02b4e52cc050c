-- "Disjoint is yes exactly when no expression is in both" (specs/Disjoint.antt).
use mathlib.Core.Bool.{Bool, true, false, not, ◌||◌}
use mathlib.Core.Logic.{◌⊎◌, inl, inr, ⊎_elim, ◌↔◌}
use mathlib.Core.Path.{◌≡◌, refl}
use lib.Dec.{T, T_not}
use Rattle.law.specs.Expression.{Expression, nothing, symbol, brackets}
use Rattle.shapes.specs.Leaf.{holds_brackets, leaves_apart}
use Rattle.shapes.specs.Format.{Shapes, end, item, group, Format, never, of, Admits, FormatAdmits}
use Rattle.shapes.specs.Disjoint.{disjoint_rows, disjoint_formats}
use Rattle.shapes.proofs.LeafLaws.{apart_symbol, apart_brackets, shared_symbol}
use Rattle.shapes.proofs.JoinLaws.{some_of, some_admitted}

or_cases : (a b : Bool) → T (a || b) → T a ⊎ T b
or_cases true b h = inl tt
or_cases false b h = inr h

nor_left : (a b : Bool) → T (not (a || b)) → T (not a)
nor_left false b h = tt
nor_left true b h = elim h [ ]

nor_right : (a b : Bool) → T (not (a || b)) → T (not b)
nor_right false b h = h
nor_right true b h = elim h [ ]

-- no and not no
twice : (a : Bool) → T (not (not a)) → T a
twice true h = tt
twice false h = elim h [ ]

-- shapes that are told apart share no expression
disjoint_sound : (f g : Shapes) (x : Expression) → T (disjoint_rows f g) → Admits f x → Admits g x → ⊥
unfolding disjoint_rows
disjoint_sound (end false) (item b g) (symbol s x) d h k = h
disjoint_sound (end false) (group b g) (brackets s x) d h k = h
disjoint_sound (item a f) (end false) (symbol s x) d h k = k
disjoint_sound (item a f) (item b g) (symbol s x) d h k =
    ⊎_elim (λ p. apart_symbol a b s p h.0 k.0) (λ p. disjoint_sound f g x p h.1 k.1) (or_cases (leaves_apart a b) (disjoint_rows f g) d)
disjoint_sound (item a f) (item b g) (brackets c x) d h k =
    ⊎_elim (λ p. apart_brackets a b p h.0) (λ p. disjoint_sound f g x p h.1 k.1) (or_cases (leaves_apart a b) (disjoint_rows f g) d)
disjoint_sound (item a f) (group b g) (brackets c x) d h k =
    ⊎_elim (λ p. T_not (holds_brackets a) p h.0) (λ p. disjoint_sound f g x p h.1 k.1) (or_cases (not (holds_brackets a)) (disjoint_rows f g) d)
disjoint_sound (group a f) (end false) (brackets s x) d h k = k
disjoint_sound (group a f) (item b g) (brackets c x) d h k =
    ⊎_elim (λ p. T_not (holds_brackets b) p k.0) (λ p. disjoint_sound f g x p h.1 k.1) (or_cases (not (holds_brackets b)) (disjoint_rows f g) d)
disjoint_sound (group a f) (group b g) (brackets c x) d h k =
    ⊎_elim (λ p. disjoint_sound a b c p h.0 k.0) (λ p. disjoint_sound f g x p h.1 k.1) (or_cases (disjoint_rows a b) (disjoint_rows f g) d)
disjoint_sound (end false) (end _) _ d h k = elim d [ ]
disjoint_sound (end false) (item b g) nothing d h k = elim k [ ]
disjoint_sound (end false) (item b g) (brackets s x) d h k = elim h [ ]
disjoint_sound (end false) (group b g) nothing d h k = elim k [ ]
disjoint_sound (end false) (group b g) (symbol s x) d h k = elim h [ ]
disjoint_sound (end true) g _ d h k = elim d [ ]
disjoint_sound (item a f) (end false) nothing d h k = elim h [ ]
disjoint_sound (item a f) (end false) (brackets s x) d h k = elim k [ ]
disjoint_sound (item a f) (end true) _ d h k = elim d [ ]
disjoint_sound (item a f) (item b g) nothing d h k = elim h [ ]
disjoint_sound (item a f) (group b g) nothing d h k = elim h [ ]
disjoint_sound (item a f) (group b g) (symbol s x) d h k = elim k [ ]
disjoint_sound (group a f) (end false) nothing d h k = elim h [ ]
disjoint_sound (group a f) (end false) (symbol s x) d h k = elim h [ ]
disjoint_sound (group a f) (end true) _ d h k = elim d [ ]
disjoint_sound (group a f) (item b g) nothing d h k = elim h [ ]
disjoint_sound (group a f) (item b g) (symbol s x) d h k = elim h [ ]
disjoint_sound (group a f) (group b g) nothing d h k = elim h [ ]
disjoint_sound (group a f) (group b g) (symbol s x) d h k = elim h [ ]

-- shapes that are not told apart share an expression
disjoint_complete : (f g : Shapes) → T (not (disjoint_rows f g)) → (x : Expression) × Admits f x × Admits g x
unfolding disjoint_rows
disjoint_complete (end true) g n = (some_of g, tt, some_admitted g)
disjoint_complete (end false) (end true) n = (nothing, tt, tt)
disjoint_complete (end false) (end false) n = (nothing, tt, tt)
disjoint_complete (item a f) (end true) n = (some_of (item a f), some_admitted (item a f), tt)
disjoint_complete (item a f) (item b g) n =
    let (s, p, q) = shared_symbol a b (nor_left (leaves_apart a b) (disjoint_rows f g) n) in
    let (x, h, k) = disjoint_complete f g (nor_right (leaves_apart a b) (disjoint_rows f g) n) in
    (symbol s x, (p, h), (q, k))
disjoint_complete (item a f) (group b g) n =
    let p : T (holds_brackets a) = twice (holds_brackets a) (nor_left (not (holds_brackets a)) (disjoint_rows f g) n) in
    let (x, h, k) = disjoint_complete f g (nor_right (not (holds_brackets a)) (disjoint_rows f g) n) in
    (brackets (some_of b) x, (p, h), (some_admitted b, k))
disjoint_complete (group a f) (end true) n = (some_of (group a f), some_admitted (group a f), tt)
disjoint_complete (group a f) (item b g) n =
    let p : T (holds_brackets b) = twice (holds_brackets b) (nor_left (not (holds_brackets b)) (disjoint_rows f g) n) in
    let (x, h, k) = disjoint_complete f g (nor_right (not (holds_brackets b)) (disjoint_rows f g) n) in
    (brackets (some_of a) x, (some_admitted a, h), (p, k))
disjoint_complete (group a f) (group b g) n =
    let (c, p, q) = disjoint_complete a b (nor_left (disjoint_rows a b) (disjoint_rows f g) n) in
    let (x, h, k) = disjoint_complete f g (nor_right (disjoint_rows a b) (disjoint_rows f g) n) in
    (brackets c x, (p, h), (q, k))
disjoint_complete (end false) (item b g) n = elim n [ ]
disjoint_complete (end false) (group b g) n = elim n [ ]
disjoint_complete (item a f) (end false) n = elim n [ ]
disjoint_complete (group a f) (end false) n = elim n [ ]

-- "Disjoint is yes exactly when no expression is in both."
pub disjoint_exact : (f g : Format) → T (disjoint_formats f g) ↔ ((x : Expression) → FormatAdmits f x → FormatAdmits g x → ⊥)
disjoint_exact never g = (λ d x h k. h, λ n. tt)
disjoint_exact (of f) never = (λ d x h k. k, λ n. tt)
disjoint_exact (of f) (of g) = (λ d x h k. disjoint_sound f g x d h k, λ n. told (disjoint_rows f g) refl n)
  where
    told : (b : Bool) → disjoint_rows f g ≡ b → ((x : Expression) → Admits f x → Admits g x → ⊥) → T b
    told true e n = tt
    told false e n =
        let (x, h, k) = disjoint_complete f g (rw e tt) in
        n x h k

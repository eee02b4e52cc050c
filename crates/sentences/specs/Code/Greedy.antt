-- The loose test as a program does it: term by term up to an e. variable, then each segment at its leftmost place.
use Rattle.std.specs.Prelude.{Bool, true, false, cond, ◌⊎◌, ◌≡◌}
use Rattle.std.proofs.Math.Option.{Option, none, some}
use Rattle.law.specs.Tree.{Kind, symbol_kind, term_kind, expression_kind}
use Rattle.law.specs.Expression.{Terms, nothing, symbol, brackets}
use Rattle.law.specs.Symbol.{Symbol}
use Rattle.matching.specs.Pattern.{Atom, literal, variable, other, Pattern}
use Rattle.sentences.specs.Code.Loose.{loosely}

module _ {A : Type 0} where
  -- a row is an end of another
  abbrev pub EndOf : Terms A → Terms A → Type 0
  EndOf y nothing = y ≡ nothing
  EndOf y (symbol a x) = (y ≡ symbol a x) ⊎ EndOf y x
  EndOf y (brackets c x) = (y ≡ brackets c x) ⊎ EndOf y x

abbrev pub open_kind : Kind → Bool
open_kind symbol_kind = false
open_kind term_kind = false
open_kind expression_kind = true

abbrev pub open_atom : Atom → Bool
open_atom (literal a) = false
open_atom (variable v) = open_kind v.kind
open_atom other = false

module _ {X Y : Type 0} where
  abbrev pub next : Option X → (X → Option Y) → Option Y
  next none f = none
  next (some x) f = f x

module _ {X : Type 0} where
  abbrev pub or_else : Option X → Option X → Option X
  or_else none o = o
  or_else (some x) o = some x

module _ {A : Type 0} (same : A → A → Bool) (of_law : Symbol → A) (is_symbol is_single : A → Bool) where
  -- what follows the first term of a row, if a variable of a kind, no e. variable, may stand for it
  abbrev pub kind_fits : Kind → Terms A → Option (Terms A)
  kind_fits symbol_kind nothing = none
  kind_fits symbol_kind (symbol a x) = cond (is_symbol a) (some x) none
  kind_fits symbol_kind (brackets c x) = none
  kind_fits term_kind nothing = none
  kind_fits term_kind (symbol a x) = cond (is_single a) (some x) none
  kind_fits term_kind (brackets c x) = some x
  kind_fits expression_kind x = none

  -- if a term of a pattern, no bracket and no e. variable, fits it
  abbrev pub atom_fits : Atom → Terms A → Option (Terms A)
  atom_fits (literal a) nothing = none
  atom_fits (literal a) (symbol b x) = cond (same (of_law a) b) (some x) none
  atom_fits (literal a) (brackets c x) = none
  atom_fits (variable v) x = kind_fits v.kind x
  atom_fits other x = none

  -- if a bracket fits it
  abbrev pub bracket_fits : Pattern → Terms A → Option (Terms A)
  bracket_fits c nothing = none
  bracket_fits c (symbol a x) = none
  bracket_fits c (brackets d x) = cond (loosely same of_law is_symbol is_single c d) (some x) none

  -- the pattern's terms before its first e. variable, with the front of a row: what is left of both
  unfoldable pub front_of : Pattern → Terms A → Option (Pattern × Terms A)
  front_of nothing x = some (nothing, x)
  front_of (symbol t p) x = cond (open_atom t) (some (symbol t p, x)) (next (atom_fits t x) (λ y. front_of p y))
  front_of (brackets c p) x = next (bracket_fits c x) (λ y. front_of p y)

  -- the same at its leftmost place in a row
  unfoldable pub leftmost_of : Pattern → Terms A → Option (Pattern × Terms A)
  leftmost_of p nothing = front_of p nothing
  leftmost_of p (symbol a x) = or_else (front_of p (symbol a x)) (leftmost_of p x)
  leftmost_of p (brackets c x) = or_else (front_of p (brackets c x)) (leftmost_of p x)

  -- what is left passes the loose test
  abbrev pub left_passes : Option (Pattern × Terms A) → Bool
  left_passes none = false
  left_passes (some r) = loosely same of_law is_symbol is_single r.0 r.1

-- has a pattern an e. variable outside brackets?
unfoldable pub opens : Pattern → Bool
opens nothing = false
opens (symbol t p) = cond (open_atom t) true (opens p)
opens (brackets c p) = opens p

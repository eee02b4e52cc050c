-- Shadowing: `pattern_subsumes`, with document 01's correction that an e. variable of the later pattern is never a single term, and never going back
-- into a bracket whose contents matched. The later pattern is matched as if it were an expression, its variables standing for opaque values.
-- `valued` are the variables that already have a value: such a variable matches only itself. None has, in the base.
-- docs/SPECIFICATION.md, 7.7.
use Rattle.std.specs.Prelude.{Bool, true, false, List}
use Rattle.law.specs.Tree.{Kind, symbol_kind, term_kind, expression_kind}
use Rattle.law.specs.Expression.{nothing, symbol}
use Rattle.law.specs.Variables.{Variable, same_variable}
use Rattle.matching.specs.Pattern.{same_symbol, Atom, literal, variable, other, Pattern}
use Rattle.matching.specs.Match.{Values, none_bound, bound, some_in, matches}

-- calls and blocks are the same as nothing
abbrev pub same_atom : Atom → Atom → Bool
same_atom (literal x) (literal y) = same_symbol x y
same_atom (literal x) (variable w) = false
same_atom (literal x) other = false
same_atom (variable v) (literal y) = false
same_atom (variable v) (variable w) = same_variable v w
same_atom (variable v) other = false
same_atom other b = false

abbrev pub kind_is_symbol : Kind → Bool
kind_is_symbol symbol_kind = true
kind_is_symbol term_kind = false
kind_is_symbol expression_kind = false

abbrev pub kind_is_single : Kind → Bool
kind_is_single symbol_kind = true
kind_is_single term_kind = true
kind_is_single expression_kind = false

-- what an s. variable of the earlier pattern may stand for: a symbol or an s. variable
abbrev pub symbol_like : Atom → Bool
symbol_like (literal a) = true
symbol_like (variable v) = kind_is_symbol v.kind
symbol_like other = false

-- and a t. variable: a symbol, an s. or a t. variable (or a bracket)
abbrev pub single_term : Atom → Bool
single_term (literal a) = true
single_term (variable v) = kind_is_single v.kind
single_term other = false

-- the values at the start: each variable that already has a value stands for itself
unfoldable pub own_values : List Variable → Values Atom
own_values List.[] = none_bound
own_values (List.◌∷◌ v vs) = bound v (symbol (variable v) nothing) (own_values vs)

-- does the earlier pattern shadow the later one, where some variables already have a value?
unfoldable pub shadows_with : List Variable → Pattern → Pattern → Bool
shadows_with valued earlier later = some_in (matches same_atom literal symbol_like single_term false earlier later (own_values valued))

abbrev pub shadows : Pattern → Pattern → Bool
shadows = shadows_with List.[]

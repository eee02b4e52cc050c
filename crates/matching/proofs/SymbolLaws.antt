-- Numbers of a law by their values. Document 02, R-3: "Two number literals are now the same symbol when their values are equal."
use mathlib.Core.Path.{◌≡◌, refl, ap}
use lib.Dec.{eqb}
use Rattle.numbers.specs.Value.{Digits, value_of}
use Rattle.numbers.proofs.DigitLaws.{stripped_value, same_value}
use Rattle.law.specs.Tree.{Name, Symbol, character, identifier, number}
use Rattle.law.specs.Expression.{Literal}
use Rattle.law.specs.Symbol.{symbol_of, literal_of}
use Rattle.matching.specs.Pattern.{same_symbol, same_literal}
use Rattle.matching.specs.Literal.{InDigits}

-- two number literals, of any digits, are the same symbol exactly when their values are equal
pub numbers_by_value : (x y : Name) → Digits x.spelled → Digits y.spelled
    → same_symbol (symbol_of (number x)) (symbol_of (number y)) ≡ eqb (value_of x.spelled) (value_of y.spelled)
numbers_by_value x y h k = same_value x.spelled y.spelled h k

-- a number literal is its value in a run
pub number_in_run : (x : Name) → literal_of (symbol_of (number x)) ≡ Literal.number (value_of x.spelled)
number_in_run x = ap Literal.number (stripped_value x.spelled)

-- so two symbols are the same in a law exactly when they are the same in a run
pub same_in_run : (a b : Symbol) → InDigits a → InDigits b → same_symbol (symbol_of a) (symbol_of b) ≡ same_literal (literal_of (symbol_of a)) (literal_of (symbol_of b))
same_in_run (character c) (character d) h k = refl
same_in_run (character c) (identifier y) h k = refl
same_in_run (character c) (number y) h k = refl
same_in_run (identifier x) (character d) h k = refl
same_in_run (identifier x) (identifier y) h k = refl
same_in_run (identifier x) (number y) h k = refl
same_in_run (number x) (character d) h k = refl
same_in_run (number x) (identifier y) h k = refl
same_in_run (number x) (number y) h k = rw (stripped_value x.spelled, stripped_value y.spelled) (numbers_by_value x y h k)

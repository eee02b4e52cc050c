-- Rows one after another.
use mathlib.Core.Path.{◌≡◌, refl, ap}
use Rattle.law.specs.Expression.{Terms, nothing, symbol, brackets, ◌⊕◌}

module _ {A : Type 0} where
  -- three rows
  pub row_assoc : (x y z : Terms A) → (x ⊕ y) ⊕ z ≡ x ⊕ (y ⊕ z)
  row_assoc nothing y z = refl
  row_assoc (symbol a x) y z = ap (symbol a) (row_assoc x y z)
  row_assoc (brackets c x) y z = ap (brackets c) (row_assoc x y z)

  -- nothing after a row
  pub row_nothing : (x : Terms A) → x ⊕ nothing ≡ x
  row_nothing nothing = refl
  row_nothing (symbol a x) = ap (symbol a) (row_nothing x)
  row_nothing (brackets c x) = ap (brackets c) (row_nothing x)

-- A number as an operand, by the state after its digits: their value, or 4294967296 where that is more.
use Prim.Native.Nat.{ℕ, ◌≤◌}
use mathlib.Core.Bool.{Bool, true, false}
use mathlib.Core.List.{List}
use mathlib.Core.Path.{◌≡◌, ap, sym, ◌∙◌}
use native.Mathlib.Omega.{arith}
use borrow.Author.Tests.{leb-true}
use Rattle.numbers.specs.Value.{value_of, is_macrodigit}
use Rattle.numbers.specs.OnePass.{state_of}
use Rattle.numbers.proofs.CapLaws.{macrodigit_capped}
use Rattle.lints.specs.Code.Part.{number_operand}
use Rattle.lints.specs.declared.builtin.Operand.TheVariants.{Macrodigit}
use Rattle.std.specs.Prelude.{Some, None}

module _ (ds : List ℕ) {value : ℕ} {test : Bool} (capped : value ≡ state_of ds) (is : test ≡ is_macrodigit value) where
  -- the test of the state is that of the value
  test_of_value : test ≡ is_macrodigit (value_of ds)
  test_of_value = is ∙ (ap is_macrodigit capped ∙ macrodigit_capped (value_of ds))

  -- a macrodigit
  pub number_macrodigit : test ≡ true → Some (Macrodigit value) ≡ number_operand ds
  number_macrodigit h =
      let holds : is_macrodigit (value_of ds) ≡ true = sym test_of_value ∙ h in
      let small : value_of ds ≤ 4294967295 = leb-true (value_of ds) 4294967295 holds in
      let same : value ≡ value_of ds = omega (arith, capped, small) in
      rw (holds, same)

  -- past all macrodigits
  pub number_past : test ≡ false → None ≡ number_operand ds
  number_past h = rw (sym test_of_value ∙ h)

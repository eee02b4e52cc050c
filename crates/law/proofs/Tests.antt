-- Three tests in a row, and a test of every number below a bound.
use Prim.Native.Nat.{ℕ, zero, suc, ◌<◌}
use mathlib.Core.Bool.{Bool, true, ◌&&◌}
use mathlib.Core.Path.{◌≡◌, refl}
use native.Mathlib.Omega.{arith}
use Rattle.file.specs.Below.{every}
use Rattle.file.proofs.Below.{both, both_first, both_second}

-- tests that all hold, taken apart
pub three_hold : (a b c : Bool) → a && b && c ≡ true → (a ≡ true) × (b ≡ true) × (c ≡ true)
three_hold a b c h =
    let front : a && b ≡ true = both_first (a && b) c h in
    (both_first a b front, both_second a b front, both_second (a && b) c h)

-- a test that holds of each number below n
pub every_all : (n : ℕ) (p : ℕ → Bool) → ((i : ℕ) → i < n → p i ≡ true) → every n p ≡ true
unfolding every
every_all zero p h = refl
every_all (suc n) p h = both _ _ (every_all n p (λ i l. h i (omega arith))) (h n (omega arith))

-- As much as is kept of a value decides as the value does, also for digits that are read after it.
use Prim.Native.Nat.{ℕ, ◌+◌, ◌*◌, ◌-◌, ◌≤◌, ◌<◌}
use mathlib.Core.Bool.{Bool, true, false}
use mathlib.Core.List.{List, [], ◌∷◌}
use mathlib.Core.Path.{◌≡◌, refl, ap, sym, ◌∙◌}
use native.Mathlib.Omega.{arith}
use borrow.Author.Tests.{leb-true, leb-false, le-leb, lt-leb}
use Rattle.numbers.specs.Value.{value_after, is_macrodigit}
use Rattle.numbers.specs.OnePass.{capped, tested}

-- digits that are read after a value do not make it less
pub value_grows : (n : ℕ) (ds : List ℕ) → n ≤ value_after n ds
value_grows n [] = omega arith
value_grows n (d ∷ ds) = omega (arith, value_grows (n * 10 + (d - 48)) ds)

-- digits may be read after what is kept of a value
pub capped_after : (n : ℕ) (ds : List ℕ) → capped (value_after (capped n) ds) ≡ capped (value_after n ds)
capped_after n [] = omega arith
capped_after n (d ∷ ds) =
    let same : capped (capped n * 10 + (d - 48)) ≡ capped (n * 10 + (d - 48)) = omega arith in
    sym (capped_after (capped n * 10 + (d - 48)) ds) ∙ (ap (λ kept. capped (value_after kept ds)) same ∙ capped_after (n * 10 + (d - 48)) ds)

-- what is kept of a value is a macrodigit exactly where the value is
pub macrodigit_capped : (n : ℕ) → is_macrodigit (capped n) ≡ is_macrodigit n
macrodigit_capped n = go (is_macrodigit n) refl where
  go : (b : Bool) → is_macrodigit n ≡ b → is_macrodigit (capped n) ≡ is_macrodigit n
  go true e =
      let small : n ≤ 4294967295 = leb-true n 4294967295 e in
      le-leb (capped n) 4294967295 (omega (arith, small)) ∙ sym e
  go false e =
      let over : 4294967295 < n = leb-false n 4294967295 e in
      lt-leb (capped n) 4294967295 (omega (arith, over)) ∙ sym e

-- so both are answered alike
pub tested_capped : (n : ℕ) → tested (capped n) ≡ tested n
tested_capped n = rw (macrodigit_capped n)

-- also after digits that are read after them
pub tested_after : (n : ℕ) (ds : List ℕ) → tested (value_after (capped n) ds) ≡ tested (value_after n ds)
tested_after n ds = sym (tested_capped (value_after (capped n) ds)) ∙ (ap tested (capped_after n ds) ∙ tested_capped (value_after n ds))

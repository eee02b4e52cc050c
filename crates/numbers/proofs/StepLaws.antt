-- What a step gives for a digit and for another byte.
use Prim.Native.Nat.{ℕ}
use mathlib.Core.Bool.{true, false}
use mathlib.Core.List.{[], ◌∷◌}
use mathlib.Core.Path.{◌≡◌, refl, ap, ◌∙◌}
use Rattle.names.specs.Name.{digit_byte}
use Rattle.numbers.specs.Value.{value_after}
use Rattle.numbers.specs.OnePass.{capped, tested, step_of}
use Rattle.numbers.specs.declared.Step.{Step}
use Rattle.numbers.specs.declared.Tested.{Tested}
use Rattle.numbers.specs.declared.Tested.TheVariants.{NoDigit}
use Rattle.numbers.proofs.CapLaws.{capped_after, tested_capped}

-- a byte that is no digit
pub step_none : (state byte : ℕ) → digit_byte byte ≡ false → ◌≡◌ {A = Step} (record { state = state; answer = NoDigit }) (step_of state byte)
step_none state byte h = rw h refl

-- a digit, read after what is kept of the state, whose answer is that of what is kept
pub step_digit : (state byte : ℕ) {kept after : ℕ} {answer : Tested} → digit_byte byte ≡ true → kept ≡ capped state
    → after ≡ capped (value_after kept (byte ∷ [])) → answer ≡ tested after → ◌≡◌ {A = Step} (record { state = after; answer = answer }) (step_of state byte)
step_digit state byte h k e a =
    let read = e ∙ (ap (λ n. capped (value_after n (byte ∷ []))) k ∙ capped_after state (byte ∷ [])) in
    rw (h, a, read, tested_capped (value_after state (byte ∷ []))) refl

-- What an editor relies on when a number is typed, and the contract of `bilzarko_digit`: each follows from the other.
use Prim.Native.Nat.{ℕ, ◌+◌, ◌*◌, ◌-◌, ◌≤◌, ◌<◌}
use mathlib.Core.Bool.{Bool, true, false}
use mathlib.Core.Logic.{inl, ⊎_elim}
use mathlib.Core.Path.{◌≡◌, refl, ap, sym, ◌∙◌}
use native.Mathlib.Omega.{arith}
use borrow.Author.Tests.{leb-true, leb-false, le-leb, lt-leb}
use Rattle.names.specs.Name.{digit_byte}
use Rattle.numbers.specs.Value.{is_macrodigit}
use Rattle.numbers.specs.OnePass.{capped, step_of}
use Rattle.bilzarko.specs.Exported.{DigitExit, digit_exit}
use Rattle.loader.specs.Marked.{StandsFor, Marked}

abbrev exit_with : ℕ → ℕ → DigitExit
exit_with number state = record { number = number; state = state }

module _ (state byte : ℕ) where
  -- the value of all digits so far, where the state is the value of those before
  abbrev read : ℕ
  read = state * 10 + (byte - 48)

  none_exit : digit_byte byte ≡ false → digit_exit (step_of state byte) ≡ exit_with 2 state
  none_exit h = rw h refl

  most_exit : digit_byte byte ≡ true → read ≤ 4294967295 → digit_exit (step_of state byte) ≡ exit_with 1 read
  most_exit h small = let same : capped read ≡ read = omega (arith, small) in rw (h, le-leb read 4294967295 small, same) refl

  past_exit : digit_byte byte ≡ true → 4294967295 < read → digit_exit (step_of state byte) ≡ exit_with 0 4294967296
  past_exit h over = let full : capped read ≡ 4294967296 = omega (arith, over) in rw (h, lt-leb read 4294967295 over, full) refl

  -- ---- what an editor relies on

  module _ (exit : DigitExit) (is : exit ≡ digit_exit (step_of state byte)) where
    parts : {number after : ℕ} → digit_exit (step_of state byte) ≡ exit_with number after → (exit.number ≡ number) × (exit.state ≡ after)
    parts e = (ap (λ x. x.number) (is ∙ e), ap (λ x. x.state) (is ∙ e))

    at_most : digit_byte byte ≡ true → (n : ℕ) → StandsFor state n → n * 10 + (byte - 48) ≤ 4294967295
        → (exit.number ≡ 1) × (exit.state ≡ n * 10 + (byte - 48))
    at_most h n stands small =
        let same : state ≡ n = ⊎_elim (λ e. e) (λ over. absurd (omega (arith, over.1, small))) stands in
        let (number, after) = parts (most_exit h (omega (arith, same, small))) in
        (number, after ∙ omega (arith, same))

    past : digit_byte byte ≡ true → (n : ℕ) → StandsFor state n → 4294967295 < n * 10 + (byte - 48) → (exit.number ≡ 0) × (exit.state ≡ 4294967296)
    past h n stands over =
        let more : 4294967295 < read = ⊎_elim (λ e. omega (arith, e, over)) (λ both. omega (arith, both.0)) stands in
        parts (past_exit h more)

    pub marked : Marked state byte exit.number exit.state
    marked = record { no_digit = λ h. parts (none_exit h); at_most = at_most; past = past }

  -- ---- the exported contract

  module _ (exit : DigitExit) (marked : Marked state byte exit.number exit.state) where
    whole : {number after : ℕ} → (exit.number ≡ number) × (exit.state ≡ after) → exit ≡ exit_with number after
    whole (n, s) = rw (n, s) refl

    of_value : digit_byte byte ≡ true → (b : Bool) → is_macrodigit read ≡ b → exit ≡ digit_exit (step_of state byte)
    of_value h true e = let small = leb-true read 4294967295 e in whole (marked.at_most h state (inl refl) small) ∙ sym (most_exit h small)
    of_value h false e = let over = leb-false read 4294967295 e in whole (marked.past h state (inl refl) over) ∙ sym (past_exit h over)

    of_byte : (b : Bool) → digit_byte byte ≡ b → exit ≡ digit_exit (step_of state byte)
    of_byte true h = of_value h (is_macrodigit read) refl
    of_byte false h = whole (marked.no_digit h) ∙ sym (none_exit h)

    pub exported : exit ≡ digit_exit (step_of state byte)
    exported = of_byte (digit_byte byte) refl

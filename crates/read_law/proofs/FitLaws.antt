-- A law file that was written lies within the buffer.
use Prim.Native.Nat.{ℕ, ◌≤◌, ◌<◌}
use mathlib.Core.List.{List}
use mathlib.Core.Path.{◌≡◌, sym, ap, ◌∙◌}
use native.Mathlib.Omega.{arith}
use native.Mathlib.Decide.{dec_lt}
use lib.ListN.{length}
use Rattle.file.specs.Answer.{Answer, refused, given}
use Rattle.buffers.proofs.FittedLaws as fitted
use Rattle.std.specs.Prelude.{Result, Ok}
use Rattle.reader.specs.declared.Unread.{Unread}
use Rattle.reader.specs.Outcome.{text_file, read_by, read_outcome, read_answer, read_after}

pub written_fits : (text law after : List ℕ) (r : Result ℕ Unread) (bytes : ℕ) → r ≡ Ok bytes → read_after r after ≡ read_outcome text law → bytes ≤ length law
unfolding read_by read_outcome
written_fits text law after r bytes is outcome = go (text_file text) (sym (ap read_answer is) ∙ ap (λ o. o.answer) outcome)
  where
    fits : (file : List ℕ) → given bytes ≡ (read_by law (given file)).answer → Dec (length law < length file) → bytes ≤ length law
    fits file e (yes h) =
        let f : ◌≡◌ {A = Answer ℕ} (given bytes) (refused 17) = rw (fitted.too_long 17 law file h) at e in
        let z : ◌≡◌ {A = ℕ} 0 1 = cc in absurd (omega arith)
    fits file e (no h) =
        let f : ◌≡◌ {A = Answer ℕ} (given bytes) (given (length file)) = rw (fitted.fits 17 law file (omega arith)) at e in
        let size : bytes ≡ length file = cc in
        omega (arith, size, h)

    go : (a : Answer (List ℕ)) → given bytes ≡ (read_by law a).answer → bytes ≤ length law
    go (refused n) e = let z : ◌≡◌ {A = ℕ} 0 1 = cc in absurd (omega arith)
    go (given file) e = fits file e (dec_lt (length law) (length file))

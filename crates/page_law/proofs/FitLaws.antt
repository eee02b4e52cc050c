-- A page that was written lies within the buffer.
use Prim.Native.Nat.{ℕ, ◌≤◌, ◌<◌}
use mathlib.Core.List.{List}
use mathlib.Core.Path.{◌≡◌, sym, ap, ◌∙◌}
use native.Mathlib.Omega.{arith}
use native.Mathlib.Decide.{dec_lt}
use lib.ListN.{length}
use Rattle.std.specs.Prelude.{Result, Ok}
use Rattle.file.specs.Answer.{Answer, refused, given, ◌>>=◌}
use Rattle.buffers.proofs.FittedLaws as fitted
use Rattle.law.specs.Tree.{Law}
use Rattle.lints.specs.Levels.{Settings}
use Rattle.lints.specs.Findings.{listing}
use Rattle.listing.specs.declared.Turned.{Turned}
use Rattle.listing.specs.Outcome.{told_answer, front, fitted_bytes, bytes_front, bytes_outcome, page_of, page_outcome}
use Rattle.listing.specs.Promise.{bytes_after}

module _ (settings : Settings) (store buffer : List ℕ) (n : ℕ) where
  fits : (page : List ℕ) → given n ≡ (fitted_bytes 18 buffer (given page)).0 → Dec (length buffer < length page) → n ≤ length buffer
  fits page e (yes h) =
      let f : ◌≡◌ {A = Answer ℕ} (given n) (refused 18) = rw (fitted.too_long 18 buffer page h) at e in
      let z : ◌≡◌ {A = ℕ} 0 1 = cc in absurd (omega arith)
  fits page e (no h) =
      let f : ◌≡◌ {A = Answer ℕ} (given n) (given (length page)) = rw (fitted.fits 18 buffer page (omega arith)) at e in
      let size : n ≡ length page = cc in
      omega (arith, size, h)

  answer_fits : (a : Answer (List ℕ)) → given n ≡ (fitted_bytes 18 buffer a).0 → n ≤ length buffer
  answer_fits (refused k) e = let z : ◌≡◌ {A = ℕ} 0 1 = cc in absurd (omega arith)
  answer_fits (given page) e = fits page e (dec_lt (length buffer) (length page))

  front_fits : (a : Answer Law) → given n ≡ (bytes_front 64 settings 18 (page_of settings) store buffer a).answer → n ≤ length buffer
  front_fits (refused k) e = let z : ◌≡◌ {A = ℕ} 0 1 = cc in absurd (omega arith)
  front_fits (given law) e = answer_fits (listing 64 settings law >>= page_of settings law) e

pub written_fits : (settings : Settings) (law store filled buffer after : List ℕ) (r : Result ℕ Turned) (n : ℕ) → r ≡ Ok n
    → bytes_after r filled after ≡ page_outcome 64 settings law store buffer → n ≤ length buffer
unfolding bytes_outcome
written_fits settings law store filled buffer after r n is outcome =
    front_fits settings store buffer n (front 64 settings law store) (sym (ap told_answer is) ∙ ap (λ o. o.answer) outcome)

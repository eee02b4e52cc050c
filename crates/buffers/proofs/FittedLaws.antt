-- Words in a lent buffer (`fitted`, specs/Fitted.antt): where they fit, and where they do not.
use Prim.Native.Nat.{ℕ, ◌+◌, ◌≤◌, ◌<◌}
use mathlib.Core.List.{List}
use mathlib.Core.Path.{◌≡◌}
use native.Mathlib.Omega.{arith}
use lib.ListN.{length}
use borrow.Author.Tests.{le-leb, lt-leb}
use Rattle.file.specs.Answer.{refused, given}
use Rattle.buffers.specs.Written.{written}
use Rattle.buffers.specs.Fitted.{fitted}

module _ (number : ℕ) (buffer words : List ℕ) where
  pub fits : length words ≤ length buffer → fitted number buffer words ≡ (given (length words), written buffer 0 words)
  fits h =
      let same : 0 + length words ≡ length words = omega arith in
      rw (same, le-leb (length words) (length buffer) h)

  pub too_long : length buffer < length words → fitted number buffer words ≡ (refused number, buffer)
  too_long h =
      let same : 0 + length words ≡ length words = omega arith in
      rw (same, lt-leb (length words) (length buffer) h)

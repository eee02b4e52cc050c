-- Words in a lent buffer, or the refusal that they do not fit.
-- docs/SPECIFICATION.md, 12.3 to 12.5, 19.9.
use Rattle.std.specs.Prelude.{ℕ, ◌+◌, cond, List, length, leb}
use Rattle.file.specs.Answer.{Answer, refused, given}
use Rattle.buffers.specs.Written.{written}

-- from a position on: the position after them, and the buffer with them; or the refusal, which leaves the buffer as it was
abbrev pub fitted_at : ℕ → List ℕ → ℕ → List ℕ → Answer ℕ × List ℕ
fitted_at number buffer at words =
    cond (leb (at + length words) (length buffer)) (given (at + length words), written buffer at words) (refused number, buffer)

-- from the buffer's start on: how many they are, and the buffer with them; or the refusal
abbrev pub fitted : ℕ → List ℕ → List ℕ → Answer ℕ × List ℕ
fitted number buffer words = fitted_at number buffer 0 words

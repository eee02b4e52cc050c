-- What the functions that put words into a buffer promise: those that there is room for stand in it, and the position after all of them is answered.
use Rattle.std.specs.Prelude.{ℕ, ◌+◌, ◌-◌, List, ◌≡◌, length, take}
use Rattle.buffers.specs.Written.{written}

-- the list with words put at a position, as many as there is room for: none past its end
unfoldable pub put_fit : List ℕ → ℕ → List ℕ → List ℕ
put_fit old at new = written old at (take (length old - at) new)

-- words were put: the position after them, and the list that then stands
pub record Put (old : List ℕ) (at : ℕ) (new : List ℕ) (next : ℕ) (after : List ℕ) : Type 0 where
  pub end : next ≡ at + length new
  pub words : after ≡ put_fit old at new

-- the largest number of a position
abbrev pub largest : ℕ
largest = 18446744073709551615

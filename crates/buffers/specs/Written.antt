-- What a list of words holds after some of them are written over.
-- docs/SPECIFICATION.md, 12.3 to 12.5.
use Rattle.std.specs.Prelude.{ℕ, ◌+◌, List, ◌++◌, length, take, drop}

-- the list with other words in the place of those from a position on
unfoldable pub written : List ℕ → ℕ → List ℕ → List ℕ
written old at new = take at old ++ new ++ drop (at + length new) old

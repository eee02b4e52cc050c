-- Records that hold records: a run of flat records as a forest, contents and then the rest. Stated once, over the size of a record and over where the
-- contents of a run's first record end, since term records (24 bytes) and the shapes of a format (one word) are both read so.
-- docs/SPECIFICATION.md, 1.5, 1.6.
use Rattle.std.specs.Prelude.{ℕ, zero, suc, ◌-◌, List, true, false, length, take, drop, ltb}

-- nothing, or a run whose first record stands first in the bytes, with the forest inside that record and the forest after it
pub data Forest : Type 0 where
  end : Forest
  node : List ℕ → Forest → Forest → Forest

module _ (size : ℕ) (end_of : List ℕ → ℕ) where
  -- the records inside the first record, and the records after it
  abbrev pub contents : List ℕ → List ℕ
  contents s = take (end_of s - size) (drop size s)

  abbrev pub rest : List ℕ → List ℕ
  rest s = take (length s - end_of s) (drop (end_of s) s)

  unfoldable pub decode : ℕ → List ℕ → Forest
  decode zero s = end
  decode (suc k) s = elim (ltb (length s) size) as (λ _. Forest) [
    | true ↦ end
    | false ↦ node s (decode k (contents s)) (decode k (rest s))
  ]

  unfoldable pub forest_of : List ℕ → Forest
  forest_of s = decode (length s) s

-- What `forest_of` (specs/Forest.antt) is: nothing where the bytes are too few for a record, else the first record with the forests of
-- its contents and of the rest, which are both shorter.
use Prim.Native.Nat.{ℕ, zero, suc, ◌≤◌, ◌<◌}
use mathlib.Core.List.{List}
use mathlib.Core.Path.{◌≡◌, refl}
use native.Mathlib.Omega.{arith}
use native.Mathlib.Nat.{le_refl}
use native.Mathlib.Decide.{dec_lt}
use lib.ListN.{length, length-take, length-drop}
use borrow.Author.Tests.{lt-ltb, le-ltb}
use Rattle.file.specs.Forest.{end, node, contents, rest, decode, forest_of}

module _ (size : ℕ) (end_of : List ℕ → ℕ) (positive : 0 < size) (low : (s : List ℕ) → size ≤ length s → size ≤ end_of s) (high : (s : List ℕ) → end_of s ≤ length s) where
  -- the contents of a record are shorter than the run that it begins
  pub contents_falls : (s : List ℕ) → size ≤ length s → length (contents size end_of s) < length s
  contents_falls s h = simp (length-take, length-drop) (omega (arith, low s h, high s))

  -- the rest after a record is shorter than the run that it begins
  pub rest_falls : (s : List ℕ) → size ≤ length s → length (rest size end_of s) < length s
  rest_falls s h = simp (length-take, length-drop) (omega (arith, low s h, high s))

  -- too few bytes for a record, at any fuel
  short : (k : ℕ) (s : List ℕ) → length s < size → decode size end_of k s ≡ end
  unfolding decode
  short zero s h = refl
  short (suc k) s h = rw (lt-ltb (length s) size h, decode)

  -- one record, at any fuel
  long : (k : ℕ) (s : List ℕ) → size ≤ length s
      → decode size end_of (suc k) s ≡ node s (decode size end_of k (contents size end_of s)) (decode size end_of k (rest size end_of s))
  unfolding decode
  long k s h = rw (le-ltb (length s) size h, decode)

  -- more fuel changes nothing
  fuel : (j k : ℕ) (s : List ℕ) → length s ≤ j → length s ≤ k → decode size end_of j s ≡ decode size end_of k s
  fuel zero k s p q = rw (short k s (omega arith), short zero s (omega arith))
  fuel (suc j) zero s p q = rw (short (suc j) s (omega arith), short zero s (omega arith))
  fuel (suc j) (suc k) s p q =
      go (dec_lt (length s) size)
      (λ h. fuel j k (contents size end_of s) (omega (arith, contents_falls s h)) (omega (arith, contents_falls s h)))
      (λ h. fuel j k (rest size end_of s) (omega (arith, rest_falls s h)) (omega (arith, rest_falls s h)))
    where
      go : Dec (length s < size)
          → (size ≤ length s → decode size end_of j (contents size end_of s) ≡ decode size end_of k (contents size end_of s))
          → (size ≤ length s → decode size end_of j (rest size end_of s) ≡ decode size end_of k (rest size end_of s))
          → decode size end_of (suc j) s ≡ decode size end_of (suc k) s
      go (yes h) a b = rw (short (suc j) s h, short (suc k) s h)
      go (no h) a b =
          let l : size ≤ length s = omega arith in
          rw (long j s l, long k s l, a l, b l)

  -- no record stands in too few bytes
  pub forest_end : (s : List ℕ) → length s < size → forest_of size end_of s ≡ end
  unfolding forest_of
  forest_end s h = short (length s) s h

  -- the first record, its contents and the rest, with any fuel that is as large as the length
  step : (n : ℕ) (s : List ℕ) → length s ≡ n → size ≤ length s
      → decode size end_of n s ≡ node s (forest_of size end_of (contents size end_of s)) (forest_of size end_of (rest size end_of s))
  unfolding forest_of
  step zero s e h = absurd (omega arith)
  step (suc n) s e h =
      rw (
        long n s h,
        fuel n (length (contents size end_of s)) (contents size end_of s) (omega (arith, contents_falls s h)) (le_refl _),
        fuel n (length (rest size end_of s)) (rest size end_of s) (omega (arith, rest_falls s h)) (le_refl _),
      )

  -- a record that stands first in the bytes
  pub forest_node : (s : List ℕ) → size ≤ length s
      → forest_of size end_of s ≡ node s (forest_of size end_of (contents size end_of s)) (forest_of size end_of (rest size end_of s))
  unfolding forest_of
  forest_node s h = step (length s) s refl h

-- Laws of `word_at` (specs/Word.antt) and of `term_from` (specs/Head.antt).
use Prim.Native.Nat.{ℕ, ◌+◌, ◌-◌, ◌≤◌, ◌<◌}
use mathlib.Core.List.{List}
use mathlib.Core.Path.{◌≡◌}
use native.Mathlib.Numerals.{add_eight}
use native.Mathlib.Omega.{arith}
use native.Mathlib.Nat.{add_assoc, add-zero}
use lib.ListN.{take, drop, get_or}
use lib.Seq.{get_or-take, get_or-drop}
use Rattle.file.specs.Word.{word_at}
use Rattle.file.specs.Head.{term_from}
use Rattle.file.specs.declared.Term.TheVariants.{Block}

-- one byte of a part
byte_part : (s : List ℕ) (a n i : ℕ) → i < n → get_or (take n (drop a s)) i 0 ≡ get_or s (a + i) 0
byte_part s a n i h = rw (get_or-take n (drop a s) i 0 h, get_or-drop a s i 0)

-- a word of a part is the word of the whole, at the part's start and the position in it
pub word_part : (s : List ℕ) (a n at : ℕ) → at + 4 ≤ n → word_at (take n (drop a s)) at ≡ word_at s (a + at)
unfolding word_at
word_part s a n at h =
    rw (
      byte_part s a n at (omega arith),
      byte_part s a n (at + 1) (omega arith),
      byte_part s a n (at + 2) (omega arith),
      byte_part s a n (at + 3) (omega arith),
      add_assoc a at 1,
      add_assoc a at 2,
      add_assoc a at 3,
    )

-- a word after the first a bytes
pub word_drop : (s : List ℕ) (a at : ℕ) → word_at (drop a s) at ≡ word_at s (a + at)
unfolding word_at
word_drop s a at =
    rw (
      get_or-drop a s at 0,
      get_or-drop a s (at + 1) 0,
      get_or-drop a s (at + 2) 0,
      get_or-drop a s (at + 3) 0,
      add_assoc a at 1,
      add_assoc a at 2,
      add_assoc a at 3,
    )

-- the first word after the first a bytes
pub word_first : (s : List ℕ) (a : ℕ) → word_at (drop a s) 0 ≡ word_at s a
word_first s a = rw (word_drop s a 0, add-zero a)

-- a number that is at least n and not n is at least n + 1
pub above : (n k : ℕ) → n ≤ k → (k ≡ n → ⊥) → n + 1 ≤ k
above n k h d = omega arith

-- from 8 on a kind says a block
pub term_past : (kind a b : ℕ) → 8 ≤ kind → term_from kind a b ≡ Block a
unfolding term_from
term_past kind a b h =
    let e : kind ≡ kind - 8 + 8 = omega arith in
    rw (e, add_eight (kind - 8))

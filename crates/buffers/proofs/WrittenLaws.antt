-- Laws of `written` (specs/Written.antt): two writes in a row are one, and a single word.
use Prim.Native.Nat.{ℕ, suc, ◌+◌, ◌≤◌, ◌<◌}
use mathlib.Core.List.{List, [], ◌∷◌, ◌++◌, append_assoc, append-nil}
use mathlib.Core.Path.{◌≡◌, refl}
use native.Mathlib.Omega.{arith}
use native.Mathlib.Nat.{add-zero, add_assoc}
use native.Mathlib.Numerals.{add-one}
use lib.ListN.{length, take, drop, get_or, set, length-append, length-take, length-drop, take-append-drop}
use lib.Seq.{take_at, take-append-le, take-take, drop_at, drop-append-add, drop-drop, length-take-le, set_at, set_split, take-suc}
use Rattle.buffers.specs.Written.{written}

-- nothing written
pub written_none : (old : List ℕ) (at : ℕ) → old ≡ written old at []
unfolding written
written_none old at = rw (append-nil, add-zero, take-append-drop)

-- the length stays
pub written_length : (old : List ℕ) (at : ℕ) (new : List ℕ) → at + length new ≤ length old → length (written old at new) ≡ length old
unfolding written
written_length old at new h = simp (length-append, length-take, length-drop) (omega arith)

front_length : (old : List ℕ) (at : ℕ) (new : List ℕ) → at + length new ≤ length old → length (take at old ++ new) ≡ at + length new
front_length old at new h = rw (length-append, length-take-le at old (omega arith))

past_front : (front back : List ℕ) (n k : ℕ) → length front ≡ n → drop (n + k) (front ++ back) ≡ drop k back
past_front front back n k e = rw (← e) (drop-append-add front back k)

-- a write right after another: one write of both
pub written_more : (old : List ℕ) (at next : ℕ) (first second : List ℕ) → at + length first ≤ length old → next ≡ at + length first
    → written (written old at first) next second ≡ written old at (first ++ second)
unfolding written
written_more old at next first second h e =
    let front = front_length old at first h in
    rw (
      e,
      take_at (take at old ++ first) (drop (at + length first) old) (at + length first) front,
      past_front (take at old ++ first) (drop (at + length first) old) (at + length first) (length second) front,
      drop-drop,
      length-append,
    )
    (simp (append_assoc, add_assoc))

-- a write right before another: one write of both
pub written_before : (old : List ℕ) (at next : ℕ) (front back : List ℕ) → next ≡ at + length front → next + length back ≤ length old
    → written (written old next back) at front ≡ written old at (front ++ back)
unfolding written
written_before old at next front back e h =
    let size : length (take next old) ≡ next = length-take-le next old (omega arith) in
    let low : at ≤ length (take next old) = omega arith in
    let past : at + length (front ++ back) ≡ next + length back = omega (arith, length-append front back) in
    rw (
      append_assoc (take next old) back (drop (next + length back) old),
      ← e,
      past,
      take-append-le at (take next old) (back ++ drop (next + length back) old) low,
      take-take at next old (omega arith),
      drop_at (take next old) (back ++ drop (next + length back) old) next size,
    )
    (simp append_assoc)

-- one word
pub written_one : (old : List ℕ) (at word : ℕ) → at < length old → set old at word ≡ written old at (word ∷ [])
unfolding written
written_one old at word h = rw (set_split old at word h) (simp append_assoc (rw add-one refl))

-- one word in front of words that were written after it
pub written_front : (old : List ℕ) (at word : ℕ) (new : List ℕ) → at + 1 + length new ≤ length old
    → set (written old (at + 1) new) at word ≡ written old at (word ∷ new)
unfolding written
written_front old at word new h =
    let past : at + suc (length new) ≡ at + 1 + length new = omega arith in
    let inside : at < length old = omega arith in
    rw (past, add-one, take-suc old at 0 inside)
    (simp append_assoc (set_at (take at old) (get_or old at 0) (new ++ drop (suc at + length new) old) word at (length-take-le at old (omega arith))))

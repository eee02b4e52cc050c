-- Laws of the loop that copies words.
use Prim.Native.Nat.{ℕ, suc, ◌+◌, ◌≤◌, ◌<◌}
use mathlib.Core.List.{List, ◌++◌, append-nil, append_assoc}
use mathlib.Core.Path.{◌≡◌, ◌∙◌}
use native.Mathlib.Omega.{arith}
use native.Mathlib.Numerals.{add-one}
use lib.ListN.{length, take, drop, get_or, set, drop_of_length-le}
use lib.Seq.{take_all, take-suc, drop-cons, set_at, length-take-le}

-- one more word is copied
pub copy_next : (old words new : List ℕ) (i : ℕ) → i < length words → i < length old → new ≡ take i words ++ drop i old
    → set new i (get_or words i 0) ≡ take (i + 1) words ++ drop (i + 1) old
copy_next old words new i h k e =
    rw (e, add-one, take-suc words i 0 h, drop-cons old i 0 k)
    (set_at (take i words) (get_or old i 0) (drop (suc i) old) (get_or words i 0) i (length-take-le i words (omega arith)) ∙ simp append_assoc)

-- all words were copied
pub copied : (old words new : List ℕ) (i : ℕ) → length words ≡ length old → length words ≤ i → new ≡ take i words ++ drop i old → new ≡ words
copied old words new i h k e = e ∙ rw (take_all i words k, drop_of_length-le old {i = i} (omega arith), append-nil)

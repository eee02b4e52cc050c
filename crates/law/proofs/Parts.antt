-- A part of the term records, as a run: how long it is, the words in it, and that its contents and its rest are parts too.
use Prim.Native.Nat.{ℕ, zero, suc, ◌+◌, ◌*◌, ◌-◌, ◌≤◌}
use mathlib.Core.List.{List, [], ◌∷◌}
use mathlib.Core.Path.{◌≡◌, sym, ap, ◌∙◌}
use native.Mathlib.Omega.{arith}
use native.Mathlib.Nat.{sub-zero, zero-sub, suc-sub-suc, add_assoc}
use lib.ListN.{length, take, drop, length-take, length-drop}
use lib.Seq.{get_or-take, get_or-drop, take_all, take-nil, take-take, drop-drop}
use Rattle.file.specs.Word.{word_at}
use Rattle.file.specs.Sections.{File}
use Rattle.file.specs.Forest.{contents, rest}
use Rattle.law.specs.Places.{terms_at}
use Rattle.law.specs.Runs.{end_of}

-- what is left of the first n past the first m
pub drop_take : (m n : ℕ) (l : List ℕ) → drop m (take n l) ≡ take (n - m) (drop m l)
drop_take zero n l = rw sub-zero
drop_take (suc m) zero l = rw (zero-sub (suc m))
drop_take (suc m) (suc n) [] = rw take-nil
drop_take (suc m) (suc n) (x ∷ l) = rw suc-sub-suc (drop_take m n l)

-- a part of a part
pub part_part : (a n b m : ℕ) (l : List ℕ) → b + m ≤ n → take m (drop b (take n (drop a l))) ≡ take m (drop (a + b) l)
part_part a n b m l h = rw (drop_take, take-take m (n - b) _ (omega arith), drop-drop)

-- a word of a part, in the whole
pub part_word : (a n k : ℕ) (l : List ℕ) → k + 4 ≤ n → word_at (take n (drop a l)) k ≡ word_at l (a + k)
unfolding word_at
part_word a n k l h =
    rw (
      get_or-take n (drop a l) k 0 (omega arith),
      get_or-take n (drop a l) (k + 1) 0 (omega arith),
      get_or-take n (drop a l) (k + 2) 0 (omega arith),
      get_or-take n (drop a l) (k + 3) 0 (omega arith),
    )
    (simp (get_or-drop, add_assoc))

-- what is left of a part from a position on
abbrev pub from : ℕ → List ℕ → List ℕ
from n s = take (length s - n) (drop n s)

from_drop : (n : ℕ) (s : List ℕ) → from n s ≡ drop n s
from_drop n s = take_all (length s - n) (drop n s) (omega (arith, length-drop n s))

pub from_all : (s : List ℕ) → from 0 s ≡ s
from_all s = from_drop 0 s

pub from_length : (n : ℕ) (s : List ℕ) → length (from n s) ≡ length s - n
from_length n s = rw (from_drop n s) (length-drop n s)

pub from_from : (m n : ℕ) (s : List ℕ) → from m (from n s) ≡ from (n + m) s
from_from m n s = from_drop m (from n s) ∙ ap (drop m) (from_drop n s) ∙ drop-drop m n s ∙ sym (from_drop (n + m) s)

module _ (file : File) (whole : length file.terms.records ≡ 24 * file.terms.count) (at count : ℕ) (inside : at + count ≤ file.terms.count) where
  -- a part's length
  pub terms_length : length (terms_at file at count) ≡ 24 * count
  terms_length = simp (length-take, length-drop) (omega arith)

  -- a part's words
  pub terms_word : (k : ℕ) → k + 4 ≤ 24 * count → word_at (terms_at file at count) k ≡ word_at file.terms.records (24 * at + k)
  terms_word k h = part_word (24 * at) (24 * count) k file.terms.records h

  module _ (n : ℕ) (first : word_at (terms_at file at count) 12 ≡ n) (fit : 1 + n ≤ count) where
    -- where the contents of the first record end
    pub terms_end : end_of (terms_at file at count) ≡ 24 + 24 * n
    unfolding end_of
    terms_end = rw (first, terms_length) (omega arith)

    -- its contents, and the records after them
    pub terms_contents : contents 24 end_of (terms_at file at count) ≡ terms_at file (at + 1) n
    terms_contents =
        let size : 24 + 24 * n - 24 ≡ 24 * n = omega arith in
        let start : 24 * at + 24 ≡ 24 * (at + 1) = omega arith in
        rw (terms_end, size, part_part (24 * at) (24 * count) 24 (24 * n) file.terms.records (omega arith), start)

    pub terms_rest : rest 24 end_of (terms_at file at count) ≡ terms_at file (at + 1 + n) (count - (1 + n))
    terms_rest =
        let size : 24 * count - (24 + 24 * n) ≡ 24 * (count - (1 + n)) = omega arith in
        let start : 24 * at + (24 + 24 * n) ≡ 24 * (at + 1 + n) = omega arith in
        rw (
          terms_end,
          terms_length,
          size,
          part_part (24 * at) (24 * count) (24 + 24 * n) (24 * (count - (1 + n))) file.terms.records (omega arith),
          start,
        )

-- Laws of fields (`left`, `right`, specs/Page.antt): how many columns they have, and that what is not wider stands in them whole.
use Prim.Native.Nat.{ℕ, zero, suc, ◌+◌, ◌-◌, ◌≤◌, ◌<◌}
use mathlib.Core.List.{List, [], ◌∷◌, ◌++◌, append-nil}
use mathlib.Core.Path.{◌≡◌, refl, ap, ◌∙◌}
use native.Mathlib.Omega.{arith}
use native.Mathlib.Nat.{sub-zero, zero-sub, suc-sub-suc}
use lib.ListN.{length, take, drop, replicate, length-append, length-drop, length-replicate}
use lib.Seq.{length-take-le, take-append-add, drop-append-le}
use borrow.Author.Tests.{le-leb, lt-leb}
use Rattle.law.specs.Text.{bytes_of}
use Rattle.buffers.specs.Decimal.{decimal}
use Rattle.buffers.specs.Code.Put.{Put}
use Rattle.buffers.proofs.PutLaws.{◌then◌}
use Rattle.buffers.proofs.DigitLaws.{decimal_ten}
use Rattle.pages.specs.Page.{space, line_feed, left, right, next_field, cut, heading}

-- ---- parts of equal words

pub take_equal : (n m a : ℕ) → n ≤ m → take n (replicate m a) ≡ replicate n a
take_equal zero m a h = refl
take_equal (suc n) zero a h = absurd (omega (arith, h))
take_equal (suc n) (suc m) a h = ap (λ r. a ∷ r) (take_equal n m a (omega (arith, h)))

drop_equal : (n m a : ℕ) → drop n (replicate m a) ≡ replicate (m - n) a
drop_equal zero m a = rw (sub-zero m) refl
drop_equal (suc n) zero a = rw (zero-sub (suc n)) refl
drop_equal (suc n) (suc m) a = rw (suc-sub-suc m n) (drop_equal n m a)

-- ---- columns

pub left_columns : (columns : ℕ) (word : List ℕ) → length (left columns word) ≡ columns
unfolding left
left_columns columns word =
    length-take-le columns (word ++ replicate columns space)
    (omega (arith, length-append word (replicate columns space), length-replicate columns space))

pub right_columns : (columns : ℕ) (number : List ℕ) → length (right columns number) ≡ columns
unfolding right
right_columns columns number =
    omega (
      arith,
      length-drop (length number) (replicate columns space ++ number),
      length-append (replicate columns space) number,
      length-replicate columns space,
    )

-- ---- what is not wider stands whole

pub left_whole : (columns : ℕ) (word : List ℕ) → length word ≤ columns → left columns word ≡ word ++ replicate (columns - length word) space
unfolding left
left_whole columns word h =
    let split : columns ≡ length word + (columns - length word) = omega (arith, h) in
    ap (λ n. take n (word ++ replicate columns space)) split
    ∙ take-append-add word (replicate columns space) (columns - length word)
    ∙ ap (λ spaces. word ++ spaces) (take_equal (columns - length word) columns space (omega arith))

pub right_whole : (columns : ℕ) (number : List ℕ) → length number ≤ columns → right columns number ≡ replicate (columns - length number) space ++ number
unfolding right
right_whole columns number h =
    drop-append-le (length number) (replicate columns space) number (omega (arith, h, length-replicate columns space))
    ∙ ap (λ spaces. spaces ++ number) (drop_equal (length number) columns space)

-- words of findings are below 2 to the 32nd
pub ten_digits : (n : ℕ) → n < 10000000000 → right 10 (decimal n) ≡ replicate (10 - length (decimal n)) space ++ decimal n
ten_digits n h = right_whole 10 (decimal n) (decimal_ten n h)

-- with the space before it
pub next_number : (n : ℕ) → n < 10000000000 → replicate (11 - length (decimal n)) space ++ decimal n ≡ next_field (right 10 (decimal n))
next_number n h =
    let one : 11 - length (decimal n) ≡ suc (10 - length (decimal n)) = omega (arith, decimal_ten n h) in
    rw (one, ten_digits n h)

-- ---- names

pub short_name_lem : (name : List ℕ) → length name ≤ 24 → cut name ≡ name
short_name_lem name h = rw (le-leb (length name) 24 h)

pub long_name : (name : List ℕ) → 24 < length name → left 24 (cut name) ≡ take 23 name ++ 43 ∷ []
unfolding bytes_of
long_name name h =
    let size : length (take 23 name ++ 43 ∷ []) ≡ 24 =
    omega (arith, length-append (take 23 name) (43 ∷ []), length-take-le 23 name (omega (arith, h))) in
    rw (lt-leb (length name) 24 h, left_whole 24 (take 23 name ++ 43 ∷ []) (omega (arith, size)), size) (append-nil (take 23 name ++ 43 ∷ []))

-- ---- what is put

-- a heading: the digits of the one number, spaces, and the field of the other
pub heading_put : (functions number : ℕ) {at digits gap feed end : ℕ} {old first second third last : List ℕ} → digits ≤ at + 20
    → Put old at (decimal functions) digits first → Put first digits (replicate (61 + at - digits) space) gap second
    → Put second gap (next_field (right 10 (decimal number))) feed third → Put third feed (line_feed ∷ []) end last → Put old at (heading functions number) end last
unfolding heading
heading_put functions number {at} {digits} few p q r s =
    let left_over : 61 + at - digits ≡ 61 - length (decimal functions) = omega (arith, p.end) in
    rw (left_whole 61 (decimal functions) (omega (arith, few, p.end)), ← left_over) (p then q then r then s)

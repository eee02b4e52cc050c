-- Laws of whole formats' words (specs/Words.antt): reading them, what a join writes, and that formats are the same exactly where their words are.
use Prim.Native.Nat.{ℕ, zero, suc, ◌+◌, ◌-◌, ◌%◌, ◌≤◌, ◌<◌, min}
use mathlib.Core.Bool.{Bool, true, false, cond}
use mathlib.Core.List.{List, [], ◌∷◌}
use mathlib.Core.Logic.{◌↔◌}
use mathlib.Core.Path.{◌≡◌, refl, sym, ap, ◌∙◌}
use native.Mathlib.Omega.{arith}
use native.Mathlib.Decide.{dec_lt}
use native.Mathlib.Nat.{zero-add}
use lib.ListN.{length, take, drop, get_or, set, replicate, length-replicate}
use lib.Seq.{take_all}
use lib.Dec.{leb}
use Rattle.shapes.specs.Format.{Shapes, Format, never, of, size, is_open}
use Rattle.shapes.specs.Join.{join_rows, join_formats}
use Rattle.shapes.specs.Same.{same_format}
use Rattle.shapes.specs.Words.{shape_words, filled, used_words, format_words, Encodable, shapes_in, read_format}
use Rattle.shapes.specs.Code.Words.{FormatIn}
use Rattle.buffers.specs.Written.{written}
use Rattle.shapes.specs.Code.Rows.{ShapesWritten}
use Rattle.shapes.proofs.JoinLaws.{join_size_left}
use Rattle.shapes.proofs.SameLaws.{same_equal, same_itself}
use Rattle.shapes.proofs.WordLaws.{words_length, format_words_length, read_write}
use Rattle.buffers.proofs.WrittenLaws.{written_front}

-- ---- reading

-- a format's words are read as that format
pub format_in_read : (limit : ℕ) (words : List ℕ) → limit ≤ 127 → (x : FormatIn limit words) → read_format words ≡ x.format
format_in_read limit words l x = rw x.same (read_write limit x.format x.encodable l)

-- and are one more than the limit
pub format_in_length : (limit : ℕ) (words : List ℕ) → FormatIn limit words → length words ≡ limit + 1
format_in_length limit words x = rw x.same (format_words_length limit x.format x.encodable)

-- words are those of the format that they say
pub format_in_words : (limit : ℕ) (words : List ℕ) → limit ≤ 127 → FormatIn limit words → words ≡ format_words limit (read_format words)
format_in_words limit words l x = rw (format_in_read limit words l x) x.same

-- a header that says never
pub read_never : (s : List ℕ) (w : ℕ) (words : List ℕ) → s ≡ w ∷ words → leb 512 w ≡ true → read_format s ≡ never
unfolding read_format
read_never s w words e h = rw (e, h)

-- a header that does not, with as many words after it as it says and as there are
pub row_words : (s : List ℕ) (w : ℕ) (words : List ℕ) (n : ℕ) → s ≡ w ∷ words → n ≡ min (w % 256) (length words) → take n words ≡ take (get_or s 0 0 % 256) (drop 1 s)
row_words s w words n e r = rw (e, r) (take_within (w % 256) words)
  where
    take_within : (k : ℕ) (words : List ℕ) → take (min k (length words)) words ≡ take k words
    take_within k words = go (dec_lt k (length words))
      where
        go : Dec (k < length words) → take (min k (length words)) words ≡ take k words
        go (yes l) =
            let e : min k (length words) ≡ k = omega arith in
            rw e
        go (no l) = take_all (min k (length words)) words (omega arith) ∙ sym (take_all k words (omega arith))

pub read_row : (s : List ℕ) (w : ℕ) (words : List ℕ) (n : ℕ) → s ≡ w ∷ words → leb 512 w ≡ false → n ≡ min (w % 256) (length words)
    → read_format s ≡ of (shapes_in (leb 256 w) (take n words))
unfolding read_format
read_row s w words n e h r = rw (row_words s w words n e r, e, h)

-- no words are the empty row
pub read_none : (s : List ℕ) → length s ≡ 0 → read_format s ≡ of (shapes_in false s)
unfolding read_format
read_none [] e = refl
read_none (w ∷ s) e = absurd (omega arith)

pub none_words : (s : List ℕ) → length s ≡ 0 → s ≡ take (get_or s 0 0 % 256) (drop 1 s)
none_words [] e = refl
none_words (w ∷ s) e = absurd (omega arith)

pub none_closed : (s : List ℕ) → length s ≡ 0 → false ≡ leb 256 (get_or s 0 0)
none_closed [] e = refl
none_closed (w ∷ s) e = absurd (omega arith)

-- ---- join

-- the store has words for a join of formats that it has words for
pub join_encodable : (limit : ℕ) (f g : Format) → Encodable limit f → Encodable limit g → Encodable limit (join_formats f g)
join_encodable limit never g h k = k
join_encodable limit (of f) never h k = h
join_encodable limit (of f) (of g) h k = omega (arith, join_size_left f g)

-- the words of a join are a format's
pub join_format_in : (limit : ℕ) (a b words : List ℕ) → limit ≤ 127 → FormatIn limit a → FormatIn limit b → words ≡ format_words limit (join_formats (read_format a) (read_format b))
    → FormatIn limit words
join_format_in limit a b words l x y e = record {
  format = join_formats x.format y.format;
  encodable = join_encodable limit x.format y.format x.encodable y.encodable;
  same = rw (← format_in_read limit a l x, ← format_in_read limit b l y) e;
}

-- never with a format
pub join_never_left : (limit : ℕ) (a b words : List ℕ) → limit ≤ 127 → FormatIn limit b → read_format a ≡ never → words ≡ b
    → words ≡ format_words limit (join_formats (read_format a) (read_format b))
join_never_left limit a b words l y e w = w ∙ rw e (format_in_words limit b l y)

pub join_never_right : (limit : ℕ) (a b words : List ℕ) → limit ≤ 127 → FormatIn limit a → read_format b ≡ never → words ≡ a
    → words ≡ format_words limit (join_formats (read_format a) (read_format b))
join_never_right limit a b words l x e w = w ∙ rw (e, join_with_never (read_format a)) (format_in_words limit a l x)
  where
    join_with_never : (f : Format) → join_formats f never ≡ f
    join_with_never never = refl
    join_with_never (of f) = refl

-- the rest of zeros
drop_replicate : (k n : ℕ) → drop {A = ℕ} k (replicate n 0) ≡ replicate (n - k) 0
drop_replicate zero n =
    let e : n - 0 ≡ n = omega arith in
    rw e
drop_replicate (suc k) zero =
    let e : 0 - suc k ≡ 0 = omega arith in
    rw e
drop_replicate (suc k) (suc n) =
    let e : suc n - suc k ≡ n - k = omega arith in
    rw e (drop_replicate k n)

-- words written from the front over zeros
pub written_filled : (n : ℕ) (words : List ℕ) → written (replicate n 0) 0 words ≡ filled n words
unfolding written
written_filled n words = rw (zero-add, drop_replicate (length words) n)

-- a header was written in front of the shapes of a join
pub join_rows_are : (limit : ℕ) (a b old new : List ℕ) (f g : Shapes) (next header : ℕ) (o : Bool) → read_format a ≡ of f → read_format b ≡ of g
    → old ≡ replicate (limit + 1) 0 → next ≤ limit + 1 → ShapesWritten (join_rows f g) old 1 next o new → header ≡ next - 1 + cond o 256 0
    → set new 0 header ≡ format_words limit (join_formats (read_format a) (read_format b))
join_rows_are limit a b old new f g next header o p q z l j e =
    let inner : Shapes = join_rows f g in
    let shapes : next - 1 ≡ size inner = omega (arith, j.after) in
    let room : length {A = ℕ} (replicate (limit + 1) 0) ≡ limit + 1 = length-replicate (limit + 1) 0 in
    rw (p, q, e, shapes, j.ends, j.words, z)
    (written_front (replicate (limit + 1) 0) 0 (size inner + cond (is_open inner) 256 0) (shape_words inner) (omega (arith, j.after, words_length inner))
    ∙ written_filled (limit + 1) (used_words (of inner)))

-- ---- the same words

-- formats are the same exactly where their words are
pub words_same : (limit : ℕ) (a b : List ℕ) → limit ≤ 127 → (x : FormatIn limit a) (y : FormatIn limit b) → (a ≡ b) ↔ (same_format x.format y.format ≡ true)
words_same limit a b l x y = (to, back)
  where
    to : a ≡ b → same_format x.format y.format ≡ true
    to e =
        let f : x.format ≡ y.format = sym (format_in_read limit a l x) ∙ (ap read_format e ∙ format_in_read limit b l y) in
        rw f (same_itself y.format)

    back : same_format x.format y.format ≡ true → a ≡ b
    back e = x.same ∙ (ap (format_words limit) (same_equal x.format y.format e) ∙ sym y.same)

-- an answer that is yes exactly of equal words is the test of their formats
pub same_words_format : (limit : ℕ) (a b : List ℕ) (r : Bool) → limit ≤ 127 → FormatIn limit a → FormatIn limit b → (r ≡ true → a ≡ b) → (a ≡ b → r ≡ true)
    → r ≡ same_format (read_format a) (read_format b)
same_words_format limit a b r l x y p q =
    rw (format_in_read limit a l x, format_in_read limit b l y)
    (go r (same_format x.format y.format) (λ e. (words_same limit a b l x y).0 (p e)) (λ e. q ((words_same limit a b l x y).1 e)))
  where
    go : (s t : Bool) → (s ≡ true → t ≡ true) → (t ≡ true → s ≡ true) → s ≡ t
    go true t p q = sym (p refl)
    go false true p q = q refl
    go false false p q = refl

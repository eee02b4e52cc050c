-- Laws of what the functions that infer formats promise (specs/Code/Turns.antt): a format that was made of a row, and the join of two formats.
use Prim.Native.Nat.{ℕ, ◌+◌, ◌-◌, ◌%◌, ◌≤◌, ◌<◌, min}
use mathlib.Core.Bool.{Bool, true, false, cond, not}
use mathlib.Core.List.{List}
use mathlib.Core.Path.{◌≡◌, refl, sym, ap, ◌∙◌}
use native.Mathlib.Omega.{arith}
use native.Mathlib.Decide.{dec_lt}
use lib.ListN.{length, take, drop, get_or, set, replicate, length-drop, length-set, length-replicate}
use lib.Seq.{take_all, get_or-take, length-take-le}
use lib.Dec.{leb}
use Rattle.std.specs.Prelude.{Ok, Err}
use Rattle.std.specs.Cmp.Lexicographic.{pointwise, same_text, other_text}
use Rattle.std.proofs.Common.{nat_eq}
use Rattle.file.specs.Sections.{File, file_of}
use Rattle.law.specs.Code.Index.{PartAt}
use Rattle.law.proofs.Parts.{drop_take}
use Rattle.law.proofs.IndexLaws.{terms_limit}
use Rattle.shapes.specs.Format.{Shapes, never, of, size, is_open}
use Rattle.shapes.specs.Join.{join_formats}
use Rattle.shapes.specs.Same.{same_format}
use Rattle.shapes.specs.Words.{shape_words, used_words, format_words, Encodable, read_format}
use Rattle.shapes.specs.Code.Words.{row_end, FormatIn}
use Rattle.shapes.proofs.WordLaws.{words_length, read_write}
use Rattle.buffers.proofs.WrittenLaws.{written_front}
use Rattle.shapes.proofs.JoinLaws.{within_join}
use Rattle.shapes.proofs.SameLaws.{same_itself}
use Rattle.shapes.proofs.FormatLaws.{written_filled, format_in_length, format_in_read, format_in_words, join_encodable, join_format_in, same_words_format}
use Rattle.formats.specs.declared.slots.Slots.{Slots}
use Rattle.formats.specs.Code.Rows.{Row, over, ends, RowIs, RowAsked, Stored}
use Rattle.formats.specs.Code.Turns.{RoundAsked, too_wide, FormatMade}
use Rattle.formats.proofs.RowLaws.{over_passes, ends_fits, ends_at, ends_open}

-- ---- the format of a row

-- what is asked to write a row after the place of a header
pub row_asked : {bytes index : List ℕ} {slots : Slots} {part store out : List ℕ} {limit count known at : ℕ} → RoundAsked bytes index slots limit count → PartAt (file_of bytes) at part
    → Stored store limit known → length out ≡ limit + 1 → RowAsked (file_of bytes) at part store limit known out 1 (length out)
row_asked {bytes = bytes} {index = index} asked here stored long = record {
  readable = asked.readable;
  terms = terms_limit bytes index asked.indexed;
  here = here;
  stored = stored;
  begins = omega arith;
  room = omega arith;
  small = omega (arith, asked.small);
}

-- and is asked of a buffer that was cleared
pub row_cleared : {file : File} {part store before out : List ℕ} {limit known at : ℕ} → RowAsked file at part store limit known before 1 (length before)
    → length out ≡ length before → RowAsked file at part store limit known out 1 (length out)
row_cleared asked long = record {
  readable = asked.readable;
  terms = asked.terms;
  here = asked.here;
  stored = asked.stored;
  begins = omega (arith, asked.begins);
  room = omega arith;
  small = omega (arith, asked.small);
}

module _ (limit : ℕ) (f : Shapes) (old new : List ℕ) where
  -- a row that was over, and was cleared
  pub made_over : {most : ℕ} {row : Row} {cleared : List ℕ} → most ≡ limit + 1 → row ≡ over → RowIs f old new 1 most row → length new ≡ limit + 1
      → cleared ≡ replicate (length new) 0 → FormatMade limit f (Err too_wide) cleared
  made_over {most = most} {cleared = cleared} e o r long zeros =
      let all : cleared ≡ replicate (limit + 1) 0 = zeros ∙ ap (λ n. replicate n 0) long in
      record {
        fits = λ h. absurd (omega (arith, over_passes f old new 1 most (rw o at r)));
        over = λ h. (refl, all);
        kept = rw all (length-replicate (limit + 1) 0);
      }

  -- a row that was written over zeros, and a header in front of it
  pub made_written : (next : ℕ) (o : Bool) {most header : ℕ} {row : Row} → old ≡ replicate (limit + 1) 0 → most ≡ limit + 1 → row ≡ ends next o
      → header ≡ next - 1 + cond o 256 0 → RowIs f old new 1 most row → FormatMade limit f (Ok tt) (set new 0 header)
  made_written next o {most = most} {header = header} zeros e ends_row h r = record {
    fits = λ _. (refl, words);
    over = λ l. absurd (omega (arith, fit));
    kept = length-set new 0 header ∙ (r.kept ∙ long);
  }
    where
      is : RowIs f old new 1 most (ends next o)
      is = rw ends_row at r

      fit : 1 + size f ≤ most
      fit = ends_fits f old new 1 most next o is

      long : length old ≡ limit + 1
      long = rw zeros (length-replicate (limit + 1) 0)

      words : set new 0 header ≡ format_words limit (of f)
      words =
          let number : next - 1 ≡ size f = omega (arith, ends_at f old new 1 most next o is) in
          rw (h, number, ends_open f old new 1 most next o is, (is.fits fit).1, zeros)
          (written_front (replicate (limit + 1) 0) 0 (size f + cond (is_open f) 256 0) (shape_words f) (omega (arith, fit, words_length f, length-replicate {A = ℕ} (limit + 1) 0))
          ∙ written_filled (limit + 1) (used_words (of f)))

-- ---- a format joined with another

-- as many words of a buffer are lent as a format has
pub lent_length : (limit : ℕ) → limit ≤ 64 → length (take (limit + 1) (replicate {A = ℕ} 65 0)) ≡ limit + 1
lent_length limit l = length-take-le (limit + 1) (replicate 65 0) (omega (arith, length-replicate {A = ℕ} 65 0))

-- the format that words say is no larger than they have room for
read_encodable : (limit : ℕ) (words : List ℕ) → limit ≤ 64 → FormatIn limit words → Encodable limit (read_format words)
read_encodable limit words l x = rw (format_in_read limit words (omega arith) x) x.encodable

-- the words of a join are as many as a format has
pub joined_long : (limit : ℕ) (format other joined : List ℕ) → limit ≤ 64 → FormatIn limit format → FormatIn limit other
    → joined ≡ format_words limit (join_formats (read_format format) (read_format other)) → length joined ≡ limit + 1
joined_long limit format other joined l x y is = format_in_length limit joined (join_format_in limit format other joined (omega arith) x y is)

-- what a test of words tells
words_equal : (a b : List ℕ) → a ≡ b → pointwise nat_eq a b ≡ true
words_equal a b e = go (pointwise nat_eq a b) refl
  where
    go : (t : Bool) → pointwise nat_eq a b ≡ t → t ≡ true
    go true q = refl
    go false q = absurd (other_text a b (sym q) e)

-- a test whether the join's words are other than the format's
pub renewed_test : (limit : ℕ) (format other joined : List ℕ) → limit ≤ 64 → FormatIn limit format → FormatIn limit other
    → joined ≡ format_words limit (join_formats (read_format format) (read_format other))
    → not (pointwise nat_eq joined format) ≡ not (same_format (join_formats (read_format format) (read_format other)) (read_format format))
renewed_test limit format other joined l x y is =
    let same : Bool = pointwise nat_eq joined format in
    let p : same ≡ true → joined ≡ format = λ e. same_text joined format (sym e) in
    let q : joined ≡ format → same ≡ true = words_equal joined format in
    let few : limit ≤ 127 = omega arith in
    let read : read_format joined ≡ join_formats (read_format format) (read_format other) = rw is
    (read_write limit (join_formats (read_format format) (read_format other))
    (join_encodable limit (read_format format) (read_format other) (read_encodable limit format l x) (read_encodable limit other l y)) few) in
    let test : same ≡ same_format (read_format joined) (read_format format) = same_words_format limit joined format same few
    (join_format_in limit format other joined few x y is) x p q in
    ap not (rw read at test)

-- ---- a format that is already there

-- words up to where the one's shapes end
row_within : (k : ℕ) (s : List ℕ) → 1 ≤ length s → take (min (1 + k) (length s) - 1) (drop 1 s) ≡ take k (drop 1 s)
row_within k s h = go (dec_lt k (length s))
  where
    go : Dec (k < length s) → take (min (1 + k) (length s) - 1) (drop 1 s) ≡ take k (drop 1 s)
    go (yes l) =
        let e : min (1 + k) (length s) - 1 ≡ k = omega arith in
        rw e
    go (no l) = take_all (min (1 + k) (length s) - 1) (drop 1 s) (omega (arith, length-drop 1 s)) ∙ sym (take_all k (drop 1 s) (omega (arith, length-drop 1 s)))

-- words that agree up to where the one's shapes end say the same format
front_read : (s t : List ℕ) (n : ℕ) → 1 ≤ length s → length t ≡ length s → n ≡ row_end s → take n t ≡ take n s → read_format t ≡ read_format s
unfolding row_end read_format
front_read s t n some long end same =
    let first : get_or t 0 0 ≡ get_or s 0 0 = sym (get_or-take n t 0 0 (omega arith)) ∙ ap (λ l. get_or l 0 0) same ∙ get_or-take n s 0 0 (omega arith) in
    let shapes : take (n - 1) (drop 1 t) ≡ take (n - 1) (drop 1 s) = sym (drop_take 1 n t) ∙ ap (drop 1) same ∙ drop_take 1 n s in
    let ones : take (get_or s 0 0 % 256) (drop 1 s) ≡ take (n - 1) (drop 1 s) = rw end (sym (row_within (get_or s 0 0 % 256) s some)) in
    let others : take (get_or s 0 0 % 256) (drop 1 t) ≡ take (n - 1) (drop 1 t) =
    rw (end, ← long) (sym (row_within (get_or s 0 0 % 256) t (omega arith))) in
    rw (first, ones, others, shapes)

module _ (limit : ℕ) (format other : List ℕ) (l : limit ≤ 64) (x : FormatIn limit format) (y : FormatIn limit other) (n : ℕ) (end : n ≡ row_end other)
    (told : true ≡ pointwise nat_eq (take n format) (take n other)) where
  same : take n format ≡ take n other
  same = same_text (take n format) (take n other) told

  kept_join : join_formats (read_format format) (read_format other) ≡ read_format format
  kept_join =
      let long : length other ≡ limit + 1 = format_in_length limit other y in
      let read : read_format format ≡ read_format other = front_read other format n (omega arith) (format_in_length limit format x ∙ sym long) end same in
      rw (← read) (within_join (read_format format) (read_format format) (λ e h. h))

  -- nothing is to be written
  pub kept_words : format ≡ format_words limit (join_formats (read_format format) (read_format other))
  kept_words = rw kept_join (format_in_words limit format (omega arith) x)

  pub kept_test : false ≡ not (same_format (join_formats (read_format format) (read_format other)) (read_format format))
  kept_test = rw (kept_join, same_itself (read_format format)) refl

-- ---- a format that is still never

never_told : (s : List ℕ) → leb 512 (get_or s 0 0) ≡ same_format (read_format s) never
unfolding read_format
never_told s = go (leb 512 (get_or s 0 0)) refl
  where
    go : (b : Bool) → leb 512 (get_or s 0 0) ≡ b → leb 512 (get_or s 0 0) ≡ same_format (read_format s) never
    go true e = rw e
    go false e = rw e

module _ (limit : ℕ) (format other : List ℕ) (l : limit ≤ 64) (y : FormatIn limit other) (header : leb 512 (get_or format 0 0) ≡ true) where
  started : read_format format ≡ never
  unfolding read_format
  started = rw header

  -- the other one is copied
  pub started_words : other ≡ format_words limit (join_formats (read_format format) (read_format other))
  started_words = rw started (format_in_words limit other (omega arith) y)

  pub started_test : {test : Bool} → test ≡ leb 512 (get_or other 0 0) → not test ≡ not (same_format (join_formats (read_format format) (read_format other)) (read_format format))
  started_test e = rw started (ap not (e ∙ never_told other))

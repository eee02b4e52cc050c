-- Laws of the store's words (specs/Words.antt): the shapes that words say, first shape by first shape, and reading back what was written.
use Prim.Native.Nat.{ℕ, zero, suc, ◌+◌, ◌*◌, ◌-◌, ◌%◌, ◌≤◌, ◌<◌}
use mathlib.Core.Bool.{Bool, true, false, cond}
use mathlib.Core.List.{List, [], ◌∷◌, ◌++◌}
use mathlib.Core.Path.{◌≡◌, refl, sym, ap, ◌∙◌}
use native.Mathlib.Omega.{arith}
use native.Mathlib.Decide.{dec_lt}
use lib.ListN.{length, take, drop, get_or, replicate, length-append, length-take, length-drop, length-replicate}
use lib.Seq.{take_all, take_at, drop_at}
use lib.Dec.{leb}
use borrow.Author.Tests.{le-leb, lt-leb, eq-eqb}
use Rattle.file.specs.Forest.{contents, rest}
use Rattle.file.proofs.Forest.{contents_falls, rest_falls, forest_end, forest_node}
use Rattle.shapes.specs.Leaf.{leaf_word, leaf_at}
use Rattle.shapes.specs.Format.{Shapes, end, item, group, Format, never, of, size, is_open}
use Rattle.shapes.specs.Words.{bracket_word, shape_words, used_words, filled, format_words, Encodable, is_bracket, inside_open, inside_of, shapes_end, shapes_of, shapes_in, read_format}
use Rattle.shapes.proofs.LeafLaws.{leaf_at_word, leaf_word_plain}

-- ---- the shapes that words say

-- the contents of the first shape end after it, and at the last word at most
pub shapes_end_low : (s : List ℕ) → 1 ≤ length s → 1 ≤ shapes_end s
unfolding shapes_end
shapes_end_low s h = omega arith

pub shapes_end_high : (s : List ℕ) → shapes_end s ≤ length s
unfolding shapes_end
shapes_end_high s = omega arith

-- both parts are shorter than the whole, for an end that the code computed
pub shapes_contents_falls : (s : List ℕ) (e : ℕ) → 1 ≤ length s → e ≡ shapes_end s → length (take (e - 1) (drop 1 s)) < length s
shapes_contents_falls s e h p = rw p (contents_falls 1 shapes_end (omega arith) shapes_end_low shapes_end_high s h)

pub shapes_rest_falls : (s : List ℕ) (e : ℕ) → 1 ≤ length s → e ≡ shapes_end s → length (take (length s - e) (drop e s)) < length s
shapes_rest_falls s e h p = rw p (rest_falls 1 shapes_end (omega arith) shapes_end_low shapes_end_high s h)

-- no words say no shapes
pub shapes_none : (o : Bool) (s : List ℕ) → length s < 1 → shapes_in o s ≡ end o
unfolding shapes_in shapes_of
shapes_none o s h = rw (forest_end 1 shapes_end (omega arith) shapes_end_low shapes_end_high s h)

-- a first word that is no bracket's says one shape
pub shapes_leaf : (o : Bool) (s : List ℕ) (e : ℕ) → 1 ≤ length s → is_bracket (get_or s 0 0) ≡ false → e ≡ shapes_end s
    → shapes_in o s ≡ item (leaf_at (get_or s 0 0)) (shapes_in o (take (length s - e) (drop e s)))
unfolding shapes_in shapes_of
shapes_leaf o s e h b p = rw (forest_node 1 shapes_end (omega arith) shapes_end_low shapes_end_high s h, b, p)

-- a first word that is a bracket's says one, with the shapes inside it
pub shapes_bracket : (o : Bool) (s : List ℕ) (e : ℕ) → 1 ≤ length s → is_bracket (get_or s 0 0) ≡ true → e ≡ shapes_end s
    → shapes_in o s ≡ group (shapes_in (inside_open (get_or s 0 0)) (take (e - 1) (drop 1 s))) (shapes_in o (take (length s - e) (drop e s)))
unfolding shapes_in shapes_of
shapes_bracket o s e h b p = rw (forest_node 1 shapes_end (omega arith) shapes_end_low shapes_end_high s h, b, p)

-- where a first word that is no bracket's ends
leaf_end : (s : List ℕ) → 1 ≤ length s → is_bracket (get_or s 0 0) ≡ false → shapes_end s ≡ 1
unfolding shapes_end
leaf_end s h b = rw b (omega arith)

-- where the shapes inside a first word end
bracket_end : (s : List ℕ) (n : ℕ) → inside_of (get_or s 0 0) ≡ n → 1 + n ≤ length s → suc n ≡ shapes_end s
unfolding shapes_end
bracket_end s n e h = rw e (omega arith)

-- as many shapes as words, in a row that ends as was said
abbrev Said : Bool → List ℕ → Type 0
Said o s = (size (shapes_in o s) ≡ length s) × (is_open (shapes_in o s) ≡ o)

said : (n : ℕ) (o : Bool) (s : List ℕ) → length s ≤ n → Said o s
unfolding size is_open
said zero o s h = rw (shapes_none o s (omega arith)) (omega arith, refl)
said (suc n) o s h =
    go (dec_lt (length s) 1) (is_bracket (get_or s 0 0)) refl
    (λ p. said n (inside_open (get_or s 0 0)) (contents 1 shapes_end s) (omega (arith, shapes_contents_falls s (shapes_end s) p refl)))
    (λ p. said n o (rest 1 shapes_end s) (omega (arith, shapes_rest_falls s (shapes_end s) p refl)))
  where
    go : Dec (length s < 1) → (b : Bool) → is_bracket (get_or s 0 0) ≡ b
        → (1 ≤ length s → Said (inside_open (get_or s 0 0)) (contents 1 shapes_end s)) → (1 ≤ length s → Said o (rest 1 shapes_end s)) → Said o s
    go (yes p) b q k l = rw (shapes_none o s p) (omega arith, refl)
    go (no p) true q k l =
        let h : 1 ≤ length s = omega arith in
        rw (shapes_bracket o s (shapes_end s) h q refl) (
          omega (
            arith,
            (k h).0,
            (l h).0,
            shapes_end_low s h,
            shapes_end_high s,
            length-take (shapes_end s - 1) (drop 1 s),
            length-drop 1 s,
            length-take (length s - shapes_end s) (drop (shapes_end s) s),
            length-drop (shapes_end s) s,
          ),
          (l h).1,
        )
    go (no p) false q k l =
        let h : 1 ≤ length s = omega arith in
        rw (shapes_leaf o s (shapes_end s) h q refl) (
          omega (
            arith,
            (l h).0,
            leaf_end s h q,
            length-take (length s - shapes_end s) (drop (shapes_end s) s),
            length-drop (shapes_end s) s,
          ),
          (l h).1,
        )

-- as many shapes as words
pub shapes_size : (o : Bool) (s : List ℕ) → size (shapes_in o s) ≡ length s
shapes_size o s = (said (length s) o s (omega arith)).0

-- the row ends as was said
pub shapes_open : (o : Bool) (s : List ℕ) → is_open (shapes_in o s) ≡ o
shapes_open o s = (said (length s) o s (omega arith)).1

-- ---- reading back what was written

-- a word for each shape
pub words_length : (f : Shapes) → length (shape_words f) ≡ size f
unfolding shape_words size
words_length (end o) = refl
words_length (item b f) = ap suc (words_length f)
words_length (group g f) = omega (arith, length-append (shape_words g) (shape_words f), words_length g, words_length f)

-- a bracket's word says what it was made of
pub bracket_word_is : (n : ℕ) (o : Bool) → is_bracket (bracket_word n o) ≡ true
bracket_word_is n true = eq-eqb ((5 + 8 * n + 1024) % 8) 5 (omega arith)
bracket_word_is n false = eq-eqb ((5 + 8 * n + 0) % 8) 5 (omega arith)

pub bracket_word_inside : (n : ℕ) (o : Bool) → n ≤ 127 → inside_of (bracket_word n o) ≡ n
bracket_word_inside n true h = rw (bracket_word_is n true) (omega arith)
bracket_word_inside n false h = rw (bracket_word_is n false) (omega arith)

pub bracket_word_open : (n : ℕ) (o : Bool) → n ≤ 127 → inside_open (bracket_word n o) ≡ o
bracket_word_open n true h = le-leb 1024 (bracket_word n true) (omega arith)
bracket_word_open n false h = lt-leb 1024 (bracket_word n false) (omega arith)

-- the shapes are read back from their words
pub read_shapes : (f : Shapes) → size f ≤ 127 → shapes_in (is_open f) (shape_words f) ≡ f
unfolding shape_words size is_open
read_shapes (end o) h = shapes_none o [] (omega arith)
read_shapes (item b f) h =
    let s : List ℕ = leaf_word b ∷ shape_words f in
    let e : 1 ≡ shapes_end s = sym (leaf_end s (omega arith) (leaf_word_plain b)) in
    shapes_leaf (is_open f) s 1 (omega arith) (leaf_word_plain b) e
    ∙ rw (leaf_at_word b, take_all (length s - 1) (shape_words f) (omega arith), read_shapes f (omega arith))
read_shapes (group g f) h =
    let s : List ℕ = bracket_word (size g) (is_open g) ∷ shape_words g ++ shape_words f in
    let is : is_bracket (get_or s 0 0) ≡ true = bracket_word_is (size g) (is_open g) in
    let e : suc (size g) ≡ shapes_end s = bracket_end s (size g) (bracket_word_inside (size g) (is_open g) (omega arith))
    (omega (arith, length-append (shape_words g) (shape_words f), words_length g)) in
    shapes_bracket (is_open f) s (suc (size g)) (omega arith) is e
    ∙ rw (
      bracket_word_open (size g) (is_open g) (omega arith),
      take_at (shape_words g) (shape_words f) (suc (size g) - 1) (omega (arith, words_length g)),
      drop_at (shape_words g) (shape_words f) (size g) (words_length g),
      take_all (length s - suc (size g)) (shape_words f) (omega (arith, length-append (shape_words g) (shape_words f), words_length g)),
      read_shapes g (omega arith),
      read_shapes f (omega arith),
    )

-- a format's words are one more than the limit
pub filled_length : (n : ℕ) (s : List ℕ) → length s ≤ n → length (filled n s) ≡ n
filled_length n s h = simp (length-append, length-replicate) (omega arith)

pub format_words_length : (limit : ℕ) (f : Format) → Encodable limit f → length (format_words limit f) ≡ limit + 1
format_words_length limit never h = filled_length (limit + 1) (used_words never) (omega arith)
format_words_length limit (of f) h = filled_length (limit + 1) (used_words (of f)) (omega (arith, words_length f))

-- what the header says of so many shapes in a row that is closed or open
header_never : (n : ℕ) (o : Bool) → n ≤ 127 → leb 512 (n + cond o 256 0) ≡ false
header_never n true h = lt-leb 512 (n + 256) (omega arith)
header_never n false h = lt-leb 512 (n + 0) (omega arith)

header_open : (n : ℕ) (o : Bool) → n ≤ 127 → leb 256 (n + cond o 256 0) ≡ o
header_open n true h = le-leb 256 (n + 256) (omega arith)
header_open n false h = lt-leb 256 (n + 0) (omega arith)

header_size : (n : ℕ) (o : Bool) → n ≤ 127 → (n + cond o 256 0) % 256 ≡ n
header_size n true h = omega arith
header_size n false h = omega arith

-- a format is read back from its words
pub read_write : (limit : ℕ) (f : Format) → Encodable limit f → limit ≤ 127 → read_format (format_words limit f) ≡ f
unfolding read_format
read_write limit never h l = refl
read_write limit (of f) h l =
    let few : size f ≤ 127 = omega arith in
    rw (
      header_never (size f) (is_open f) few,
      header_open (size f) (is_open f) few,
      header_size (size f) (is_open f) few,
      take_at (shape_words f) (replicate (limit + 1 - suc (length (shape_words f))) 0) (size f) (words_length f),
      read_shapes f few,
    )

-- Laws of the rows that are written (specs/Code/Rows.antt): ends, leaves, brackets, one row after another, what the store has for a call, and the first record
-- of a part of the term records before the rest.
use Prim.Native.Nat.{ℕ, zero, suc, ◌+◌, ◌*◌, ◌-◌, ◌%◌, ◌≤◌, ◌<◌}
use mathlib.Core.Bool.{Bool, true, false, cond}
use mathlib.Core.List.{List, ◌++◌, append-nil, append_assoc}
use mathlib.Core.Logic.{◌⊎◌, inl, inr}
use mathlib.Core.Option.{Option, none, some}
use mathlib.Core.Path.{◌≡◌, refl, sym, ap, ◌∙◌}
use native.Mathlib.Omega.{arith}
use native.Mathlib.Nat.{add-zero, add_assoc}
use native.Mathlib.Decide.{dec_le, dec_lt}
use lib.ListN.{length, take, drop, get_or, set, replicate, length-append, length-take, length-drop, length-set, get_or-append}
use lib.Seq.{length-take-le, take_all, take_at, get_or-take, get_or-drop, get_or-append-add, drop-drop}
use lib.Dec.{leb}
use borrow.Author.Tests.{le-leb, lt-leb, lt-ltb, le-ltb}
use Rattle.names.specs.Name.{folded}
use Rattle.file.specs.Word.{word_at}
use Rattle.file.specs.Sections.{File}
use Rattle.file.specs.Forest.{contents, rest}
use Rattle.file.specs.Head.{term_from, term_at}
use Rattle.file.specs.declared.Term.{Term}
use Rattle.law.specs.Tree.{Mark, Run, empty, symbol, variable, bracket, call, block, Sentences}
use Rattle.law.specs.Runs.{end_of}
use Rattle.law.specs.Reading.{term_run, own}
use Rattle.law.specs.Code.Index.{Readable, PartAt}
use Rattle.law.proofs.RunLaws.{run_empty, run_node}
use Rattle.law.proofs.PartLaws.{part_at, part_term, part_leaf, part_end_lem, contents_part, rest_part}
use Rattle.shapes.specs.Leaf as leaves
use Rattle.shapes.specs.Leaf.{leaf_of, leaf_word}
use Rattle.shapes.specs.Code.Words.{FormatIn}
use Rattle.shapes.specs.Format.{Shapes, end, item, group, Format, never, of, size, is_open}
use Rattle.shapes.specs.Words.{bracket_word, shape_words, format_words, Encodable, read_format}
use Rattle.buffers.specs.Written.{written}
use Rattle.shapes.proofs.WordLaws.{words_length, format_words_length, read_write}
use Rattle.buffers.proofs.WrittenLaws.{written_none, written_more, written_one, written_front, written_length}
use Rattle.formats.specs.FormatOf.{variable_shapes, pattern_shapes, chain, extend, Results, result_shapes}
use Rattle.formats.specs.Code.Slots.{call_folded, IsCall}
use Rattle.formats.specs.Code.Rows.{format_at, Knows, KeptOutside, Row, over, ends, RowIs, Between, Stored, stored_at, callee_shapes}
use Rattle.formats.specs.Code.Rows.{term_shapes, part_shapes, first_shapes, RowAsked, term_leaf, LeafTerm, left_of, Onward, LeavesAre}
use Rattle.std.specs.Prelude.{Some, None}
use Rattle.std.specs.Option.{option_map}
use Rattle.file.specs.declared.Term.TheVariants as terms
use Rattle.shapes.specs.declared.RowEnd.{RowEnd}
use Rattle.shapes.specs.declared.RowEnd.TheVariants.{Closed, Open}
use Rattle.shapes.specs.declared.leaf.Leaf.{Leaf}
use Rattle.shapes.specs.declared.row.Row as rows
use Rattle.shapes.specs.Code.Leaves.{leaf_meant}
use Rattle.shapes.specs.Code.Rows.{row_meant, row_next, row_opens, IsRowOf}
use Rattle.formats.specs.declared.slots.Slots.{Slots}

-- ---- a row, written or over

-- words that are written change no others
written_outside : (old : List ℕ) (at : ℕ) (new : List ℕ) (most : ℕ) → at + length new ≤ length old → at + length new ≤ most → KeptOutside at most old (written old at new)
unfolding written
written_outside old at new most h k = go
  where
    front : length (take at old ++ new) ≡ at + length new
    front = length-append (take at old) new ∙ ap (λ n. n + length new) (length-take-le at old (omega arith))

    go : KeptOutside at most old (written old at new)
    go j (inl l) =
        get_or-append (take at old ++ new) (drop (at + length new) old) 0 j (omega (arith, front))
        ∙ get_or-append (take at old) new 0 j (omega (arith, length-take-le at old (omega arith)))
        ∙ get_or-take at old j 0 l
    go j (inr l) =
        let there : j ≡ length (take at old ++ new) + (j - (at + length new)) = omega (arith, front, k) in
        let back : at + length new + (j - (at + length new)) ≡ j = omega (arith, k) in
        ap (λ n. get_or (written old at new) n 0) there
        ∙ get_or-append-add (take at old ++ new) (drop (at + length new) old) (j - (at + length new)) 0
        ∙ get_or-drop (at + length new) old (j - (at + length new)) 0
        ∙ ap (λ n. get_or old n 0) back

some_is : {a b : RowEnd} → Some a ≡ Some b → a ≡ b
some_is e = cc

-- where a row ends, and how
next_is : (n : ℕ) (o : Bool) → row_next (cond o (Open n) (Closed n)) ≡ n
next_is n true = refl
next_is n false = refl

opens_is : (n : ℕ) (o : Bool) → row_opens (cond o (Open n) (Closed n)) ≡ o
opens_is n true = refl
opens_is n false = refl

pub ends_is : (e : RowEnd) (n : ℕ) (o : Bool) → row_next e ≡ n → row_opens e ≡ o → Some e ≡ ends n o
ends_is (Closed m) n o p q = rw (p, ← q)
ends_is (Open m) n o p q = rw (p, ← q)

pub ends_itself : (e : RowEnd) → Some e ≡ ends (row_next e) (row_opens e)
ends_itself e = ends_is e _ _ refl refl

module _ (shapes : Shapes) (before after : List ℕ) (from most : ℕ) where
  -- shapes that pass the room
  pub row_over : most < from + size shapes → length after ≡ length before → KeptOutside from most before after → RowIs shapes before after from most over
  row_over h k others = record {
    fits = λ l. absurd (omega arith);
    over = λ l. refl;
    kept = k;
    outside = others;
  }

  -- shapes that are written
  pub row_written : (n : ℕ) (o : Bool) → n ≡ from + size shapes → n ≤ most → o ≡ is_open shapes → most ≤ length before
      → after ≡ written before from (shape_words shapes) → RowIs shapes before after from most (ends n o)
  row_written n o e h p k w = record {
    fits = λ l. (rw (e, p), w);
    over = λ l. absurd (omega arith);
    kept = rw w (written_length before from (shape_words shapes) (omega (arith, words_length shapes)));
    outside = rw w (written_outside before from (shape_words shapes) most (omega (arith, words_length shapes)) (omega (arith, words_length shapes)));
  }

  -- a row that is over passes the room
  pub over_passes : RowIs shapes before after from most over → most < from + size shapes
  over_passes r = go (dec_le (from + size shapes) most)
    where
      go : Dec (from + size shapes ≤ most) → most < from + size shapes
      go (yes p) = let q : over ≡ ends (from + size shapes) (is_open shapes) = (r.fits p).0 in let z : ◌≡◌ {A = ℕ} 0 1 = cc in absurd (omega arith)
      go (no p) = omega arith

  -- a row that ends was written
  pub ends_fits : (n : ℕ) (o : Bool) → RowIs shapes before after from most (ends n o) → from + size shapes ≤ most
  ends_fits n o r = go (dec_le (from + size shapes) most)
    where
      go : Dec (from + size shapes ≤ most) → from + size shapes ≤ most
      go (yes p) = p
      go (no p) = let q : ends n o ≡ over = r.over (omega arith) in let z : ◌≡◌ {A = ℕ} 0 1 = cc in absurd (omega arith)

  pub ends_at : (n : ℕ) (o : Bool) → RowIs shapes before after from most (ends n o) → n ≡ from + size shapes
  ends_at n o r = sym (next_is n o) ∙ ap row_next (some_is (r.fits (ends_fits n o r)).0) ∙ next_is _ _

  pub ends_open : (n : ℕ) (o : Bool) → RowIs shapes before after from most (ends n o) → o ≡ is_open shapes
  ends_open n o r = sym (opens_is n o) ∙ ap row_opens (some_is (r.fits (ends_fits n o r)).0) ∙ opens_is _ _

  pub ends_words : (n : ℕ) (o : Bool) → RowIs shapes before after from most (ends n o) → after ≡ written before from (shape_words shapes)
  ends_words n o r = (r.fits (ends_fits n o r)).1

-- what is outside is so too where less is inside
further : (j from later most : ℕ) → from ≤ later → (j < from) ⊎ (most ≤ j) → (j < later) ⊎ (most ≤ j)
further j from later most h (inl l) = inl (omega arith)
further j from later most h (inr l) = inr l

-- an end: nothing is written
pub row_end : (o : Bool) (before : List ℕ) (from most : ℕ) → from ≤ most → most ≤ length before → RowIs (end o) before before from most (ends from o)
unfolding size is_open shape_words
row_end o before from most h k = row_written (end o) before before from most from o (omega arith) h refl k (written_none before from)

-- a leaf, and no room for it
pub row_leaf : (b : leaves.Leaf) (word : ℕ) (before : List ℕ) (from most : ℕ) → word ≡ leaf_word b → from < most → most ≤ length before
    → RowIs (item b (end false)) before (set before from word) from most (ends (from + 1) false)
unfolding size is_open shape_words
row_leaf b word before from most h l k =
    row_written (item b (end false)) before (set before from word) from most (from + 1) false (omega arith) (omega arith) refl k
    (rw (← h) (written_one before from word (omega arith)))

pub leaf_over : (b : leaves.Leaf) (before : List ℕ) (from most : ℕ) → most ≤ from → RowIs (item b (end false)) before before from most over
unfolding size
leaf_over b before from most h = row_over (item b (end false)) before before from most (omega arith) refl (λ j o. refl)

-- a bracket: no room for its word, no room for what is inside, and its word in front of what is inside
pub group_none : (inside : Shapes) (before : List ℕ) (from most : ℕ) → most ≤ from → RowIs (group inside (end false)) before before from most over
unfolding size
group_none inside before from most h = row_over (group inside (end false)) before before from most (omega arith) refl (λ j o. refl)

pub group_over : (inside : Shapes) (before after : List ℕ) (from most : ℕ) → RowIs inside before after (from + 1) most over
    → RowIs (group inside (end false)) before after from most over
unfolding size
group_over inside before after from most r =
    row_over (group inside (end false)) before after from most (omega (arith, over_passes inside before after (from + 1) most r)) r.kept
    (λ j o. r.outside j (further j from (from + 1) most (omega arith) o))

pub group_written : (inside : Shapes) (before after : List ℕ) (from most n word : ℕ) (o : Bool) → RowIs inside before after (from + 1) most (ends n o)
    → most ≤ length before → word ≡ bracket_word (n - (from + 1)) o → RowIs (group inside (end false)) before (set after from word) from most (ends n false)
unfolding size is_open shape_words
group_written inside before after from most n word o r k e =
    let at : n ≡ from + 1 + size inside = ends_at inside before after (from + 1) most n o r in
    let fit : from + 1 + size inside ≤ most = ends_fits inside before after (from + 1) most n o r in
    let number : n - (from + 1) ≡ size inside = omega arith in
    row_written (group inside (end false)) before (set after from word) from most n false (omega arith) (omega arith) refl k
    (rw (
      ends_words inside before after (from + 1) most n o r,
      append-nil,
      ← number,
      ← ends_open inside before after (from + 1) most n o r,
      ← e,
    ) (written_front before from word (shape_words inside) (omega (arith, words_length inside))))

-- ---- one row after another

-- an open row takes nothing after it
pub chain_open : (f g : Shapes) → is_open f ≡ true → chain f g ≡ f
unfolding chain is_open
chain_open (end true) g h = refl
chain_open (end false) g h = let z : ◌≡◌ {A = ℕ} 0 1 = cc in absurd (omega arith)
chain_open (item b f) g h = ap (item b) (chain_open f g h)
chain_open (group c f) g h = ap (group c) (chain_open f g h)

-- a closed row goes on
pub chain_size : (f g : Shapes) → is_open f ≡ false → size (chain f g) ≡ size f + size g
unfolding chain is_open size
chain_size (end true) g h = let z : ◌≡◌ {A = ℕ} 0 1 = cc in absurd (omega arith)
chain_size (end false) g h = omega arith
chain_size (item b f) g h = omega (arith, chain_size f g h)
chain_size (group c f) g h = omega (arith, chain_size f g h)

pub chain_ends : (f g : Shapes) → is_open f ≡ false → is_open (chain f g) ≡ is_open g
unfolding chain is_open
chain_ends (end true) g h = let z : ◌≡◌ {A = ℕ} 0 1 = cc in absurd (omega arith)
chain_ends (end false) g h = refl
chain_ends (item b f) g h = chain_ends f g h
chain_ends (group c f) g h = chain_ends f g h

pub chain_words : (f g : Shapes) → is_open f ≡ false → shape_words (chain f g) ≡ shape_words f ++ shape_words g
unfolding chain is_open shape_words
chain_words (end true) g h = let z : ◌≡◌ {A = ℕ} 0 1 = cc in absurd (omega arith)
chain_words (end false) g h = refl
chain_words (item b f) g h = rw (chain_words f g h)
chain_words (group c f) g h = rw (chain_words f g h) (simp append_assoc)

-- no row gets shorter by one after it
pub chain_more : (f g : Shapes) → size f ≤ size (chain f g)
unfolding chain size
chain_more (end true) g = omega arith
chain_more (end false) g = omega arith
chain_more (item b f) g = omega (arith, chain_more f g)
chain_more (group c f) g = omega (arith, chain_more f g)

module _ (f g : Shapes) (before middle : List ℕ) (from most : ℕ) where
  -- where the first row is over, both are
  pub both_over : RowIs f before middle from most over → RowIs (chain f g) before middle from most over
  both_over r =
      row_over (chain f g) before middle from most (omega (arith, over_passes f before middle from most r, chain_more f g)) r.kept r.outside

  -- where the first row ends open, that is all
  pub both_open : (n : ℕ) (o : Bool) → o ≡ true → RowIs f before middle from most (ends n o) → RowIs (chain f g) before middle from most (ends n o)
  both_open n o e r = rw (chain_open f g (sym (ends_open f before middle from most n o r) ∙ e)) r

  -- where it ends closed, the other row follows
  pub both_rows : (n : ℕ) (o : Bool) (after : List ℕ) (row : Row) → o ≡ false → RowIs f before middle from most (ends n o) → most ≤ length before
      → RowIs g middle after n most row → RowIs (chain f g) before after from most row
  both_rows n o after row e r k s =
      let closed : is_open f ≡ false = sym (ends_open f before middle from most n o r) ∙ e in
      let at : n ≡ from + size f = ends_at f before middle from most n o r in
      let fit : from + size f ≤ most = ends_fits f before middle from most n o r in
      let whole : n + size g ≡ from + size (chain f g) = omega (arith, chain_size f g closed) in record {
        fits = λ l. (
          rw (← whole, chain_ends f g closed) (s.fits (omega arith)).0,
          (s.fits (omega arith)).1
              ∙ rw (ends_words f before middle from most n o r, chain_words f g closed)
              (written_more before from n (shape_words f) (shape_words g) (omega (arith, words_length f)) (omega (arith, words_length f))),
        );
        over = λ l. s.over (omega arith);
        kept = s.kept ∙ r.kept;
        outside = λ j p. s.outside j (further j from n most (omega arith) p) ∙ r.outside j p;
      }

-- ---- what the store has for a call

-- a callee's format before the rest is its shapes before the rest
pub extend_chain : (known : Option Format) (g : Shapes) → extend known g ≡ chain (callee_shapes known) g
unfolding chain
extend_chain none g = refl
extend_chain (some never) g = refl
extend_chain (some (of f)) g = refl

-- what a header says of so many shapes in a row that is closed or open
header_parts : (n : ℕ) (o : Bool) → n ≤ 64 → ((n + cond o 256 0) % 256 ≡ n) × (leb 256 (n + cond o 256 0) ≡ o)
header_parts n true h = (omega arith, le-leb 256 (n + 256) (omega arith))
header_parts n false h = (omega arith, lt-leb 256 (n + 0) (omega arith))

-- a callee that has shapes: their number, how their row ends, and their words
pub record Callee (shapes : Shapes) (words : List ℕ) (o : Bool) : Type 0 where
  pub number : size shapes ≡ length words
  pub opens : is_open shapes ≡ o
  pub same : shape_words shapes ≡ words

-- a format's row, by its words
shapes_words : (limit : ℕ) (f : Format) → Encodable limit f → limit ≤ 64 → (words : List ℕ) (o : Bool) (row : Shapes) → f ≡ of row
    → words ≡ take (get_or (format_words limit f) 0 0 % 256) (drop 1 (format_words limit f)) → o ≡ leb 256 (get_or (format_words limit f) 0 0)
    → Callee (callee_shapes (some f)) words o
shapes_words limit never h l words o row r w e = let z : ◌≡◌ {A = ℕ} 0 1 = cc in absurd (omega arith)
shapes_words limit (of f) h l words o row r w e =
    let (number, opens) = header_parts (size f) (is_open f) (omega arith) in
    let same : shape_words f ≡ words =
    rw (w, number) (sym (take_at (shape_words f) (replicate (limit + 1 - suc (length (shape_words f))) 0) (size f) (words_length f))) in
    record {
      number = omega (arith, words_length f, ap length same);
      opens = sym (e ∙ opens);
      same = same;
    }

module _ (store : List ℕ) (limit count place : ℕ) where
  -- a name that no function has: the row ends open
  pub callee_unknown : count ≤ place → callee_shapes (stored_at store limit count place) ≡ end true
  callee_unknown h = rw (le-ltb place count h)

  module _ (stored : Stored store limit count) (known : place < count) where
    here : FormatIn limit (format_at limit store (2 * place + 1))
    here = stored.results place known

    -- its words are in the store
    pub callee_inside : (2 * place + 1) * (limit + 1) + (limit + 1) ≤ length store
    callee_inside =
        let words : length (format_at limit store (2 * place + 1)) ≡ limit + 1 =
        ap length here.same ∙ format_words_length limit here.format here.encodable in
        omega (arith, words, length-take (limit + 1) (drop ((2 * place + 1) * (limit + 1)) store), length-drop ((2 * place + 1) * (limit + 1)) store)

    format : stored_at store limit count place ≡ some (read_format (format_at limit store (2 * place + 1)))
    format = rw (lt-ltb place count known)

    -- a function that never returns so far adds nothing
    pub callee_never : (words : List ℕ) → words ≡ format_at limit store (2 * place + 1) → read_format words ≡ never → callee_shapes (stored_at store limit count place) ≡ end false
    callee_never words e n = rw (format, ← e, n)

    -- else its shapes are in the store
    pub callee_shapes_lem : (words : List ℕ) (row : rows.Row) → words ≡ format_at limit store (2 * place + 1) → IsRowOf words row
        → Callee (callee_shapes (stored_at store limit count place)) row.words.now row.is_open
    callee_shapes_lem words row e r =
        let same : words ≡ format_words limit here.format = e ∙ here.same in
        let read : read_format words ≡ here.format = rw same (read_write limit here.format here.encodable (omega (arith, stored.limited))) in
        rw (format, ← e, read)
        (shapes_words limit here.format here.encodable stored.limited row.words.now row.is_open (row_meant row) (sym read ∙ r.same) (rw same at r.words) (rw same at r.opens))

    -- the rows that are written for it
    module _ (before : List ℕ) (from most : ℕ) (begins : from ≤ most) (room : most ≤ length before) (words : List ℕ) (is : words ≡ format_at limit store (2 * place + 1)) where
      pub row_never : read_format words ≡ never → RowIs (callee_shapes (stored_at store limit count place)) before before from most (ends from false)
      row_never n = rw (callee_never words is n) (row_end false before from most begins room)

      pub row_callee_over : (row : rows.Row) → IsRowOf words row → most - from < length row.words.now
          → RowIs (callee_shapes (stored_at store limit count place)) before before from most over
      row_callee_over row r l =
          row_over (callee_shapes (stored_at store limit count place)) before before from most (omega (arith, (callee_shapes_lem words row is r).number)) refl (λ j o. refl)

      pub row_callee : (row : rows.Row) (after : List ℕ) → IsRowOf words row → length row.words.now ≤ most - from → after ≡ written before from row.words.now
          → RowIs (callee_shapes (stored_at store limit count place)) before after from most (ends (from + length row.words.now) row.is_open)
      row_callee row after r l w =
          let found = callee_shapes_lem words row is r in
          row_written (callee_shapes (stored_at store limit count place)) before after from most _ _
          (omega (arith, found.number)) (omega arith) (sym found.opens) room
          (rw found.same w)

  -- and where no function has its name
  pub row_unknown : (before : List ℕ) (from most : ℕ) → count ≤ place → from ≤ most → most ≤ length before
      → RowIs (callee_shapes (stored_at store limit count place)) before before from most (ends from true)
  row_unknown before from most h k l = rw (callee_unknown h) (row_end true before from most k l)

-- ---- a part of the term records, its first record before the rest

-- the first record, by its kind and the words a and b
step_run : (text : List ℕ) (give : ℕ → ℕ → Sentences) (at : ℕ) (mark : Mark) (results : Results) (a b : ℕ) (inside after : Run) (kind : ℕ)
    → result_shapes results (term_run text give at mark (term_from kind a b) inside after)
    ≡ chain (term_shapes (term_from kind a b) (result_shapes results inside) (results (folded (take b (drop a text))))) (result_shapes results after)
unfolding result_shapes chain term_from
step_run text give at mark results a b inside after zero = refl
step_run text give at mark results a b inside after (suc zero) = refl
step_run text give at mark results a b inside after (suc (suc zero)) = refl
step_run text give at mark results a b inside after (suc (suc (suc zero))) = refl
step_run text give at mark results a b inside after (suc (suc (suc (suc zero)))) = refl
step_run text give at mark results a b inside after (suc (suc (suc (suc (suc zero))))) = refl
step_run text give at mark results a b inside after (suc (suc (suc (suc (suc (suc zero)))))) = refl
step_run text give at mark results a b inside after (suc (suc (suc (suc (suc (suc (suc zero))))))) =
    extend_chain (results (folded (take b (drop a text)))) (result_shapes results after)
step_run text give at mark results a b inside after (suc (suc (suc (suc (suc (suc (suc (suc kind)))))))) = refl

-- an e. variable and a block end the row open
pub open_term : (term : Term) (inside : Shapes) (known : Option Format)
    → ((a : ℕ) × (b : ℕ) × (term ≡ terms.EVariable a b)) ⊎ ((n : ℕ) × (term ≡ terms.Block n)) → term_shapes term inside known ≡ end true
open_term term inside known (inl e) = rw e.2
open_term term inside known (inr e) = rw e.1

-- only a record of kind 7 is a call
call_kind : (a b c d kind : ℕ) → term_from kind a b ≡ terms.Call c d → kind ≡ 7
unfolding term_from
call_kind a b c d zero h = let z : ◌≡◌ {A = ℕ} 0 1 = cc in absurd (omega arith)
call_kind a b c d (suc zero) h = let z : ◌≡◌ {A = ℕ} 0 1 = cc in absurd (omega arith)
call_kind a b c d (suc (suc zero)) h = let z : ◌≡◌ {A = ℕ} 0 1 = cc in absurd (omega arith)
call_kind a b c d (suc (suc (suc zero))) h = let z : ◌≡◌ {A = ℕ} 0 1 = cc in absurd (omega arith)
call_kind a b c d (suc (suc (suc (suc zero)))) h = let z : ◌≡◌ {A = ℕ} 0 1 = cc in absurd (omega arith)
call_kind a b c d (suc (suc (suc (suc (suc zero))))) h = let z : ◌≡◌ {A = ℕ} 0 1 = cc in absurd (omega arith)
call_kind a b c d (suc (suc (suc (suc (suc (suc zero)))))) h = let z : ◌≡◌ {A = ℕ} 0 1 = cc in absurd (omega arith)
call_kind a b c d (suc (suc (suc (suc (suc (suc (suc zero))))))) h = refl
call_kind a b c d (suc (suc (suc (suc (suc (suc (suc (suc kind)))))))) h = let z : ◌≡◌ {A = ℕ} 0 1 = cc in absurd (omega arith)

-- a term that has a leaf adds that shape alone
pub leaf_alone : (term : Term) (leaf : Leaf) → option_map leaf_meant (Some leaf) ≡ term_leaf term → LeafTerm term (Some leaf)
leaf_alone (terms.Symbol x) leaf e inside known = cc
leaf_alone (terms.SVariable a b) leaf e inside known = cc
leaf_alone (terms.TVariable a b) leaf e inside known = cc
leaf_alone (terms.EVariable a b) leaf e inside known = let z : ◌≡◌ {A = ℕ} 0 1 = cc in absurd (omega arith)
leaf_alone terms.Bracket leaf e inside known = let z : ◌≡◌ {A = ℕ} 0 1 = cc in absurd (omega arith)
leaf_alone (terms.Call a b) leaf e inside known = let z : ◌≡◌ {A = ℕ} 0 1 = cc in absurd (omega arith)
leaf_alone (terms.Block n) leaf e inside known = let z : ◌≡◌ {A = ℕ} 0 1 = cc in absurd (omega arith)

-- a term that adds a shape alone has none inside it
leaf_kind : (a b kind : ℕ) (leaf : Leaf) → LeafTerm (term_from kind a b) (Some leaf) → kind < 5
unfolding term_from
leaf_kind a b zero leaf h = omega arith
leaf_kind a b (suc zero) leaf h = omega arith
leaf_kind a b (suc (suc zero)) leaf h = omega arith
leaf_kind a b (suc (suc (suc zero))) leaf h = omega arith
leaf_kind a b (suc (suc (suc (suc zero)))) leaf h = omega arith
leaf_kind a b (suc (suc (suc (suc (suc zero))))) leaf h = let q = h (end true) none in let z : ◌≡◌ {A = ℕ} 0 1 = cc in absurd (omega arith)
leaf_kind a b (suc (suc (suc (suc (suc (suc zero)))))) leaf h = let q = h (end true) none in let z : ◌≡◌ {A = ℕ} 0 1 = cc in absurd (omega arith)
leaf_kind a b (suc (suc (suc (suc (suc (suc (suc zero))))))) leaf h = let q = h (end true) none in let z : ◌≡◌ {A = ℕ} 0 1 = cc in absurd (omega arith)
leaf_kind a b (suc (suc (suc (suc (suc (suc (suc (suc kind)))))))) leaf h = let q = h (end true) none in let z : ◌≡◌ {A = ℕ} 0 1 = cc in absurd (omega arith)

module _ (file : File) (results : Results) (at : ℕ) (p : List ℕ) where
  -- no records
  pub part_none : length p < 24 → part_shapes file results at p ≡ end false
  unfolding result_shapes
  part_none h = rw (run_empty file (own file) at p h)

  module _ (readable : Readable file) (part : PartAt file at p) (some : 24 ≤ length p) where
    -- the first record's shapes, and the shapes of the rest after them
    pub part_first : part_shapes file results at p
        ≡ chain (first_shapes file results at p) (part_shapes file results (at + 1 + word_at p 12) (rest 24 end_of p))
    unfolding term_at
    part_first =
        rw (run_node file (own file) at p some, part_term file readable at p part some)
        (step_run file.text.records (own file) at _ results _ _ _ _ _)

    -- the store knows its call
    pub call_known : (slots : Slots) (store : List ℕ) (limit count c d : ℕ) → Knows file slots store limit count results
        → term_at p 0 ≡ terms.Call c d
        → results (call_folded file at) ≡ stored_at store limit count (get_or slots.calls at 0)
    unfolding term_at
    call_known slots store limit count c d knows h = go (dec_lt (get_or slots.calls at 0) count)
      where
        kind : IsCall file at
        kind = call_kind _ _ c d _ (rw (part_term file readable at p part some) at h)

        inside : at < file.terms.count
        inside = part_at file readable at p part some

        go : Dec (get_or slots.calls at 0 < count) → results (call_folded file at) ≡ stored_at store limit count (get_or slots.calls at 0)
        go (yes k) = rw (lt-ltb (get_or slots.calls at 0) count k) (knows.known at inside kind k)
        go (no k) = rw (le-ltb (get_or slots.calls at 0) count (omega arith)) (knows.unknown at inside kind (omega arith))

-- ---- the rows that the code writes for a part, by the answers that it got

-- where a row ends, one after another
pub between_later : (from most n : ℕ) (row : Row) → from ≤ n → Between n most row → Between from most row
between_later from most n None h b = b
between_later from most n (Some e) h b = (omega (arith, b.0), b.1)

module _ {file : File} {at : ℕ} {p store : List ℕ} {limit count : ℕ} {before : List ℕ} {from most : ℕ}
    (asked : RowAsked file at p store limit count before from most) (some : 24 ≤ length p) where
  -- records are few
  pub asked_small : at < 512
  asked_small = omega (arith, part_at file asked.readable at p asked.here some, asked.terms)

  -- what is asked for the records inside the first one, and for those after it
  pub asked_inside : {e : ℕ} → e ≡ end_of p → from < most → RowAsked file (at + 1) (take (e - 24) (drop 24 p)) store limit count before (from + 1) most
  asked_inside i h = record {
    readable = asked.readable;
    terms = asked.terms;
    here = rw i (contents_part file asked.readable at p asked.here some);
    stored = asked.stored;
    begins = omega arith;
    room = asked.room;
    small = asked.small;
  }

  pub asked_rest : {e n next : ℕ} {out : List ℕ} → e ≡ end_of p → n ≡ word_at p 12 → next ≤ most → length out ≡ length before
      → RowAsked file (at + 1 + n) (take (length p - e) (drop e p)) store limit count out next most
  asked_rest i k h l = record {
    readable = asked.readable;
    terms = asked.terms;
    here = rw (i, k) (rest_part file asked.readable at p asked.here some);
    stored = asked.stored;
    begins = h;
    room = rw l asked.room;
    small = asked.small;
  }

  pub rest_small : {n : ℕ} → n ≡ word_at p 12 → at + 1 + n ≤ 512
  rest_small k = omega (arith, (rest_part file asked.readable at p asked.here some).inside, asked.terms)

  module _ (results : Results) {after : List ℕ} where
    -- a bracket: what is inside is over, and it is written
    pub bracket_over : {e : ℕ} {row : Row} → e ≡ end_of p → row ≡ over
        → RowIs (part_shapes file results (at + 1) (take (e - 24) (drop 24 p))) before after (from + 1) most row
        → RowIs (group (part_shapes file results (at + 1) (contents 24 end_of p)) (end false)) before after from most over
    bracket_over i k r =
        group_over (part_shapes file results (at + 1) (contents 24 end_of p)) before after from most (rw (i, k) at r)

    pub bracket_written : (n : ℕ) (o : Bool) {e word : ℕ} {row : Row} → e ≡ end_of p → row ≡ ends n o → word ≡ bracket_word (n - (from + 1)) o
        → RowIs (part_shapes file results (at + 1) (take (e - 24) (drop 24 p))) before after (from + 1) most row
        → RowIs (group (part_shapes file results (at + 1) (contents 24 end_of p)) (end false)) before (set after from word) from most (ends n false)
    bracket_written n o {word = word} i k w r =
        group_written (part_shapes file results (at + 1) (contents 24 end_of p)) before after from most n word o (rw (i, k) at r) asked.room w

    -- a first record that is a call
    pub first_call : {slots : Slots} {place c d : ℕ} {row : Row} → term_at p 0 ≡ terms.Call c d → place ≡ get_or slots.calls at 0
        → Knows file slots store limit count results → RowIs (callee_shapes (stored_at store limit count place)) before after from most row
        → RowIs (first_shapes file results at p) before after from most row
    first_call {slots = slots} {c = c} {d = d} e i k r =
        let same = call_known file results at p asked.readable asked.here some slots store limit count c d k e in
        rw (e, same, ← i) r

    -- the first record's row is over, or it ends open, and that is all; or the rest follows
    pub row_first_over : {row : Row} → row ≡ over → RowIs (first_shapes file results at p) before after from most row
        → RowIs (part_shapes file results at p) before after from most over
    row_first_over e r =
        rw (part_first file results at p asked.readable asked.here some)
        (both_over (first_shapes file results at p) _ before after from most (rw e at r))

    pub row_first_open : (n : ℕ) {row : Row} → row ≡ Some (Open n) → RowIs (first_shapes file results at p) before after from most row
        → RowIs (part_shapes file results at p) before after from most (Some (Open n))
    row_first_open n e r =
        rw (part_first file results at p asked.readable asked.here some)
        (both_open (first_shapes file results at p) _ before after from most n true refl (rw e at r))

    pub row_first_rest : {middle : List ℕ} {n e k : ℕ} {o : Bool} {row next : Row} → row ≡ ends n o → o ≡ false → e ≡ end_of p → k ≡ word_at p 12
        → RowIs (first_shapes file results at p) before middle from most row
        → RowIs (part_shapes file results (at + 1 + k) (take (length p - e) (drop e p))) middle after n most next
        → RowIs (part_shapes file results at p) before after from most next
    row_first_rest {middle = middle} {n = n} {o = o} {next = next} f h i l r s =
        rw (part_first file results at p asked.readable asked.here some)
        (both_rows (first_shapes file results at p) _ before middle from most n o after next h (rw f at r) asked.room (rw (i, l) at s))

-- no records
pub row_none : (file : File) (results : Results) (at : ℕ) (p before : List ℕ) (from most : ℕ) → length p < 24 → from ≤ most → most ≤ length before
    → RowIs (part_shapes file results at p) before before from most (ends from false)
row_none file results at p before from most n h k = rw (part_none file results at p n) (row_end false before from most h k)

-- ---- patterns

-- a pattern's shapes are those of a result in which no call is known
pub pattern_row_lem : (r : Run) → pattern_shapes r ≡ result_shapes (λ _. none) r
unfolding pattern_shapes result_shapes
pattern_row_lem empty = refl
pattern_row_lem (symbol a after) = ap (item (leaf_of a)) (pattern_row_lem after)
pattern_row_lem (variable k i after) = ap (variable_shapes k) (pattern_row_lem after)
pattern_row_lem (bracket inside after) = rw (pattern_row_lem inside, pattern_row_lem after)
pattern_row_lem (call m f inside after) = refl
pattern_row_lem (block m inside ss after) = refl

-- with no names every call is unknown
pub knows_none : (file : File) (slots : Slots) (store : List ℕ) (limit : ℕ) → Knows file slots store limit 0 (λ _. none)
knows_none file slots store limit = record {
  known = λ t h k l. absurd (omega arith);
  unknown = λ t h k l. refl;
}

-- and any store will do
pub stored_none : (store : List ℕ) (limit : ℕ) → limit ≤ 64 → Stored store limit 0
stored_none store limit h = record {
  limited = h;
  results = λ p k. absurd (omega arith);
}

-- ---- the leaves that a part begins with

left_drop : (n : ℕ) (p : List ℕ) → left_of n p ≡ drop (24 * n) p
left_drop n p = take_all (length p - 24 * n) (drop (24 * n) p) (omega (arith, length-drop (24 * n) p))

pub left_length : (n : ℕ) (p : List ℕ) → length (left_of n p) ≡ length p - 24 * n
left_length n p = rw (left_drop n p) (length-drop (24 * n) p)

left_none : (p : List ℕ) → left_of 0 p ≡ p
left_none p = left_drop 0 p

left_next : (n : ℕ) (p : List ℕ) → take (length (left_of n p) - 24) (drop 24 (left_of n p)) ≡ left_of (n + 1) p
left_next n p =
    let place : 24 * n + 24 ≡ 24 * (n + 1) = omega arith in
    take_all (length (left_of n p) - 24) (drop 24 (left_of n p)) (omega (arith, length-drop 24 (left_of n p)))
    ∙ ap (drop 24) (left_drop n p)
    ∙ drop-drop 24 (24 * n) p
    ∙ rw place (sym (left_drop (n + 1) p))

-- no record yet
pub leaves_none : (part before : List ℕ) (from most : ℕ) → LeavesAre part before before from most 0
leaves_none part before from most file at store limit count asked = record {
  asked = rw (left_none part, add-zero at, add-zero from) asked;
  goes = λ results after row r. rw (left_none part, add-zero at, add-zero from) at r;
}

-- one record more
pub leaves_next : (part before middle : List ℕ) (from most n word : ℕ) (leaf : Leaf) → LeavesAre part before middle from most n
    → from + n < most → 24 * n + 24 ≤ length part → LeafTerm (term_at (left_of n part) 0) (Some leaf) → word ≡ leaf_word (leaf_meant leaf)
    → LeavesAre part before (set middle (from + n) word) from most (n + 1)
unfolding term_at
leaves_next part before middle from most n word leaf so_far room enough alone spelled file at store limit count asked = record {
  asked =
      rw (left_next n part, add-zero (at + n + 1), add_assoc at n 1) at
      (asked_rest now whole {n = 0} {next = from + (n + 1)} {out = set middle (from + n) word} ends_here none_inside_lem (omega arith)
      (length-set middle (from + n) word));
  goes =
      λ results after row r. onward.goes results after row
      (row_first_rest now whole results refl refl ends_here none_inside_lem (written_leaf results)
      (rw (left_next n part, add-zero (at + n + 1), add_assoc at n 1, add_assoc from n 1) r));
}
  where
    onward : Onward file at part store limit count before middle from most n
    onward = so_far file at store limit count asked

    now : RowAsked file (at + n) (left_of n part) store limit count middle (from + n) most
    now = onward.asked

    whole : 24 ≤ length (left_of n part)
    whole = omega (arith, left_length n part)

    small : word_at (left_of n part) 0 < 5
    small = leaf_kind _ _ _ leaf alone

    none_inside_lem : 0 ≡ word_at (left_of n part) 12
    none_inside_lem = sym (part_leaf file now.readable (at + n) (left_of n part) now.here whole (omega (arith, small)))

    ends_here : 24 ≡ end_of (left_of n part)
    ends_here = omega (arith, part_end_lem file now.readable (at + n) (left_of n part) now.here whole, none_inside_lem)

    written_leaf : (results : Results) → RowIs (first_shapes file results (at + n) (left_of n part)) middle (set middle (from + n) word) (from + n) most (ends (from + n + 1) false)
    written_leaf results = rw (alone _ _) (row_leaf (leaf_meant leaf) word middle (from + n) most spelled room now.room)

-- a record's number is small
pub asked_place : {file : File} {at : ℕ} {p store : List ℕ} {limit count : ℕ} {out : List ℕ} {from most : ℕ} → RowAsked file at p store limit count out from most → at ≤ 512
asked_place asked = omega (arith, asked.here.inside, asked.terms)

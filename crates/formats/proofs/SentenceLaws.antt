-- Laws of the rows of a law's sentences (specs/Code/Turns.antt): the results that a store says, the row of one sentence, and the rows of sentences joined one
-- by one.
use Prim.Native.Nat.{ℕ, suc, ◌+◌, ◌*◌, ◌-◌, ◌≤◌, ◌<◌}
use Rattle.std.specs.Prelude.{Result, Ok, Err}
use mathlib.Core.List.{List, [], ◌∷◌}
use mathlib.Core.Option.{none}
use mathlib.Core.Path.{◌≡◌, refl, sym, ap, ◌∙◌}
use native.Mathlib.Omega.{arith}
use native.Mathlib.Nat.{sub-zero, add-zero}
use native.Mathlib.Decide.{dec_le}
use lib.ListN.{length, drop, set, replicate}
use lib.Seq.{drop_at}
use Rattle.file.specs.Answer.{given, refused}
use Rattle.file.specs.Sections.{File}
use Rattle.law.specs.Tree.{keep}
use Rattle.law.specs.Places.{pattern_at, pattern_part, result_at, result_part}
use Rattle.law.specs.Reading.{run_of, own, sentences_at}
use Rattle.law.specs.Code.Index.{Readable, PartAt}
use Rattle.law.proofs.PartLaws.{pattern_part_lem, result_part_lem}
use Rattle.shapes.specs.Format.{Shapes, Format, never, of, size}
use Rattle.shapes.specs.Join.{join_formats}
use Rattle.shapes.specs.Words.{format_words, Encodable, read_format}
use Rattle.shapes.specs.Code.Words.{FormatIn}
use Rattle.shapes.proofs.WordLaws.{format_words_length, read_write}
use Rattle.shapes.proofs.FormatLaws.{join_encodable}
use Rattle.formats.specs.FormatOf.{Results}
use Rattle.formats.specs.Infer.{Entry, find}
use Rattle.formats.specs.Code.Entries.{entry_names, format_in, StoreHolds}
use Rattle.formats.specs.declared.slots.Slots.{Slots}
use Rattle.formats.specs.declared.infer.Side.{Side}
use Rattle.formats.specs.declared.infer.Side.TheVariants as side
use Rattle.formats.specs.declared.TooWide.{TooWide}
use Rattle.formats.specs.Store.{store_size}
use Rattle.formats.specs.Code.Held.{Holds}
use Rattle.formats.specs.Code.Slots.{file_names, SlotsOf}
use Rattle.formats.specs.Code.Rows.{format_at, Knows, Stored, part_shapes}
use Rattle.formats.specs.Code.Turns.{too_wide, Holding, entries_from, arguments_in, results_in, FormatMade, sentence_shapes, rows_joined, JoinedIs}
use Rattle.formats.proofs.EntryLaws.{format_encodable, results_next, results_over, results_end, patterns_next, patterns_over, patterns_end}
use Rattle.formats.proofs.StateLaws.{store_length, arguments_length, results_length, read_result, read_argument_format, read_result_format, store_knows}
use Rattle.formats.proofs.RowLaws.{pattern_row_lem, knows_none}

-- ---- what a store says

-- the formats that a store says are those of entries, if each one is that of the entry of its number
pub entries_said : (limit : ℕ) (store : List ℕ) (k : ℕ) (es : List Entry)
    → ((p : ℕ) → p < length es → read_format (format_at limit store (k + 2 * p)) ≡ format_in es p)
    → entries_from limit store k (entry_names es) ≡ es
unfolding entries_from format_in
entries_said limit store k [] said = refl
entries_said limit store k (e ∷ es) said =
    let start : k + 2 * 0 ≡ k = omega arith in
    let first : read_format (format_at limit store k) ≡ e.format = ap (λ n. read_format (format_at limit store n)) (sym start) ∙ said 0 (omega arith) in
    let later : (p : ℕ) → p < length es → read_format (format_at limit store (k + 2 + 2 * p)) ≡ format_in es p =
    λ p inside. let next : k + 2 + 2 * p ≡ k + 2 * suc p = omega arith in rw next (said (suc p) (omega arith)) in
    rw (first, entries_said limit store (k + 2) es later)

module _ {limit : ℕ} {names : List (List ℕ)} {arguments results : List Entry} {tail store : List ℕ} (h : StoreHolds limit names arguments results tail store) where
  -- the argument formats that a store says are those that it holds
  pub arguments_said : limit ≤ 127 → arguments_in limit names store ≡ arguments
  arguments_said few =
      ap (entries_from limit store 0) (sym h.entries.argument_names)
      ∙ entries_said limit store 0 arguments
      (λ p inside.
      let number : 0 + 2 * p ≡ 2 * p = omega arith in
      rw number (read_argument_format h p (omega (arith, arguments_length h.entries)) few))

  -- the result formats that a store says are those that it holds
  pub results_said : limit ≤ 127 → results_in limit names store ≡ results
  results_said few =
      ap (entries_from limit store 1) (sym h.entries.result_names)
      ∙ entries_said limit store 1 results
      (λ p inside.
      let number : 1 + 2 * p ≡ 2 * p + 1 = omega arith in
      rw number (read_result_format h p (omega (arith, results_length h.entries)) few))

-- what a store holds past its own words
tail_said : {limit : ℕ} {names : List (List ℕ)} {arguments results : List Entry} {tail store : List ℕ} → StoreHolds limit names arguments results tail store
    → drop (store_size limit) store ≡ tail
tail_said {limit} {tail = tail} h = rw h.words (drop_at _ tail (store_size limit) (store_length h.entries))

-- a store that holds formats holds what it says
pub holds_said : {limit : ℕ} {names : List (List ℕ)} {arguments results : List Entry} {tail store : List ℕ} → StoreHolds limit names arguments results tail store → limit ≤ 127
    → Holds limit names store
holds_said {limit} {names} {store = store} h few =
    rw (arguments_said h few, results_said h few, tail_said h) h

pub holding_of : {limit : ℕ} {names : List (List ℕ)} {store : List ℕ} → Holds limit names store → Holding limit names store
holding_of h = record { arguments = _; results = _; tail = _; holds = h }

-- a store that holds formats has a result for each name
pub holding_stored : {limit : ℕ} {names : List (List ℕ)} {store : List ℕ} (count : ℕ) → Holding limit names store → count ≡ length names → limit ≤ 64
    → Stored store limit count
holding_stored {limit} {names} {store} count h same small =
    record {
      limited = small;
      results = λ p inside. record {
        format = format_in h.results p;
        encodable = format_encodable limit h.results p h.holds.entries.results_encodable;
        same = read_result h.holds p (omega arith);
      };
    }

-- and says what each call is known to give
pub holding_knows : (file : File) (slots : Slots) {limit : ℕ} {store : List ℕ} (count : ℕ) → SlotsOf file slots → Holding limit (file_names file) store
    → count ≡ length (file_names file) → limit ≤ 64
    → Knows file slots store limit count (find (results_in limit (file_names file) store))
holding_knows file slots count places h same small =
    rw (results_said h.holds (omega arith)) (store_knows file slots count places h.holds same (omega arith))

-- ---- the row of a sentence

module _ (file : File) (readable : Readable file) {s at : ℕ} {part : List ℕ} (inside : s < file.sentences.count) where
  -- the part of the term records that is a sentence's pattern
  pub pattern_here : at ≡ pattern_at file s → part ≡ pattern_part file s → PartAt file at part
  pattern_here a p = rw (a, p) (pattern_part_lem file readable s inside)

  -- the part that is its result
  pub result_here : at ≡ result_at file s → part ≡ result_part file s → PartAt file at part
  result_here a p = rw (a, p) (result_part_lem file readable s inside)

module _ (file : File) (s : ℕ) {slots : Slots} {store : List ℕ} {limit count at : ℕ} {part : List ℕ} {patterns : Side} {ok : Result (Unit {0}) TooWide} {words : List ℕ}
    (made : (t : Results) → Knows file slots store limit count t → FormatMade limit (part_shapes file t at part) ok words) where
  -- a pattern's row is made with no call known
  pub pattern_made : (t : Results) → count ≡ 0 → patterns ≡ side.Pattern → at ≡ pattern_at file s → part ≡ pattern_part file s
      → FormatMade limit (sentence_shapes file patterns t s) ok words
  pattern_made t none-known which a p =
      rw (which, pattern_row_lem (run_of file (own file) (pattern_at file s) (pattern_part file s)))
      (rw (a, p) at (made (λ _. none) (rw none-known (knows_none file slots store limit))))

  -- a result's row is made with what the store says of calls
  pub result_made : (t : Results) → Knows file slots store limit count t → patterns ≡ side.Result → at ≡ result_at file s → part ≡ result_part file s
      → FormatMade limit (sentence_shapes file patterns t s) ok words
  result_made t knows which a p = rw which (rw (a, p) at (made t knows))

module _ {limit : ℕ} {f : Shapes} {ok : Result (Unit {0}) TooWide} {words : List ℕ} (made : FormatMade limit f ok words) where
  -- the store has words for a row that is made
  pub made_fits : ok ≡ Ok tt → Encodable limit (of f)
  made_fits good = go (dec_le (size f) limit)
    where
      go : Dec (size f ≤ limit) → size f ≤ limit
      go (yes p) = p
      go (no p) = let q : ok ≡ Err too_wide = (made.over (omega arith)).0 in let z : ◌≡◌ {A = ℕ} 0 1 = cc in absurd (omega arith)

  -- one that is not has more
  pub made_passes : ok ≡ Err too_wide → limit < size f
  made_passes bad = go (dec_le (size f) limit)
    where
      go : Dec (size f ≤ limit) → limit < size f
      go (yes p) = let q : ok ≡ Ok tt = (made.fits p).0 in let z : ◌≡◌ {A = ℕ} 0 1 = cc in absurd (omega arith)
      go (no p) = omega arith

  -- its words
  pub made_words : ok ≡ Ok tt → words ≡ format_words limit (of f)
  made_words good = (made.fits (made_fits good)).1

-- ---- the rows of sentences, joined

module _ (limit : ℕ) (file : File) where
  -- the row of the first of the sentences left fits: it is joined to what was joined before
  rows_next : (patterns : Side) (t : Results) (g : Format) (left s next after : ℕ) → Readable file → s < file.sentences.count → left ≡ suc next
      → after ≡ suc s → size (sentence_shapes file patterns t s) ≤ limit
      → rows_joined limit patterns t g (keep left (sentences_at file s))
      ≡ rows_joined limit patterns t (join_formats g (of (sentence_shapes file patterns t s))) (keep next (sentences_at file after))
  rows_next side.Pattern t g left s next after readable inside l a fits = patterns_next limit file g left s next after readable inside l a fits
  rows_next side.Result t g left s next after readable inside l a fits = results_next limit file t g left s next after readable inside l a fits

  -- it does not fit: refused
  rows_over : (patterns : Side) (t : Results) (g : Format) (left s : ℕ) → Readable file → s < file.sentences.count → 0 < left
      → limit < size (sentence_shapes file patterns t s) → rows_joined limit patterns t g (keep left (sentences_at file s)) ≡ refused 10
  rows_over side.Pattern t g left s readable inside some_left over = patterns_over limit file g left s readable inside some_left over
  rows_over side.Result t g left s readable inside some_left over = results_over limit file t g left s readable inside some_left over

  -- no sentence is left
  rows_end : (patterns : Side) (t : Results) (g : Format) (left s : ℕ) → left ≡ 0
      → rows_joined limit patterns t g (keep left (sentences_at file s)) ≡ given g
  rows_end side.Pattern t g left s l = patterns_end limit file g left s l
  rows_end side.Result t g left s l = results_end limit file t g left s l

-- after i of so many sentences: the words of a format, and the join of all with what was joined before is that of this format with the sentences left
pub record RowsLeft (limit : ℕ) (file : File) (patterns : Side) (t : Results) (before : Format) (first number i : ℕ) (joined : List ℕ) : Type 0 where
  pub format : Format
  pub encodable : Encodable limit format
  pub words : joined ≡ format_words limit format
  pub left : rows_joined limit patterns t before (keep number (sentences_at file first))
      ≡ rows_joined limit patterns t format (keep (number - i) (sentences_at file (first + i)))

-- before the first sentence
pub rows_start : {limit : ℕ} {file : File} {patterns : Side} {t : Results} {first number : ℕ} {joined : List ℕ} → limit ≤ 64 → FormatIn limit joined
    → RowsLeft limit file patterns t (read_format joined) first number 0 joined
rows_start {limit} {first = first} {number = number} {joined = joined} few h =
    let said : read_format joined ≡ h.format = ap read_format h.same ∙ read_write limit h.format h.encodable (omega arith) in
    record {
      format = h.format;
      encodable = h.encodable;
      words = h.same;
      left = cc (said, sub-zero number, add-zero first);
    }

module _ {limit : ℕ} {file : File} {patterns : Side} {t : Results} {before : Format} {first number i : ℕ} {joined : List ℕ}
    (h : RowsLeft limit file patterns t before first number i joined) where
  -- the words are a format's
  pub rows_format : FormatIn limit joined
  rows_format = record { format = h.format; encodable = h.encodable; same = h.words }

  -- their number
  pub rows_length : length joined ≡ limit + 1
  rows_length = ap length h.words ∙ format_words_length limit h.format h.encodable

  -- after the last sentence
  pub rows_all : number ≤ i → JoinedIs limit (rows_joined limit patterns t before (keep number (sentences_at file first))) (Ok tt) joined
  rows_all done = rw (h.left ∙ rows_end limit file patterns t h.format (number - i) (first + i) (omega arith)) (refl, h.words)

  module _ {ok : Result (Unit {0}) TooWide} {row : List ℕ} (made : FormatMade limit (sentence_shapes file patterns t (first + i)) ok row) where
    -- the row of the next sentence does not fit
    pub rows_refused : ok ≡ Err too_wide → Readable file → first + number ≤ file.sentences.count → i < number
        → JoinedIs limit (rows_joined limit patterns t before (keep number (sentences_at file first))) (Err too_wide) joined
    rows_refused bad readable inside here =
        rw (h.left ∙ rows_over limit file patterns t h.format (number - i) (first + i) readable (omega arith) (omega arith) (made_passes made bad))
        (refl, rows_length)

    -- it fits
    module _ (good : ok ≡ Ok tt) where
      -- its words are a format's
      pub made_format : FormatIn limit row
      made_format = record { format = of (sentence_shapes file patterns t (first + i)); encodable = made_fits made good; same = made_words made good }

      -- the row is joined
      pub rows_more : {after : ℕ} {next : List ℕ} → limit ≤ 64 → Readable file → first + number ≤ file.sentences.count → i < number → after ≡ i + 1
          → next ≡ format_words limit (join_formats (read_format joined) (read_format row))
          → RowsLeft limit file patterns t before first number after next
      rows_more {after} {next} few readable inside here a is =
          let shapes : Shapes = sentence_shapes file patterns t (first + i) in
          let fits : size shapes ≤ limit = made_fits made good in
          let said : read_format joined ≡ h.format = ap read_format h.words ∙ read_write limit h.format h.encodable (omega arith) in
          let new : read_format row ≡ of shapes = ap read_format (made_words made good) ∙ read_write limit (of shapes) fits (omega arith) in
          record {
            format = join_formats h.format (of shapes);
            encodable = join_encodable limit h.format (of shapes) h.encodable fits;
            words = is ∙ rw (said, new);
            left =
                h.left
                ∙ rows_next limit file patterns t h.format (number - i) (first + i) (number - after) (first + after) readable (omega arith) (omega arith)
                (omega arith) fits;
          }

module _ (limit : ℕ) (file : File) (patterns : Side) (t : Results) (first number : ℕ) where
  -- no sentence: zeros with the header of never
  pub rows_none : {zeros : List ℕ} (n : ℕ) → number ≡ 0 → zeros ≡ replicate n 0 → n ≡ limit + 1
      → JoinedIs limit (rows_joined limit patterns t never (keep number (sentences_at file first))) (Ok tt) (set zeros 0 512)
  rows_none n empty zero-words size_is =
      let one : limit + 1 ≡ suc limit = omega arith in
      let less : limit + 1 - 1 ≡ limit = omega arith in
      rw (rows_end limit file patterns t never number first empty)
      (refl, ap (λ s. set s 0 512) (zero-words ∙ ap (λ k. replicate k 0) (size_is ∙ one)) ∙ ap (λ k. 512 ∷ replicate k 0) (sym less))

  -- the row of the first sentence: it does not fit, or its words are those of the join so far
  module _ {ok : Result (Unit {0}) TooWide} {row : List ℕ} (made : FormatMade limit (sentence_shapes file patterns t first) ok row) (readable : Readable file)
      (inside : first + number ≤ file.sentences.count) (some : 0 < number) where
    pub first_refused : ok ≡ Err too_wide → JoinedIs limit (rows_joined limit patterns t never (keep number (sentences_at file first))) (Err too_wide) row
    first_refused bad = rw (rows_over limit file patterns t never number first readable (omega arith) some (made_passes made bad)) (refl, made.kept)

    module _ (few : limit ≤ 64) (good : ok ≡ Ok tt) where
      pub first_format : FormatIn limit row
      first_format = record { format = of (sentence_shapes file patterns t first); encodable = made_fits made good; same = made_words made good }

      said : read_format row ≡ of (sentence_shapes file patterns t first)
      said = ap read_format (made_words made good) ∙ read_write limit (of (sentence_shapes file patterns t first)) (made_fits made good) (omega arith)

      next : rows_joined limit patterns t never (keep number (sentences_at file first))
          ≡ rows_joined limit patterns t (of (sentence_shapes file patterns t first)) (keep (number - 1) (sentences_at file (first + 1)))
      next = rows_next limit file patterns t never number first (number - 1) (first + 1) readable (omega arith) (omega arith) (omega arith) (made_fits made good)

      -- there is no other, or the others are joined to it
      pub first_alone : number ≡ 1 → JoinedIs limit (rows_joined limit patterns t never (keep number (sentences_at file first))) (Ok tt) row
      first_alone one =
          rw (next, rows_end limit file patterns t (of (sentence_shapes file patterns t first)) (number - 1) (first + 1) (omega arith)) (refl, made_words made good)

      pub first_joined : (r : Result (Unit {0}) TooWide) (words : List ℕ)
          → JoinedIs limit (rows_joined limit patterns t (read_format row) (keep (number - 1) (sentences_at file (first + 1)))) r words
          → JoinedIs limit (rows_joined limit patterns t never (keep number (sentences_at file first))) r words
      first_joined r words h = rw next (rw said at h)

-- Lint 2 at one call (src/recognition.rt): the last definition of its name, the sentences that match its argument, and the formats that are compared.
use Prim.Native.Nat.{ℕ, zero, suc, ◌+◌, ◌*◌, ◌-◌, ◌≤◌, ◌<◌}
use mathlib.Core.Bool.{Bool, true, false, cond, not, ◌||◌}
use mathlib.Core.List.{List, [], ◌∷◌, ◌++◌}
use mathlib.Core.Option.{Option, none, some}
use mathlib.Core.Path.{◌≡◌, refl, sym, ap, ◌∙◌}
use Rattle.std.specs.Prelude.{Option as Answer, Some, None, Result, Ok, Err}
use Rattle.formats.specs.declared.TooWide.{TooWide}
use Rattle.std.proofs.lemmas.Option.{same_Some}
use native.Mathlib.Omega.{arith}
use native.Mathlib.Nat.{zero-add}
use lib.Seq.{take_at}
use lib.ListN.{length, take, get_or}
use lib.Dec.{eqb}
use borrow.Author.Tests.{lt-ltb, le-ltb, eq-eqb, ne_eqb, eqb-true, eqb-false}
use Rattle.names.specs.Name.{folded, same_bytes}
use Rattle.names.proofs.Laws.{same_sound, same_refl}
use Rattle.file.specs.Word.{word_at}
use Rattle.file.specs.Sections.{File, file_of}
use Rattle.law.specs.Tree.{Sentences, Function, Law, keep}
use Rattle.law.specs.Definition.{definition}
use Rattle.law.specs.Places.{sentences_of, first_sentence, pattern_at, pattern_part}
use Rattle.law.specs.Reading.{tree_of, sentences_at, own}
use Rattle.law.specs.Expression.{Terms}
use Rattle.law.specs.Code.Index.{Indexed, Readable, PartAt}
use Rattle.law.proofs.Functions.{function_at, functions_at, tree_functions_lem, functions_end, function_reads, kept_reads}
use Rattle.law.proofs.IndexLaws as indexed
use Rattle.law.proofs.PlaceLaws as places
use Rattle.shapes.specs.Format.{Shapes, of, size}
use Rattle.shapes.specs.Disjoint.{disjoint_formats}
use Rattle.shapes.specs.Words.{read_format}
use Rattle.shapes.proofs.WordLaws.{read_write}
use Rattle.formats.specs.Infer.{find}
use Rattle.formats.specs.Code.Rows.{format_at, part_shapes}
use Rattle.formats.specs.Code.Turns.{FormatMade, results_in}
use Rattle.formats.proofs.EntryLaws.{found_at}
use Rattle.formats.proofs.StateLaws.{read_argument_format}
use Rattle.formats.proofs.SentenceLaws.{arguments_said, made_fits, made_passes, made_words}
use Rattle.formats.specs.declared.slots.Slots.{Slots}
use Rattle.formats.specs.Code.Slots.{position, function_folded, call_folded, file_names, SlotsOf}
use Rattle.formats.proofs.SlotLaws.{function_placed}
use Rattle.law.specs.Symbol.{Symbol}
use Rattle.matching.specs.Literal.{is_literal, literal_terms, literal_matches}
use Rattle.matching.specs.Code.Part.{row_of, literal_part, symbols_of}
use Rattle.sentences.specs.Entry.{argument_part, argument_in}
use Rattle.matching.proofs.PartLaws.{row_run}
use Rattle.searches.proofs.LiteralParts.{part_literal, part_symbols}
use Rattle.lints.specs.Recognition.{some_matches, compared_with, compared, passed, accepted}
use Rattle.lints.specs.Code.Records.{Prepared, formats_in, call_at}
use Rattle.lints.specs.Code.Verdicts.{Verdict, Wide, ByFormats, ByLiterals, Nothing, verdict_of, last_placed, function_sentences, comparison}
use Rattle.lints.proofs.ArgumentParts.{argument_here}

-- ---- the last definition of a name

-- no function defines nothing; the first of some functions does where no later one does
undefined : (name : List ℕ) → definition [] name ≡ none
unfolding definition
undefined name = refl

definition_first : (d : Function) (ds : Law) (name : List ℕ) → definition ds name ≡ none
    → definition (d ∷ ds) name ≡ cond (same_bytes (folded d.name.spelled) name) (some d.sentences) none
unfolding definition
definition_first d ds name h = rw (h, definition)

definition_later : (d : Function) (ds : Law) (name : List ℕ) (ss : Sentences) → definition ds name ≡ some ss → definition (d ∷ ds) name ≡ some ss
unfolding definition
definition_later d ds name ss h = rw (h, definition)

-- names of one place are the same
place_same : (ns : List (List ℕ)) (a b : List ℕ) → position ns a ≡ position ns b → position ns a < length ns → a ≡ b
unfolding position
place_same [] a b e l = absurd (omega arith)
place_same (m ∷ ms) a b e l = go (same_bytes m a) refl (same_bytes m b) refl e l (place_same ms a b)
  where
    go : (x : Bool) → same_bytes m a ≡ x → (y : Bool) → same_bytes m b ≡ y → ◌≡◌ {A = ℕ} (cond x 0 (suc (position ms a))) (cond y 0 (suc (position ms b)))
        → cond x 0 (suc (position ms a)) < suc (length ms) → (position ms a ≡ position ms b → position ms a < length ms → a ≡ b) → a ≡ b
    go true p true q e l ih = cc (same_sound m a p, same_sound m b q)
    go true p false q e l ih = absurd (omega arith)
    go false p true q e l ih = absurd (omega arith)
    go false p false q e l ih = ih (omega arith) (omega arith)

module _ (file : File) (name : List ℕ) where
  -- a function of another name, before functions of other names
  definition_other : (f : ℕ) → f < file.functions.count → same_bytes (function_folded file f) name ≡ false → definition (functions_at file (suc f)) name ≡ none
      → definition (functions_at file f) name ≡ none
  definition_other f l d later = rw (function_reads file f l, definition_first (function_at file f) (functions_at file (suc f)) name later, d)

  -- one of this name
  definition_here : (f : ℕ) → f < file.functions.count → function_folded file f ≡ name → definition (functions_at file (suc f)) name ≡ none
      → definition (functions_at file f) name ≡ some (function_sentences file f)
  definition_here f l e later = rw (function_reads file f l, definition_first (function_at file f) (functions_at file (suc f)) name later, e, same_refl name)

  -- functions before a definition do not matter
  definition_before : (k f : ℕ) (ss : Sentences) → f + k ≤ file.functions.count → definition (functions_at file (f + k)) name ≡ some ss
      → definition (functions_at file f) name ≡ some ss
  definition_before zero f ss l h =
      let here : f + 0 ≡ f = omega arith in
      rw here at h
  definition_before (suc k) f ss l h =
      let next : f + suc k ≡ suc f + k = omega arith in
      rw (function_reads file f (omega arith))
      (definition_later (function_at file f) (functions_at file (suc f)) name ss (definition_before k (suc f) ss (omega arith) (rw next at h)))

  -- what the function that was found defines
  abbrev defined_by : Answer ℕ → Option Sentences
  defined_by None = none
  defined_by (Some f) = some (function_sentences file f)

  module _ (slots : Slots) (place : ℕ) (places : SlotsOf file slots) (is : place ≡ position (file_names file) name) where
    -- the last of the first n functions whose name has the place, where no later function defines the name
    last_defined : (n : ℕ) → n ≤ file.functions.count → definition (functions_at file n) name ≡ none
        → definition (tree_of file) name ≡ defined_by (last_placed slots place n)
    unfolding last_placed
    last_defined zero l h = rw (tree_functions_lem file, h)
    last_defined (suc n) l h = go (eqb (get_or slots.functions n 0) place) refl (last_defined n)
      where
        here : get_or slots.functions n 0 ≡ position (file_names file) (function_folded file n)
        here = places.functions n (omega arith)

        other : eqb (get_or slots.functions n 0) place ≡ false → (b : Bool) → same_bytes (function_folded file n) name ≡ b → same_bytes (function_folded file n) name ≡ false
        other d true e = absurd (eqb-false (get_or slots.functions n 0) place d (here ∙ ap (position (file_names file)) (same_sound (function_folded file n) name e) ∙ sym is))
        other d false e = e

        go : (b : Bool) → eqb (get_or slots.functions n 0) place ≡ b
            → (n ≤ file.functions.count → definition (functions_at file n) name ≡ none → definition (tree_of file) name ≡ defined_by (last_placed slots place n))
            → definition (tree_of file) name ≡ defined_by (cond b (Some n) (last_placed slots place n))
        go true e ih =
            let same : function_folded file n ≡ name =
            place_same (file_names file) (function_folded file n) name (sym here ∙ (eqb-true (get_or slots.functions n 0) place e ∙ is)) (function_placed file n (omega arith)) in
            rw (tree_functions_lem file)
            (definition_before n 0 (function_sentences file n) (omega arith) (rw zero-add (definition_here n (omega arith) same h)))
        go false e ih = ih (omega arith) (definition_other n (omega arith) (other e (same_bytes (function_folded file n) name) refl) h)

    -- of all functions
    pub last_of_all : {count : ℕ} {f : Answer ℕ} → count ≡ file.functions.count → f ≡ last_placed slots place count → definition (tree_of file) name ≡ defined_by f
    last_of_all {count} {f} e q =
        rw (q, e)
        (last_defined file.functions.count (omega arith) (rw (functions_end file file.functions.count (omega arith)) (undefined name)))

-- a function that was found is one of these, and has the place
last_found : (slots : Slots) (place f n : ℕ) → last_placed slots place n ≡ Some f → (f < n) × (get_or slots.functions f 0 ≡ place)
unfolding last_placed
last_found slots place f zero e = cc
last_found slots place f (suc n) e = go (eqb (get_or slots.functions n 0) place) refl e (last_found slots place f n)
  where
    go : (b : Bool) → eqb (get_or slots.functions n 0) place ≡ b → cond b (Some n) (last_placed slots place n) ≡ Some f
        → (last_placed slots place n ≡ Some f → (f < n) × (get_or slots.functions f 0 ≡ place)) → (f < suc n) × (get_or slots.functions f 0 ≡ place)
    go true e q ih = let same : n ≡ f = same_Some n f q in rw (← same) (omega arith, eqb-true (get_or slots.functions n 0) place e)
    go false e q ih = (omega (arith, (ih q).0), (ih q).1)

-- the search from the last function down: the functions from f on have other places
pub last_here : (slots : Slots) (place f g : ℕ) → f ≡ suc g → get_or slots.functions g 0 ≡ place → Some g ≡ last_placed slots place f
unfolding last_placed
last_here slots place f g e h = rw (e, eq-eqb (get_or slots.functions g 0) place h)

pub last_next : (slots : Slots) (place f g : ℕ) → f ≡ suc g → (get_or slots.functions g 0 ≡ place → ⊥) → last_placed slots place f ≡ last_placed slots place g
unfolding last_placed
last_next slots place f g e h = rw (e, ne_eqb (get_or slots.functions g 0) place h)

pub last_none : (slots : Slots) (place f : ℕ) → f ≡ 0 → None ≡ last_placed slots place f
unfolding last_placed
last_none slots place f e = rw e

-- ---- the sentences that match a literal argument

module _ (file : File) where
  -- the argument of a call as a row
  pub argument_literal : (t : ℕ) → is_literal (argument_in file t) ≡ literal_part (argument_part file t)
  unfolding argument_in
  argument_literal t = part_literal file.text.records (own file) (t + 1) (argument_part file t)

  pub literal_read : (t : ℕ) {part : List ℕ} {r : Bool} → part ≡ argument_part file t → r ≡ literal_part part → r ≡ is_literal (argument_in file t)
  literal_read t same e = e ∙ (ap literal_part same ∙ sym (argument_literal t))

  pub argument_symbols : (t : ℕ) → literal_terms (argument_in file t) ≡ symbols_of file.text.records (argument_part file t)
  unfolding argument_in
  argument_symbols t = part_symbols file.text.records (own file) (t + 1) (argument_part file t)

  module _ (readable : Readable file) (x : Terms Symbol) where
    -- no sentence is left
    matches_none : (n s : ℕ) → n ≡ 0 → some_matches (keep n (sentences_at file s)) x ≡ false
    unfolding keep some_matches
    matches_none n s e = rw e

    -- the first of the sentences left, and those after it
    matches_first : (n m s : ℕ) → s < file.sentences.count → n ≡ suc m
        → some_matches (keep n (sentences_at file s)) x
        ≡ literal_matches (row_of file.text.records (pattern_part file s)) x || some_matches (keep m (sentences_at file (suc s))) x
    unfolding some_matches
    matches_first n m s l e =
        rw (e, kept_reads file readable m s l, row_run file.text.records (own file) (pattern_at file s) (pattern_part file s))

-- some sentence of the function f matches if one of those left does: those from s on, up to an end
pub record MatchesLeft (file : File) (f : ℕ) (x : Terms Symbol) (s stop : ℕ) : Type 0 where
  pub few : stop ≤ file.sentences.count
  pub left : some_matches (function_sentences file f) x ≡ some_matches (keep (stop - s) (sentences_at file s)) x

module _ {bytes index : List ℕ} (is : Indexed bytes index) (f : ℕ) (inside : f < (file_of bytes).functions.count) where
  -- the functions are few
  pub function_few : f + 1 ≤ 64
  function_few = omega (arith, indexed.functions_limit bytes index is)

  -- all its sentences are left
  pub matches_start : {x : Terms Symbol} (s stop : ℕ) → s ≡ get_or index (8 + f) 0 → stop ≡ get_or index (8 + (f + 1)) 0 → MatchesLeft (file_of bytes) f x s stop
  matches_start s stop p q =
      let start : s ≡ first_sentence (file_of bytes) f = p ∙ is.words.first_sentences f (omega arith) in
      let number : stop - s ≡ sentences_of (file_of bytes) f = omega (arith, indexed.sentences_before bytes index is f inside) in
      record {
        few = omega (arith, indexed.sentences_before bytes index is f inside, places.function_inside (file_of bytes) is.used f inside);
        left = rw (number, start);
      }

module _ {file : File} {f s stop : ℕ} (t : ℕ) (m : MatchesLeft file f (literal_terms (argument_in file t)) s stop) (readable : Readable file) where
  -- the next sentence, as the code asks about it
  matches_step : {r : Bool} → s < stop → r ≡ literal_matches (row_of file.text.records (pattern_part file s)) (symbols_of file.text.records (argument_part file t))
      → some_matches (function_sentences file f) (literal_terms (argument_in file t))
      ≡ r || some_matches (keep (stop - (s + 1)) (sentences_at file (s + 1))) (literal_terms (argument_in file t))
  matches_step {r} l e =
      let one : s + 1 ≡ suc s = omega arith in
      m.left
      ∙ (matches_first file readable (literal_terms (argument_in file t)) (stop - s) (stop - (s + 1)) s (omega (arith, m.few)) (omega arith)
      ∙ rw (e, one, argument_symbols file t))

  -- it matches
  pub matches_here : {r : Bool} → s < stop → r ≡ literal_matches (row_of file.text.records (pattern_part file s)) (symbols_of file.text.records (argument_part file t))
      → r ≡ true → true ≡ some_matches (function_sentences file f) (literal_terms (argument_in file t))
  matches_here l e holds = sym (matches_step l e ∙ rw holds)

  -- it does not
  pub matches_next : {r : Bool} → s < stop → r ≡ literal_matches (row_of file.text.records (pattern_part file s)) (symbols_of file.text.records (argument_part file t))
      → r ≡ false → MatchesLeft file f (literal_terms (argument_in file t)) (s + 1) stop
  matches_next l e fails = record { few = m.few; left = matches_step l e ∙ rw fails }

  -- none is left
  pub matches_end : stop ≤ s → false ≡ some_matches (function_sentences file f) (literal_terms (argument_in file t))
  matches_end l = sym (m.left ∙ matches_none file readable (literal_terms (argument_in file t)) (stop - s) s (omega arith))

-- ---- the formats that are compared

module _ {bytes index : List ℕ} {slots : Slots} {store : List ℕ} {limit : ℕ} (p : Prepared bytes index slots store limit) (t : ℕ) where
  -- the argument is a part of the term records
  pub argument_asked : {at : ℕ} {part : List ℕ} → t < (file_of bytes).terms.count → at ≡ t + 1 → part ≡ argument_part (file_of bytes) t → PartAt (file_of bytes) at part
  argument_asked l e same = argument_here (file_of bytes) p.asked.readable l e same

  -- the format that is made of it
  pub argument_made : {at : ℕ} {part words : List ℕ} {ok : Result (Unit {0}) TooWide} → at ≡ t + 1 → part ≡ argument_part (file_of bytes) t
      → FormatMade limit (part_shapes (file_of bytes) (find (results_in limit (file_names (file_of bytes)) store)) at part) ok words
      → FormatMade limit (passed (formats_in (file_of bytes) limit store) (call_at (file_of bytes) t)) ok words
  unfolding argument_in
  argument_made e same made = rw (e, same) at made

  -- the argument has too many shapes
  pub compared_wide : {words : List ℕ} {ok : Result (Unit {0}) TooWide} → FormatMade limit (passed (formats_in (file_of bytes) limit store) (call_at (file_of bytes) t)) ok words
      → ok ≡ Err (record {}) → Wide ≡ comparison limit (formats_in (file_of bytes) limit store) (call_at (file_of bytes) t)
  unfolding comparison
  compared_wide made bad = rw (lt-ltb limit (size (passed (formats_in (file_of bytes) limit store) (call_at (file_of bytes) t))) (made_passes made bad))

  module _ {place : ℕ} (is : place ≡ position (file_names (file_of bytes)) (call_folded (file_of bytes) t)) (inside : place < length (file_names (file_of bytes))) where
    -- the format that is accepted is in the store
    accepted_is : accepted (formats_in (file_of bytes) limit store) (call_at (file_of bytes) t) ≡ read_format (format_at limit store (2 * place))
    accepted_is =
        let h = p.holding.holds in
        let few : limit ≤ 127 = omega (arith, p.asked.small) in
        rw (arguments_said h few)
        (found_at (file_names (file_of bytes)) p.holding.arguments (call_folded (file_of bytes) t) place h.entries.argument_names is ∙ sym (read_argument_format h place inside few))

    module _ {words : List ℕ} (rest : List ℕ) {ok : Result (Unit {0}) TooWide} (made : FormatMade limit (passed (formats_in (file_of bytes) limit store) (call_at (file_of bytes) t)) ok words)
        (good : ok ≡ Ok tt) {stored : List ℕ} (read : stored ≡ format_at limit store (2 * place))
        {r literal : Bool} (test : r ≡ disjoint_formats (read_format (take (limit + 1) (words ++ rest))) (read_format stored))
        (known : literal ≡ is_literal (argument_in (file_of bytes) t)) where
      compared_is : cond r ByFormats (cond literal ByLiterals Nothing) ≡ comparison limit (formats_in (file_of bytes) limit store) (call_at (file_of bytes) t)
      unfolding comparison
      compared_is =
          let shapes : Shapes = passed (formats_in (file_of bytes) limit store) (call_at (file_of bytes) t) in
          let fits : size shapes ≤ limit = made_fits made good in
          let new : read_format (take (limit + 1) (words ++ rest)) ≡ of shapes =
          ap read_format (take_at words rest (limit + 1) made.kept ∙ made_words made good) ∙ read_write limit (of shapes) fits (omega (arith, p.asked.small)) in
          let apart : r ≡ disjoint_formats (of shapes) (accepted (formats_in (file_of bytes) limit store) (call_at (file_of bytes) t)) =
          test ∙ rw (new, read, accepted_is) in
          rw (apart, known, le-ltb limit (size shapes) fits)

      pub compared_apart : r ≡ true → ByFormats ≡ comparison limit (formats_in (file_of bytes) limit store) (call_at (file_of bytes) t)
      compared_apart a = rw a at compared_is

      pub compared_literal : r ≡ false → literal ≡ true → ByLiterals ≡ comparison limit (formats_in (file_of bytes) limit store) (call_at (file_of bytes) t)
      compared_literal a b = rw (a, b) at compared_is

      pub compared_silent : r ≡ false → literal ≡ false → Nothing ≡ comparison limit (formats_in (file_of bytes) limit store) (call_at (file_of bytes) t)
      compared_silent a b = rw (a, b) at compared_is

-- ---- the verdict

-- a literal argument is compared where no sentence matches it
module _ (file : File) (f t : ℕ) {literal : Bool} (known : literal ≡ is_literal (argument_in file t)) where
  pub compared_matched : {r : Bool} → literal ≡ true → r ≡ some_matches (function_sentences file f) (literal_terms (argument_in file t))
      → not r ≡ compared_with (some (function_sentences file f)) (argument_in file t)
  compared_matched e q = rw (q, ← known, e)

  -- the argument that the code asks about
  pub literal_known : literal ≡ true → is_literal (argument_in file t) ≡ true
  literal_known e = sym known ∙ e

module _ {bytes index : List ℕ} {slots : Slots} {store : List ℕ} {limit : ℕ} (p : Prepared bytes index slots store limit) (t : ℕ) (inside : t < (file_of bytes).terms.count)
    (kind : word_at (file_of bytes).terms.records (24 * t) ≡ 7) {place count : ℕ} (at_slot : place ≡ get_or slots.calls t 0) (all : count ≡ get_or index 4 0) where
  count_is : count ≡ (file_of bytes).functions.count
  count_is = all ∙ p.asked.indexed.words.functions

  -- the place of its name
  pub place_is : place ≡ position (file_names (file_of bytes)) (call_folded (file_of bytes) t)
  place_is = at_slot ∙ p.asked.places.calls t inside kind

  defined : {found : Answer ℕ} → found ≡ last_placed slots place count
      → definition (tree_of (file_of bytes)) (call_folded (file_of bytes) t) ≡ defined_by (file_of bytes) (call_folded (file_of bytes) t) found
  defined last = last_of_all (file_of bytes) (call_folded (file_of bytes) t) slots place p.asked.places place_is count_is last

  -- its function is not defined
  pub verdict_undefined : None ≡ last_placed slots place count
      → Nothing ≡ verdict_of limit (tree_of (file_of bytes)) (formats_in (file_of bytes) limit store) (call_at (file_of bytes) t)
  unfolding verdict_of compared
  verdict_undefined last = rw (defined last)

  module _ {f : ℕ} (last : Some f ≡ last_placed slots place count) where
    pub function_here_lem : f < (file_of bytes).functions.count
    function_here_lem = omega (arith, (last_found slots place f count (sym last)).0, count_is)

    -- the place is one of the names'
    pub place_inside : place < length (file_names (file_of bytes))
    place_inside =
        let here : get_or slots.functions f 0 ≡ place = (last_found slots place f count (sym last)).1 in
        rw (← here, p.asked.places.functions f function_here_lem) (function_placed (file_of bytes) f function_here_lem)

    compared_here : {r : Bool} → r ≡ compared_with (some (function_sentences (file_of bytes) f)) (argument_in (file_of bytes) t)
        → compared (tree_of (file_of bytes)) (call_at (file_of bytes) t) ≡ r
    unfolding compared
    compared_here e = rw (defined last) (sym e)

    -- it is not compared
    pub verdict_silent : {r : Bool} → r ≡ compared_with (some (function_sentences (file_of bytes) f)) (argument_in (file_of bytes) t) → r ≡ false
        → Nothing ≡ verdict_of limit (tree_of (file_of bytes)) (formats_in (file_of bytes) limit store) (call_at (file_of bytes) t)
    unfolding verdict_of
    verdict_silent e q = rw (compared_here e, q)

    -- it is compared
    pub verdict_compared : {r : Bool} {v : Verdict} → r ≡ compared_with (some (function_sentences (file_of bytes) f)) (argument_in (file_of bytes) t) → r ≡ true
        → v ≡ comparison limit (formats_in (file_of bytes) limit store) (call_at (file_of bytes) t)
        → v ≡ verdict_of limit (tree_of (file_of bytes)) (formats_in (file_of bytes) limit store) (call_at (file_of bytes) t)
    unfolding verdict_of comparison
    verdict_compared e q is = is ∙ rw (compared_here e, q)

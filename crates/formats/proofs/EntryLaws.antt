-- Laws of entries by number (specs/Code/Entries.antt): names stand where they stood, a name's format is that of the entry at the name's position, and one step
-- of each loop of inference (specs/Infer.antt): over sentences, over functions, over rounds; and what is known of inference that was not refused.
use Prim.Native.Nat.{ℕ, zero, suc, ◌-◌, ◌≤◌, ◌<◌}
use mathlib.Core.Bool.{Bool, true, false, cond, not, ◌||◌, or-true, or-false}
use mathlib.Core.List.{List, [], ◌∷◌}
use mathlib.Core.Option.{none, some}
use mathlib.Core.Path.{◌≡◌, refl, sym, ap, ◌∙◌}
use native.Mathlib.Omega.{arith}
use lib.ListN.{length}
use lib.Dec.{ltb}
use borrow.Author.Tests.{ltb-false, lt-ltb, le-ltb}
use Rattle.names.specs.Name.{folded, same_bytes}
use Rattle.file.specs.Sections.{File}
use Rattle.file.specs.Answer.{Answer, refused, given}
use Rattle.file.proofs.Answers.{bind_given, pass_given}
use Rattle.law.specs.Tree.{Sentences, no_sentence, sentence, Function, Law, keep}
use Rattle.law.specs.Places.{sentences_of, first_sentence, pattern_at, pattern_part, result_at, result_part}
use Rattle.law.specs.Reading.{run_of, own, sentences_at}
use Rattle.law.specs.Code.Index.{Readable}
use Rattle.law.proofs.Functions.{functions_at, functions_end, function_reads, kept_reads}
use Rattle.shapes.specs.Format.{Shapes, Format, never, of, size}
use Rattle.shapes.specs.Join.{join_formats}
use Rattle.shapes.specs.Same.{same_format}
use Rattle.shapes.specs.Words.{Encodable}
use Rattle.shapes.proofs.FormatLaws.{join_encodable}
use Rattle.shapes.proofs.SameLaws.{same_equal}
use Rattle.formats.specs.FormatOf.{pattern_shapes, Results, result_shapes}
use Rattle.formats.specs.Infer.{Entry, names_of, find, renew, or_never, all_at, join_results, join_patterns, round, Rounds, rounds_from, round_limit, arguments, infer_within, infer}
use Rattle.formats.specs.Code.Entries.{entry_names, format_in, put, EachEntry}
use Rattle.formats.specs.Code.Slots.{position, function_folded}
use Rattle.formats.specs.Code.Turns.{arguments_stop, round_stop, rounds_stop}

-- ---- names

-- all names at one format have these names
pub names_all_at : (f : Format) (ns : List (List ℕ)) → entry_names (all_at f ns) ≡ ns
unfolding all_at
names_all_at f [] = refl
names_all_at f (n ∷ ns) = rw (names_all_at f ns)

-- a changed format changes no name
pub names_put : (p : ℕ) (f : Format) (es : List Entry) → entry_names (put p f es) ≡ entry_names es
unfolding put
names_put p f [] = refl
names_put zero f (e ∷ es) = refl
names_put (suc p) f (e ∷ es) = rw (names_put p f es)

-- as many names as entries
pub names_length : (es : List Entry) → length (entry_names es) ≡ length es
names_length [] = refl
names_length (e ∷ es) = rw (names_length es)

-- as many entries as before
pub put_length : (p : ℕ) (f : Format) (es : List Entry) → length (put p f es) ≡ length es
put_length p f es = sym (names_length (put p f es)) ∙ rw (names_put p f es) (names_length es)

-- as many entries as names
pub all_at_length : (f : Format) (ns : List (List ℕ)) → length (all_at f ns) ≡ length ns
all_at_length f ns = sym (names_length (all_at f ns)) ∙ rw (names_all_at f ns)

-- ---- the entry of a name is the one at the name's position

-- the format of a name is changed at its position
pub renew_put : (n : List ℕ) (f : Format) (es : List Entry) → renew n f es ≡ put (position (entry_names es) n) f es
unfolding renew put position
renew_put n f [] = refl
renew_put n f (e ∷ es) = go (same_bytes e.name n) (renew_put n f es)
  where
    go : (b : Bool) → renew n f es ≡ put (position (entry_names es) n) f es
        → cond b (record { name = e.name; format = f } ∷ es) (e ∷ renew n f es) ≡ put (cond b 0 (suc (position (entry_names es) n))) f (e ∷ es)
    go true h = refl
    go false h = rw h

-- the names stay where they stood
pub names_renew : (n : List ℕ) (f : Format) (es : List Entry) → entry_names (renew n f es) ≡ entry_names es
names_renew n f es = rw (renew_put n f es) (names_put (position (entry_names es) n) f es)

-- a name that is there is found with the format at its position
pub find_some : (es : List Entry) (n : List ℕ) → position (entry_names es) n < length es → find es n ≡ some (format_in es (position (entry_names es) n))
unfolding find format_in position
find_some [] n h = absurd (omega arith)
find_some (e ∷ es) n h = go (same_bytes e.name n) h (find_some es n)
  where
    go : (b : Bool) → cond b 0 (suc (position (entry_names es) n)) < suc (length es)
        → (position (entry_names es) n < length es → find es n ≡ some (format_in es (position (entry_names es) n)))
        → cond b (some e.format) (find es n) ≡ some (format_in (e ∷ es) (cond b 0 (suc (position (entry_names es) n))))
    go true k ih = refl
    go false k ih = ih (omega arith)

-- a name that is not there is not found
pub find_none : (es : List Entry) (n : List ℕ) → length es ≤ position (entry_names es) n → find es n ≡ none
unfolding find position
find_none [] n h = refl
find_none (e ∷ es) n h = go (same_bytes e.name n) h (find_none es n)
  where
    go : (b : Bool) → suc (length es) ≤ cond b 0 (suc (position (entry_names es) n)) → (length es ≤ position (entry_names es) n → find es n ≡ none)
        → cond b (some e.format) (find es n) ≡ none
    go true k ih = absurd (omega arith)
    go false k ih = ih (omega arith)

-- there or not, with never where it is not
pub found_or_never : (es : List Entry) (n : List ℕ) → or_never (find es n) ≡ format_in es (position (entry_names es) n)
unfolding find format_in position
found_or_never [] n = refl
found_or_never (e ∷ es) n = go (same_bytes e.name n) (found_or_never es n)
  where
    go : (b : Bool) → or_never (find es n) ≡ format_in es (position (entry_names es) n)
        → or_never (cond b (some e.format) (find es n)) ≡ format_in (e ∷ es) (cond b 0 (suc (position (entry_names es) n)))
    go true h = refl
    go false h = h

-- at a place that is known to be the name's position
module _ (names : List (List ℕ)) (es : List Entry) (n : List ℕ) (p : ℕ) (same : entry_names es ≡ names) (place : p ≡ position names n) where
  -- the position by the entries' own names
  at_place : position (entry_names es) n ≡ p
  at_place = rw same (sym place)

  -- the format that is found stands there
  pub found_at : or_never (find es n) ≡ format_in es p
  found_at = found_or_never es n ∙ rw at_place

  -- it is changed there
  pub renew_at : (f : Format) → renew n f es ≡ put p f es
  renew_at f = renew_put n f es ∙ rw at_place

-- ---- formats by number

-- the changed format
pub format_put : (p : ℕ) (f : Format) (es : List Entry) → p < length es → format_in (put p f es) p ≡ f
unfolding format_in put
format_put p f [] h = absurd (omega arith)
format_put zero f (e ∷ es) h = refl
format_put (suc p) f (e ∷ es) h = format_put p f es (omega arith)

-- a format changed to itself
pub put_same : (p : ℕ) (es : List Entry) → put p (format_in es p) es ≡ es
unfolding format_in put
put_same p [] = refl
put_same zero (e ∷ es) = refl
put_same (suc p) (e ∷ es) = rw (put_same p es)

-- at the start every format is never
pub format_all_at : (ns : List (List ℕ)) (p : ℕ) → format_in (all_at never ns) p ≡ never
unfolding format_in all_at
format_all_at [] p = refl
format_all_at (n ∷ ns) zero = refl
format_all_at (n ∷ ns) (suc p) = format_all_at ns p

-- ---- the store has words for every format: one step

-- the entries at the start
pub all_at_encodable : (limit : ℕ) (ns : List (List ℕ)) → EachEntry (Encodable limit) (all_at never ns)
unfolding all_at
all_at_encodable limit [] = tt
all_at_encodable limit (n ∷ ns) = (omega arith, all_at_encodable limit ns)

-- the entries after a change
pub put_encodable : (limit p : ℕ) (f : Format) (es : List Entry) → Encodable limit f → EachEntry (Encodable limit) es → EachEntry (Encodable limit) (put p f es)
unfolding put
put_encodable limit p f [] h each = tt
put_encodable limit zero f (e ∷ es) h each = (h, each.1)
put_encodable limit (suc p) f (e ∷ es) h each = (each.0, put_encodable limit p f es h each.1)

-- a format by number
pub format_encodable : (limit : ℕ) (es : List Entry) (p : ℕ) → EachEntry (Encodable limit) es → Encodable limit (format_in es p)
unfolding format_in
format_encodable limit [] p each = omega arith
format_encodable limit (e ∷ es) zero each = each.0
format_encodable limit (e ∷ es) (suc p) each = format_encodable limit es p each.1

-- ---- the sentences of a function, from s on

module _ (file : File) where
  -- the shapes of a sentence's result, by the results found so far
  abbrev pub result_row : Results → ℕ → Shapes
  result_row t s = result_shapes t (run_of file (own file) (result_at file s) (result_part file s))

  -- the shapes of a sentence's pattern
  abbrev pub pattern_row : ℕ → Shapes
  pattern_row s = pattern_shapes (run_of file (own file) (pattern_at file s) (pattern_part file s))

module _ (limit : ℕ) (file : File) where
  -- the result of the first of the sentences left fits: it is joined to what was joined before
  pub results_next : (t : Results) (g : Format) (left s next after : ℕ) → Readable file → s < file.sentences.count → left ≡ suc next → after ≡ suc s
      → size (result_row file t s) ≤ limit
      → join_results limit t g (keep left (sentences_at file s)) ≡ join_results limit t (join_formats g (of (result_row file t s))) (keep next (sentences_at file after))
  unfolding join_results
  results_next t g left s next after readable inside l a fits =
      rw (l, a, kept_reads file readable next s inside, le-ltb limit (size (result_row file t s)) fits)

  -- it does not fit: refused
  pub results_over : (t : Results) (g : Format) (left s : ℕ) → Readable file → s < file.sentences.count → 0 < left
      → limit < size (result_row file t s) → join_results limit t g (keep left (sentences_at file s)) ≡ refused 10
  unfolding join_results
  results_over t g left s readable inside some_left over =
      let l : left ≡ suc (left - 1) = omega arith in
      rw (l, kept_reads file readable (left - 1) s inside, lt-ltb limit (size (result_row file t s)) over)

  -- no sentence is left
  pub results_end : (t : Results) (g : Format) (left s : ℕ) → left ≡ 0 → join_results limit t g (keep left (sentences_at file s)) ≡ given g
  unfolding join_results keep
  results_end t g left s l = rw l

  -- the pattern of the first of the sentences left fits: it is joined to what was joined before
  pub patterns_next : (g : Format) (left s next after : ℕ) → Readable file → s < file.sentences.count → left ≡ suc next → after ≡ suc s
      → size (pattern_row file s) ≤ limit
      → join_patterns limit g (keep left (sentences_at file s)) ≡ join_patterns limit (join_formats g (of (pattern_row file s))) (keep next (sentences_at file after))
  unfolding join_patterns
  patterns_next g left s next after readable inside l a fits =
      rw (l, a, kept_reads file readable next s inside, le-ltb limit (size (pattern_row file s)) fits)

  -- it does not fit: refused
  pub patterns_over : (g : Format) (left s : ℕ) → Readable file → s < file.sentences.count → 0 < left
      → limit < size (pattern_row file s) → join_patterns limit g (keep left (sentences_at file s)) ≡ refused 10
  unfolding join_patterns
  patterns_over g left s readable inside some_left over =
      let l : left ≡ suc (left - 1) = omega arith in
      rw (l, kept_reads file readable (left - 1) s inside, lt-ltb limit (size (pattern_row file s)) over)

  -- no sentence is left
  pub patterns_end : (g : Format) (left s : ℕ) → left ≡ 0 → join_patterns limit g (keep left (sentences_at file s)) ≡ given g
  unfolding join_patterns keep
  patterns_end g left s l = rw l

-- ---- the functions of a law, from f on

module _ (limit : ℕ) (file : File) where
  -- the join of the results of function f, by the entries found so far
  abbrev pub function_results : List Entry → ℕ → Answer Format
  function_results es f = join_results limit (find es) never (keep (sentences_of file f) (sentences_at file (first_sentence file f)))

  -- the join of its patterns
  abbrev pub function_patterns : ℕ → Answer Format
  function_patterns f = join_patterns limit never (keep (sentences_of file f) (sentences_at file (first_sentence file f)))

  -- the join of the results of function f is given: it is joined to the format at its name's position
  pub round_next : (names : List (List ℕ)) (es : List Entry) (f after p : ℕ) (changed : Bool) (g : Format) → f < file.functions.count → after ≡ suc f
      → entry_names es ≡ names → p ≡ position names (function_folded file f) → function_results es f ≡ given g
      → round limit (functions_at file f) es changed
      ≡ round limit (functions_at file after) (put p (join_formats (format_in es p) g) es) (changed || not (same_format (join_formats (format_in es p) g) (format_in es p)))
  unfolding round
  round_next names es f after p changed g inside a same place is =
      rw (function_reads file f inside, is, a, found_at names es (function_folded file f) p same place)
      (ap (λ now. round limit (functions_at file (suc f)) now (changed || not (same_format (join_formats (format_in es p) g) (format_in es p))))
      (renew_at names es (function_folded file f) p same place (join_formats (format_in es p) g)))

  -- nothing new: the entries stay the same
  pub round_same : (names : List (List ℕ)) (es : List Entry) (f after p : ℕ) (changed : Bool) (g : Format) → f < file.functions.count → after ≡ suc f
      → entry_names es ≡ names → p ≡ position names (function_folded file f) → function_results es f ≡ given g
      → same_format (join_formats (format_in es p) g) (format_in es p) ≡ true
      → round limit (functions_at file f) es changed ≡ round limit (functions_at file after) es changed
  round_same names es f after p changed g inside a same place is quiet =
      round_next names es f after p changed g inside a same place is
      ∙ rw (quiet, same_equal (join_formats (format_in es p) g) (format_in es p) quiet, put_same p es, or-false changed)

  -- something new: the round has changed a format
  pub round_changed : (names : List (List ℕ)) (es : List Entry) (f after p : ℕ) (changed : Bool) (g : Format) → f < file.functions.count → after ≡ suc f
      → entry_names es ≡ names → p ≡ position names (function_folded file f) → function_results es f ≡ given g
      → same_format (join_formats (format_in es p) g) (format_in es p) ≡ false
      → round limit (functions_at file f) es changed ≡ round limit (functions_at file after) (put p (join_formats (format_in es p) g) es) true
  round_changed names es f after p changed g inside a same place is new =
      round_next names es f after p changed g inside a same place is ∙ rw (new, or-true changed)

  -- a result of function f does not fit: the refusal passes through
  pub round_over : (es : List Entry) (f : ℕ) (changed : Bool) (n : ℕ) → f < file.functions.count → function_results es f ≡ refused n
      → round limit (functions_at file f) es changed ≡ refused n
  unfolding round
  round_over es f changed n inside over = rw (function_reads file f inside, over)

  -- no function is left
  pub round_end : (es : List Entry) (f : ℕ) (changed : Bool) → file.functions.count ≤ f → round limit (functions_at file f) es changed ≡ given (es, changed)
  unfolding round
  round_end es f changed none_left = rw (functions_end file f none_left)

  -- the join of the patterns of function f is given: it is joined to the format at its name's position
  pub arguments_next : (names : List (List ℕ)) (es : List Entry) (f after p : ℕ) (g : Format) → f < file.functions.count → after ≡ suc f
      → entry_names es ≡ names → p ≡ position names (function_folded file f) → function_patterns f ≡ given g
      → arguments limit (functions_at file f) es ≡ arguments limit (functions_at file after) (put p (join_formats (format_in es p) g) es)
  unfolding arguments
  arguments_next names es f after p g inside a same place is =
      rw (function_reads file f inside, is, a, found_at names es (function_folded file f) p same place)
      (ap (λ now. arguments limit (functions_at file (suc f)) now) (renew_at names es (function_folded file f) p same place (join_formats (format_in es p) g)))

  -- a pattern of function f does not fit: the refusal passes through
  pub arguments_over_lem : (es : List Entry) (f n : ℕ) → f < file.functions.count → function_patterns f ≡ refused n
      → arguments limit (functions_at file f) es ≡ refused n
  unfolding arguments
  arguments_over_lem es f n inside over = rw (function_reads file f inside, over)

  -- no function is left
  pub arguments_end : (es : List Entry) (f : ℕ) → file.functions.count ≤ f → arguments limit (functions_at file f) es ≡ given es
  unfolding arguments
  arguments_end es f none_left = rw (functions_end file f none_left)

  -- where they stop: by the same steps
  pub arguments_stop_next : (names : List (List ℕ)) (es : List Entry) (f after p : ℕ) (g : Format) → f < file.functions.count → after ≡ suc f
      → entry_names es ≡ names → p ≡ position names (function_folded file f) → function_patterns f ≡ given g
      → arguments_stop limit (functions_at file f) es ≡ arguments_stop limit (functions_at file after) (put p (join_formats (format_in es p) g) es)
  unfolding arguments_stop
  arguments_stop_next names es f after p g inside a same place is =
      rw (function_reads file f inside, is, a, found_at names es (function_folded file f) p same place)
      (ap (λ now. arguments_stop limit (functions_at file (suc f)) now) (renew_at names es (function_folded file f) p same place (join_formats (format_in es p) g)))

  pub arguments_stop_over : (es : List Entry) (f n : ℕ) → f < file.functions.count → function_patterns f ≡ refused n
      → arguments_stop limit (functions_at file f) es ≡ es
  unfolding arguments_stop
  arguments_stop_over es f n inside over = rw (function_reads file f inside, over)

  pub round_stop_next : (names : List (List ℕ)) (es : List Entry) (f after p : ℕ) (g : Format) → f < file.functions.count → after ≡ suc f
      → entry_names es ≡ names → p ≡ position names (function_folded file f) → function_results es f ≡ given g
      → round_stop limit (functions_at file f) es ≡ round_stop limit (functions_at file after) (put p (join_formats (format_in es p) g) es)
  unfolding round_stop
  round_stop_next names es f after p g inside a same place is =
      rw (function_reads file f inside, is, a, found_at names es (function_folded file f) p same place)
      (ap (λ now. round_stop limit (functions_at file (suc f)) now) (renew_at names es (function_folded file f) p same place (join_formats (format_in es p) g)))

  pub round_stop_over : (es : List Entry) (f n : ℕ) → f < file.functions.count → function_results es f ≡ refused n
      → round_stop limit (functions_at file f) es ≡ es
  unfolding round_stop
  round_stop_over es f n inside over = rw (function_reads file f inside, over)

-- ---- rounds

module _ (limit : ℕ) (law : Law) where
  -- one more round, which changes a format
  pub rounds_next : (left : ℕ) (es next : List Entry) (done left_after done-after : ℕ) → left ≡ suc left_after → done-after ≡ suc done
      → round limit law es false ≡ given (next, true)
      → rounds_from limit left law es done ≡ rounds_from limit left_after law next done-after
  unfolding rounds_from
  rounds_next left es next done left_after done-after l d is = rw (l, d, is)

  -- one more round, which changes nothing: it is the last
  pub rounds_quiet : (left : ℕ) (es next : List Entry) (done done-after : ℕ) → 0 < left → done-after ≡ suc done
      → round limit law es false ≡ given (next, false)
      → rounds_from limit left law es done ≡ given (record { results = next; rounds = done-after; settled = true })
  unfolding rounds_from
  rounds_quiet left es next done done-after some_left d is =
      let l : left ≡ suc (left - 1) = omega arith in
      rw (l, d, is)

  -- a round that is refused
  pub rounds_over : (left : ℕ) (es : List Entry) (done n : ℕ) → 0 < left → round limit law es false ≡ refused n → rounds_from limit left law es done ≡ refused n
  unfolding rounds_from
  rounds_over left es done n some_left over =
      let l : left ≡ suc (left - 1) = omega arith in
      rw (l, over)

  -- no round is left
  pub rounds_end : (left : ℕ) (es : List Entry) (done : ℕ) → left ≡ 0
      → rounds_from limit left law es done ≡ given (record { results = es; rounds = done; settled = false })
  unfolding rounds_from
  rounds_end left es done l = rw l

  -- where they stop: by the same steps
  pub rounds_stop_next : (left : ℕ) (es next : List Entry) (left_after : ℕ) → left ≡ suc left_after → round limit law es false ≡ given (next, true)
      → rounds_stop limit left law es ≡ rounds_stop limit left_after law next
  unfolding rounds_stop
  rounds_stop_next left es next left_after l is = rw (l, is)

  pub rounds_stop_over : (left : ℕ) (es : List Entry) (n : ℕ) → 0 < left → round limit law es false ≡ refused n → rounds_stop limit left law es ≡ round_stop limit law es
  unfolding rounds_stop
  rounds_stop_over left es n some_left over =
      let l : left ≡ suc (left - 1) = omega arith in
      rw (l, over)

  -- the whole: the arguments, then the rounds
  pub infer_given : (found : List Entry) (r : Rounds) → arguments limit law (all_at never (names_of law)) ≡ given found
      → rounds_from limit (round_limit law) law (all_at never (names_of law)) 0 ≡ given r
      → infer limit law ≡ given (record { formats = record { arguments = found; results = r.results }; rounds = r.rounds; settled = r.settled })
  unfolding infer infer_within
  infer_given found r a b = rw (a, b)

  -- a pattern does not fit
  pub infer_arguments_over : (n : ℕ) → arguments limit law (all_at never (names_of law)) ≡ refused n → infer limit law ≡ refused n
  unfolding infer infer_within
  infer_arguments_over n over = rw over

  -- a result does not fit in a round
  pub infer_rounds_over : (found : List Entry) (n : ℕ) → arguments limit law (all_at never (names_of law)) ≡ given found
      → rounds_from limit (round_limit law) law (all_at never (names_of law)) 0 ≡ refused n → infer limit law ≡ refused n
  unfolding infer infer_within
  infer_rounds_over found n a over = rw (a, over)

-- ---- what was given, taken apart into its first step and the rest

-- the name under which a function's formats stand
abbrev pub name_of : Function → List ℕ
name_of f = folded f.name.spelled

-- the entries after a function's turn
abbrev pub updated : List ℕ → Format → List Entry → List Entry
updated n g es = renew n (join_formats (or_never (find es n)) g) es

-- did a function's turn change its format?
abbrev pub changes : Function → Format → List Entry → Bool
changes f g es = not (same_format (join_formats (or_never (find es (name_of f))) g) (or_never (find es (name_of f))))

-- a round: the first function's turn
pub round_turn : {R : Type 0} (limit : ℕ) (f : Function) (fs : Law) (es : List Entry) (c : Bool) (next : List Entry × Bool)
    → round limit (f ∷ fs) es c ≡ given next
    → ((g : Format) → join_results limit (find es) never f.sentences ≡ given g → round limit fs (updated (name_of f) g es) (c || changes f g es) ≡ given next → R) → R
unfolding round
round_turn limit f fs es c next h use-of =
    bind_given (join_results limit (find es) never f.sentences) (λ g. round limit fs (updated (name_of f) g es) (c || changes f g es)) next h use-of

-- the arguments: the first function's turn
pub arguments_turn : {R : Type 0} (limit : ℕ) (f : Function) (fs : Law) (es next : List Entry) → arguments limit (f ∷ fs) es ≡ given next
    → ((g : Format) → join_patterns limit never f.sentences ≡ given g → arguments limit fs (updated (name_of f) g es) ≡ given next → R) → R
unfolding arguments
arguments_turn limit f fs es next h use-of =
    bind_given (join_patterns limit never f.sentences) (λ g. arguments limit fs (updated (name_of f) g es)) next h use-of

-- rounds: the first, which changes a format or is the last
pub rounds_first : {R : Type 0} (limit left : ℕ) (law : Law) (es : List Entry) (done : ℕ) (r : Rounds) → rounds_from limit (suc left) law es done ≡ given r
    → ((next : List Entry) → round limit law es false ≡ given (next, true) → rounds_from limit left law next (suc done) ≡ given r → R)
    → ((next : List Entry) → round limit law es false ≡ given (next, false) → record { results = next; rounds = suc done; settled = true } ≡ r → R) → R
unfolding rounds_from
rounds_first {R} limit left law es done r h go_on stop =
    bind_given (round limit law es false)
    (λ p. elim p.1 as (λ _. Answer Rounds) [
      | true ↦ rounds_from limit left law p.0 (suc done)
      | false ↦ given (record { results = p.0; rounds = suc done; settled = true })
    ])
    r h (λ p e k. at p.0 p.1 e k)
  where
    at : (next : List Entry) (c : Bool) → round limit law es false ≡ given (next, c)
        → elim c as (λ _. Answer Rounds) [
          | true ↦ rounds_from limit left law next (suc done)
          | false ↦ given (record { results = next; rounds = suc done; settled = true })
        ] ≡ given r → R
    at next true e k = go_on next e k
    at next false e k = stop next e (cc)

module _ (limit : ℕ) (law : Law) (P : List Entry → Type 0)
    (kept : (es : List Entry) (next : List Entry × Bool) → P es → round limit law es false ≡ given next → P next.0) where
  -- what every round keeps holds of the results
  pub rounds_hold : (left : ℕ) (es : List Entry) (done : ℕ) (r : Rounds) → P es → rounds_from limit left law es done ≡ given r → P r.results
  unfolding rounds_from
  rounds_hold zero es done r p h =
      let e : es ≡ r.results = cc in
      rw e at p
  rounds_hold (suc left) es done r p h =
      rounds_first limit left law es done r h
      (λ next e k. rounds_hold left next (suc done) r (kept es (next, true) p e) k)
      (λ next e k.
      let f : next ≡ r.results = cc in
      rw f at (kept es (next, false) p e)
      )

-- ---- no format that is reached has more shapes than the limit

-- the join of results that are not refused
pub results_encodable_lem : (limit : ℕ) (t : Results) (f : Format) (ss : Sentences) (g : Format) → Encodable limit f → join_results limit t f ss ≡ given g → Encodable limit g
unfolding join_results
results_encodable_lem limit t f no_sentence g small h =
    let e : f ≡ g = cc in
    rw e at small
results_encodable_lem limit t f (sentence m p cs r ss) g small h =
    pass_given 10 (ltb limit (size (result_shapes t r))) (join_results limit t (join_formats f (of (result_shapes t r))) ss) g h (λ few k.
    results_encodable_lem limit t (join_formats f (of (result_shapes t r))) ss g
    (join_encodable limit f (of (result_shapes t r)) small (ltb-false limit (size (result_shapes t r)) few)) k
    )

-- the join of patterns that are not refused
pub patterns_encodable : (limit : ℕ) (f : Format) (ss : Sentences) (g : Format) → Encodable limit f → join_patterns limit f ss ≡ given g → Encodable limit g
unfolding join_patterns
patterns_encodable limit f no_sentence g small h =
    let e : f ≡ g = cc in
    rw e at small
patterns_encodable limit f (sentence m p cs r ss) g small h =
    pass_given 10 (ltb limit (size (pattern_shapes p))) (join_patterns limit (join_formats f (of (pattern_shapes p))) ss) g h (λ few k.
    patterns_encodable limit (join_formats f (of (pattern_shapes p))) ss g
    (join_encodable limit f (of (pattern_shapes p)) small (ltb-false limit (size (pattern_shapes p)) few)) k
    )

-- the entries after a function's turn
turn_encodable : (limit : ℕ) (n : List ℕ) (g : Format) (es : List Entry) → Encodable limit g → EachEntry (Encodable limit) es
    → EachEntry (Encodable limit) (updated n g es)
turn_encodable limit n g es small each =
    rw (found_or_never es n, renew_put n (join_formats (format_in es (position (entry_names es) n)) g) es)
    (put_encodable limit (position (entry_names es) n) (join_formats (format_in es (position (entry_names es) n)) g) es
    (join_encodable limit (format_in es (position (entry_names es) n)) g (format_encodable limit es (position (entry_names es) n) each) small) each)

-- the entries after a round; they have the same names
pub round_keeps : (limit : ℕ) (law : Law) (es : List Entry) (changed : Bool) (next : List Entry) (now : Bool) → EachEntry (Encodable limit) es
    → round limit law es changed ≡ given (next, now) → EachEntry (Encodable limit) next × (entry_names next ≡ entry_names es)
unfolding round
round_keeps limit [] es changed next now each h =
    let both : ◌≡◌ {A = List Entry × Bool} (es, changed) (next, now) = cc in
    let e : es ≡ next = ap (λ q. q.0) both in
    (rw e at each, rw e)
round_keeps limit (f ∷ fs) es changed next now each h =
    round_turn limit f fs es changed (next, now) h (λ g e k.
    let (small, names) = round_keeps limit fs (updated (name_of f) g es) (changed || changes f g es) next now
    (turn_encodable limit (name_of f) g es (results_encodable_lem limit (find es) never f.sentences g (omega arith) e) each) k in
    (small, names ∙ names_renew (name_of f) (join_formats (or_never (find es (name_of f))) g) es)
    )

-- the entries of the arguments; they have the same names
pub arguments_keep : (limit : ℕ) (law : Law) (es next : List Entry) → EachEntry (Encodable limit) es
    → arguments limit law es ≡ given next → EachEntry (Encodable limit) next × (entry_names next ≡ entry_names es)
unfolding arguments
arguments_keep limit [] es next each h =
    let e : es ≡ next = cc in
    (rw e at each, rw e)
arguments_keep limit (f ∷ fs) es next each h =
    arguments_turn limit f fs es next h (λ g e k.
    let (small, names) = arguments_keep limit fs (updated (name_of f) g es) next
    (turn_encodable limit (name_of f) g es (patterns_encodable limit never f.sentences g (omega arith) e) each) k in
    (small, names ∙ names_renew (name_of f) (join_formats (or_never (find es (name_of f))) g) es)
    )

-- the entries after rounds; they have the same names
pub rounds_keep : (limit left : ℕ) (law : Law) (es : List Entry) (done : ℕ) (r : Rounds) → EachEntry (Encodable limit) es
    → rounds_from limit left law es done ≡ given r → EachEntry (Encodable limit) r.results × (entry_names r.results ≡ entry_names es)
rounds_keep limit left law es done r each =
    rounds_hold limit law (λ now. EachEntry (Encodable limit) now × (entry_names now ≡ entry_names es))
    (λ now next held e.
    let (small, names) = round_keeps limit law now false next.0 next.1 held.0 e in
    (small, names ∙ held.1)
    )
    left es done r (each, refl)

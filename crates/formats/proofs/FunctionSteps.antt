-- The functions' turns one after the other (specs/Code/Turns.antt): what the store holds after the first f functions, for the arguments and for a round.
use Prim.Native.Nat.{ℕ, ◌+◌, ◌*◌, ◌≤◌, ◌<◌}
use mathlib.Core.Bool.{Bool, false, not, ◌||◌}
use mathlib.Core.List.{List}
use mathlib.Core.Path.{◌≡◌, refl, sym, ap, ◌∙◌}
use native.Mathlib.Omega.{arith}
use lib.ListN.{length, get_or}
use Rattle.file.specs.Answer.{Answer, refused, given}
use Rattle.file.specs.Sections.{File, file_of}
use Rattle.law.specs.Tree.{keep}
use Rattle.law.specs.Places.{sentences_of, first_sentence}
use Rattle.law.specs.Reading.{sentences_at, tree_of}
use Rattle.law.proofs.Functions.{functions_at, tree_functions_lem}
use Rattle.shapes.specs.Format.{Format, never}
use Rattle.shapes.specs.Join.{join_formats}
use Rattle.shapes.specs.Same.{same_format}
use Rattle.shapes.specs.Words.{Encodable, read_format}
use Rattle.shapes.proofs.FormatLaws.{join_encodable}
use Rattle.formats.specs.Infer.{Entry, find, arguments, round}
use Rattle.formats.specs.Code.Entries.{format_in, put, StoreHolds}
use Rattle.formats.specs.Code.Slots.{file_names, function_folded, position}
use Rattle.formats.specs.Code.Rows.{format_at}
use Rattle.formats.specs.Code.Turns.{RoundAsked, Holding, results_in, rows_joined, format_number, too_wide, TurnIs, arguments_stop, round_stop, ArgumentsIs, RoundIs}
use Rattle.std.specs.Prelude.{Result, Ok, Err}
use Rattle.formats.specs.declared.slots.Slots.{Slots}
use Rattle.formats.specs.declared.infer.Side.{Side}
use Rattle.formats.specs.declared.infer.Side.TheVariants as side
use Rattle.formats.specs.declared.TooWide.{TooWide}
use Rattle.formats.proofs.EntryLaws.{format_encodable, function_results, function_patterns, arguments_next, arguments_over_lem, arguments_end}
use Rattle.formats.proofs.EntryLaws.{arguments_stop_next, arguments_stop_over, round_next, round_over, round_end, round_stop_next, round_stop_over}
use Rattle.formats.proofs.SlotLaws.{function_placed}
use Rattle.formats.proofs.StateLaws.{whole_length, read_argument_format, read_result_format, write_argument, write_result}
use Rattle.formats.proofs.SentenceLaws.{results_said}
use Rattle.formats.proofs.TurnSteps.{rows_encodable, made_not, made_is}

-- the number of functions, as the index says it
pub functions_read : {bytes index : List ℕ} {slots : Slots} {limit count : ℕ} → RoundAsked bytes index slots limit count → (most : ℕ) → most ≡ get_or index 4 0
    → most ≡ (file_of bytes).functions.count
functions_read h most e = e ∙ h.indexed.words.functions

-- the place of a function's name
abbrev place_of : File → ℕ → ℕ
place_of file f = position (file_names file) (function_folded file f)

-- a function's turn, with the results that the store says before it
abbrev pub FunctionTurn : ℕ → File → Side → ℕ → List ℕ → List ℕ → Result Bool TooWide → Type 0
FunctionTurn limit file patterns f before after r =
    TurnIs limit
    (rows_joined limit patterns (find (results_in limit (file_names file) before)) never (keep (sentences_of file f) (sentences_at file (first_sentence file f))))
    (format_number patterns (position (file_names file) (function_folded file f))) before after r

-- ---- the arguments

-- after the turns of the first f functions: the store holds entries, and the arguments are those that the functions left make of them
pub record ArgumentsLeft (limit : ℕ) (file : File) (found results : List Entry) (tail : List ℕ) (f : ℕ) (store : List ℕ) : Type 0 where
  pub entries : List Entry
  pub holds : StoreHolds limit (file_names file) entries results tail store
  pub left : arguments limit (tree_of file) found ≡ arguments limit (functions_at file f) entries
  pub stops : arguments_stop limit (tree_of file) found ≡ arguments_stop limit (functions_at file f) entries

-- so for all entries that the store held at the start
abbrev pub ArgumentsFrom : ℕ → File → List ℕ → ℕ → List ℕ → Type 0
ArgumentsFrom limit file start f store =
    (found results : List Entry) (tail : List ℕ) → StoreHolds limit (file_names file) found results tail start
    → ArgumentsLeft limit file found results tail f store

-- before the first function
pub arguments_start : (limit : ℕ) (file : File) (store : List ℕ) → ArgumentsFrom limit file store 0 store
arguments_start limit file store found results tail h = record { entries = found; holds = h; left = rw (tree_functions_lem file); stops = rw (tree_functions_lem file) }

module _ {limit : ℕ} {file : File} {start store : List ℕ} {f : ℕ} (from : ArgumentsFrom limit file start f store) where
  -- the store still holds formats
  pub arguments_holding : Holding limit (file_names file) start → Holding limit (file_names file) store
  arguments_holding h =
      let now = from h.arguments h.results h.tail h.holds in
      record { arguments = now.entries; results = h.results; tail = h.tail; holds = now.holds }

  -- it is as long as it was
  pub arguments_long : Holding limit (file_names file) start → length store ≡ length start
  arguments_long h = whole_length (from h.arguments h.results h.tail h.holds).holds ∙ sym (whole_length h.holds)

  -- after the last function
  pub arguments_all : file.functions.count ≤ f → (found results : List Entry) (tail : List ℕ) → StoreHolds limit (file_names file) found results tail start
      → ArgumentsIs limit (file_names file) (arguments limit (tree_of file) found) (arguments_stop limit (tree_of file) found) results tail store (Ok tt)
  arguments_all done found results tail h =
      let now = from found results tail h in
      rw (now.left ∙ arguments_end limit file now.entries f done) (now.holds, refl)

  module _ (next : List ℕ) (r : Result Bool TooWide) (turn : FunctionTurn limit file side.Pattern f store next r) where
    -- a pattern of the next function does not fit
    pub arguments_refused : r ≡ Err too_wide → f < file.functions.count
        → (found results : List Entry) (tail : List ℕ) → StoreHolds limit (file_names file) found results tail start
        → ArgumentsIs limit (file_names file) (arguments limit (tree_of file) found) (arguments_stop limit (tree_of file) found) results tail next (Err too_wide)
    arguments_refused over inside found results tail h = go (function_patterns limit file f) refl turn
      where
        now : ArgumentsLeft limit file found results tail f store
        now = from found results tail h

        go : (joined : Answer Format) → function_patterns limit file f ≡ joined
            → TurnIs limit joined (2 * place_of file f) store next r
            → ArgumentsIs limit (file_names file) (arguments limit (tree_of file) found) (arguments_stop limit (tree_of file) found) results tail next (Err too_wide)
        go (given g) is (e, t) =
            let old : Format = read_format (format_at limit store (2 * place_of file f)) in
            absurd (made_not (not (same_format (join_formats old g) old)) (sym t ∙ over))
        go (refused n) is (e, t) =
            rw (now.left ∙ arguments_over_lem limit file now.entries f n inside is, now.stops ∙ arguments_stop_over limit file now.entries f n inside is)
            (rw e now.holds, refl)

    -- they fit: they are joined to the format of its name
    pub arguments_more : (b : Bool) → r ≡ Ok b → f < file.functions.count → limit ≤ 64 → ArgumentsFrom limit file start (f + 1) next
    arguments_more b made inside few found results tail h = go (function_patterns limit file f) refl turn
      where
        now : ArgumentsLeft limit file found results tail f store
        now = from found results tail h

        go : (joined : Answer Format) → function_patterns limit file f ≡ joined
            → TurnIs limit joined (2 * place_of file f) store next r
            → ArgumentsLeft limit file found results tail (f + 1) next
        go (refused n) is (e, t) = absurd (made_not b (sym made ∙ t))
        go (given g) is (e, t) =
            let placed : place_of file f < length (file_names file) = function_placed file f inside in
            let es : List Entry = now.entries in
            let old : read_format (format_at limit store (2 * place_of file f)) ≡ format_in es (place_of file f) =
            read_argument_format now.holds (place_of file f) placed (omega arith) in
            let new : Format = join_formats (format_in es (place_of file f)) g in
            let small : Encodable limit new =
            join_encodable limit (format_in es (place_of file f)) g
            (format_encodable limit es (place_of file f) now.holds.entries.arguments_encodable)
            (rows_encodable limit side.Pattern (find es) (keep (sentences_of file f) (sentences_at file (first_sentence file f))) g is) in
            record {
              entries = put (place_of file f) new es;
              holds = rw (e, old) (write_argument now.holds (place_of file f) new placed small);
              left =
                  now.left
                  ∙ arguments_next limit file (file_names file) es f (f + 1) (place_of file f) g inside (omega arith)
                  now.holds.entries.argument_names refl is;
              stops =
                  now.stops
                  ∙ arguments_stop_next limit file (file_names file) es f (f + 1) (place_of file f) g inside (omega arith)
                  now.holds.entries.argument_names refl is;
            }

-- ---- a round

-- after the turns of the first f functions: the store holds entries, and the round is what the functions left make of them
pub record RoundLeft (limit : ℕ) (file : File) (found results : List Entry) (tail : List ℕ) (f : ℕ) (store : List ℕ) (changed : Bool) : Type 0 where
  pub entries : List Entry
  pub holds : StoreHolds limit (file_names file) found entries tail store
  pub left : round limit (tree_of file) results false ≡ round limit (functions_at file f) entries changed
  pub stops : round_stop limit (tree_of file) results ≡ round_stop limit (functions_at file f) entries

-- so for all entries that the store held at the start
abbrev pub RoundFrom : ℕ → File → List ℕ → ℕ → List ℕ → Bool → Type 0
RoundFrom limit file start f store changed =
    (found results : List Entry) (tail : List ℕ) → StoreHolds limit (file_names file) found results tail start
    → RoundLeft limit file found results tail f store changed

-- before the first function
pub round_start : (limit : ℕ) (file : File) (store : List ℕ) → RoundFrom limit file store 0 store false
round_start limit file store found results tail h = record { entries = results; holds = h; left = rw (tree_functions_lem file); stops = rw (tree_functions_lem file) }

module _ {limit : ℕ} {file : File} {start store : List ℕ} {f : ℕ} {changed : Bool} (from : RoundFrom limit file start f store changed) where
  -- the store still holds formats
  pub round_holding : Holding limit (file_names file) start → Holding limit (file_names file) store
  round_holding h =
      let now = from h.arguments h.results h.tail h.holds in
      record { arguments = h.arguments; results = now.entries; tail = h.tail; holds = now.holds }

  -- it is as long as it was
  pub round_long : Holding limit (file_names file) start → length store ≡ length start
  round_long h = whole_length (from h.arguments h.results h.tail h.holds).holds ∙ sym (whole_length h.holds)

  -- after the last function
  pub round_all : file.functions.count ≤ f
      → (found results : List Entry) (tail : List ℕ) → StoreHolds limit (file_names file) found results tail start
      → RoundIs limit (file_names file) (round limit (tree_of file) results false) (round_stop limit (tree_of file) results) found tail store (Ok changed)
  round_all done found results tail h =
      let now = from found results tail h in
      rw (now.left ∙ round_end limit file now.entries f changed done) (now.holds, refl)

  module _ (next : List ℕ) (r : Result Bool TooWide) (turn : FunctionTurn limit file side.Result f store next r) where
    -- a result of the next function does not fit
    pub round_refused : r ≡ Err too_wide → f < file.functions.count → limit ≤ 64
        → (found results : List Entry) (tail : List ℕ) → StoreHolds limit (file_names file) found results tail start
        → RoundIs limit (file_names file) (round limit (tree_of file) results false) (round_stop limit (tree_of file) results) found tail next (Err too_wide)
    round_refused over inside few found results tail h =
        go (function_results limit file now.entries f) refl (rw (results_said now.holds (omega arith)) at turn)
      where
        now : RoundLeft limit file found results tail f store changed
        now = from found results tail h

        go : (joined : Answer Format) → function_results limit file now.entries f ≡ joined
            → TurnIs limit joined (2 * place_of file f + 1) store next r
            → RoundIs limit (file_names file) (round limit (tree_of file) results false) (round_stop limit (tree_of file) results) found tail next (Err too_wide)
        go (given g) is (e, t) =
            let old : Format = read_format (format_at limit store (2 * place_of file f + 1)) in
            absurd (made_not (not (same_format (join_formats old g) old)) (sym t ∙ over))
        go (refused n) is (e, t) =
            rw (now.left ∙ round_over limit file now.entries f changed n inside is, now.stops ∙ round_stop_over limit file now.entries f n inside is)
            (rw e now.holds, refl)

    -- they fit: they are joined to the format of its name
    pub round_more : (turned after : Bool) → r ≡ Ok turned → after ≡ changed || turned → f < file.functions.count → limit ≤ 64 → RoundFrom limit file start (f + 1) next after
    round_more turned after made marked inside few found results tail h =
        go (function_results limit file now.entries f) refl (rw (results_said now.holds (omega arith)) at turn)
      where
        now : RoundLeft limit file found results tail f store changed
        now = from found results tail h

        go : (joined : Answer Format) → function_results limit file now.entries f ≡ joined
            → TurnIs limit joined (2 * place_of file f + 1) store next r
            → RoundLeft limit file found results tail (f + 1) next after
        go (refused n) is (e, t) = absurd (made_not turned (sym made ∙ t))
        go (given g) is (e, t) =
            let placed : place_of file f < length (file_names file) = function_placed file f inside in
            let es : List Entry = now.entries in
            let old : read_format (format_at limit store (2 * place_of file f + 1)) ≡ format_in es (place_of file f) =
            read_result_format now.holds (place_of file f) placed (omega arith) in
            let new : Format = join_formats (format_in es (place_of file f)) g in
            let small : Encodable limit new =
            join_encodable limit (format_in es (place_of file f)) g
            (format_encodable limit es (place_of file f) now.holds.entries.results_encodable)
            (rows_encodable limit side.Result (find es) (keep (sentences_of file f) (sentences_at file (first_sentence file f))) g is) in
            let mark : after ≡ changed || not (same_format new (format_in es (place_of file f))) =
            marked ∙ ap (λ b. changed || b) (made_is (sym made ∙ rw old at t)) in
            record {
              entries = put (place_of file f) new es;
              holds = rw (e, old) (write_result now.holds (place_of file f) new placed small);
              left =
                  now.left
                  ∙ round_next limit file (file_names file) es f (f + 1) (place_of file f) changed g inside (omega arith)
                  now.holds.entries.result_names refl is
                  ∙ rw mark;
              stops =
                  now.stops
                  ∙ round_stop_next limit file (file_names file) es f (f + 1) (place_of file f) g inside (omega arith)
                  now.holds.entries.result_names refl is;
            }

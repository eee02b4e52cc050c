-- The two formats that the text on a call by formats shows: that which the store has for the callee's arguments, and that of the call's argument, made
-- anew in a buffer.
use Prim.Native.Nat.{ℕ, ◌+◌, ◌*◌, ◌≤◌, ◌<◌}
use mathlib.Core.List.{List}
use mathlib.Core.Path.{◌≡◌, ap, ◌∙◌}
use native.Mathlib.Omega.{arith}
use lib.ListN.{length, get_or}
use Rattle.std.specs.Prelude.{Result}
use Rattle.file.specs.Sections.{File, file_of}
use Rattle.law.specs.Code.Index.{PartAt}
use Rattle.law.proofs.IndexLaws.{terms_limit}
use Rattle.shapes.specs.Format.{Shapes, of}
use Rattle.shapes.specs.Words.{read_format}
use Rattle.shapes.proofs.WordLaws.{read_write}
use Rattle.sentences.specs.Entry.{argument_part, argument_in}
use Rattle.formats.specs.Infer.{find, or_never}
use Rattle.formats.specs.Code.Slots.{file_names, call_folded, position}
use Rattle.formats.specs.Code.Rows.{format_at, part_shapes}
use Rattle.formats.specs.declared.TooWide.{TooWide}
use Rattle.formats.specs.declared.slots.Slots.{Slots}
use Rattle.formats.specs.Code.Turns.{Holding, arguments_in, results_in, FormatMade}
use Rattle.formats.proofs.EntryLaws.{found_or_never}
use Rattle.formats.proofs.StateLaws.{read_argument_format}
use Rattle.formats.proofs.SentenceLaws.{arguments_said}
use Rattle.lints.specs.Recognition.{accepted, passed}
use Rattle.lints.specs.Code.Records.{Prepared, formats_in, call_at}
use Rattle.messages.specs.Code.Spoken.{ComparedHere}

-- the argument format that a store has for the name at a place
accepted_read : {limit : ℕ} {names : List (List ℕ)} {store : List ℕ} (h : Holding limit names store) (n : List ℕ) (p : ℕ) → limit ≤ 64
    → p ≡ position names n → p < length names → read_format (format_at limit store (2 * p)) ≡ or_never (find (arguments_in limit names store) n)
accepted_read {limit} {names} {store} h n p small e inside =
    read_argument_format h.holds p inside (omega arith)
    ∙ rw (arguments_said h.holds (omega arith), found_or_never h.arguments n, h.holds.entries.argument_names, ← e)

module _ {bytes index : List ℕ} {slots : Slots} {store : List ℕ} {limit t : ℕ} (prepared : Prepared bytes index slots store limit)
    (compared : ComparedHere (file_of bytes) limit store t) where
  abbrev file : File
  file = file_of bytes

  small : limit ≤ 64
  small = prepared.asked.small

  -- the record is one of 512
  pub record_low : t < 512
  record_low = omega (arith, compared.call.inside, terms_limit bytes index prepared.asked.indexed)

  -- ---- that which is passed

  module _ {part : List ℕ} (is : part ≡ argument_part file t) where
    pub passed_read : {made : Result (Unit {0}) TooWide} {words : List ℕ}
        → FormatMade limit (part_shapes file (find (results_in limit (file_names file) store)) (t + 1) part) made words
        → read_format words ≡ of (passed (formats_in file limit store) (call_at file t))
    unfolding argument_in
    passed_read {made} {words} m =
        let shapes : Shapes = passed (formats_in file limit store) (call_at file t) in
        let row : FormatMade limit shapes made words = rw is at m in
        ap read_format (row.fits compared.fits).1 ∙ read_write limit (of shapes) compared.fits (omega (arith, small))

  -- ---- that which is accepted

  module _ {place : ℕ} (slot : place ≡ get_or slots.calls t 0) where
    place_is : place ≡ position (file_names file) (call_folded file t)
    place_is = slot ∙ prepared.asked.places.calls t compared.call.inside compared.call.kind

    pub place_inside : place < length (file_names file)
    place_inside = rw place_is compared.placed

    pub accepted_format : {words : List ℕ} → words ≡ format_at limit store (2 * place)
        → read_format words ≡ accepted (formats_in file limit store) (call_at file t)
    accepted_format {words} e = ap read_format e ∙ accepted_read prepared.holding (call_folded file t) place small place_is place_inside

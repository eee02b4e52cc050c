-- What is written of the call's own findings, by what is wanted of them.
use Prim.Native.Nat.{ℕ, ◌*◌, ◌≤◌, ◌<◌}
use mathlib.Core.List.{List, ◌++◌, Memᴰ}
use mathlib.Core.Path.{◌≡◌, sym, ◌∙◌}
use native.Mathlib.Omega.{arith}
use lib.ListN.{length, drop, take-append-drop}
use Rattle.std.specs.Prelude.{Result, Ok, Err}
use Rattle.file.specs.Answer.{given}
use Rattle.file.specs.Sections.{file_of}
use Rattle.law.specs.Reading.{tree_of}
use Rattle.law.proofs.Functions.{tree_length}
use Rattle.buffers.proofs.FittedLaws.{fits, too_long}
use Rattle.buffers.specs.Code.Put.{Put}
use Rattle.buffers.proofs.PutLaws.{put_room}
use Rattle.lints.specs.Finding.{Finding}
use Rattle.lints.specs.Levels.{Settings, listing_words}
use Rattle.lints.specs.Findings.{findings_of}
use Rattle.lints.specs.Code.Records.{formats_in}
use Rattle.lints.proofs.Listed.{shown_in_lem}
use Rattle.lints.proofs.Owners.{Owned, owned}
use Rattle.pages.specs.Page.{page, page_length}
use Rattle.pages.specs.Code.Lines.{words_page, Positions}
use Rattle.pages.proofs.WordsLaws.{words_length, words_page_lem, positions}
use Rattle.listing.specs.declared.Turned.{Turned}
use Rattle.listing.specs.declared.Turned.TheVariants as turned
use Rattle.listing.specs.declared.bytes.Wanted.{Wanted}
use Rattle.listing.specs.declared.bytes.Wanted.TheVariants as wanted
use Rattle.listing.specs.Outcome.{fitted_bytes, text_at}
use Rattle.listing.specs.Code.Gather.{shown_in, Collected}
use Rattle.listing.specs.Code.Bytes.{wanted_number, wanted_bytes, told_pair}

-- ---- a page of so many bytes

module _ (text buffer : List ℕ) (needed : ℕ) (size : length text ≡ needed) where
  -- 18
  pub put_short : length buffer < needed → told_pair (Err turned.Page) buffer ≡ fitted_bytes 18 buffer (given text)
  put_short less = rw (too_long 18 buffer text (omega (arith, size, less)))

  pub put_written : {next : ℕ} {last : List ℕ} → needed ≤ length buffer → Put buffer 0 text next last
      → told_pair (Ok needed) last ≡ fitted_bytes 18 buffer (given text)
  put_written room p = rw (fits 18 buffer text (omega (arith, size, room)), put_room p (omega (arith, p.end, size, room)), size)

-- by words
module _ (bytes own : List ℕ) (count : ℕ) (buffer : List ℕ) (needed : ℕ) (is : needed ≡ page_length count) where
  abbrev text : List ℕ
  text = words_page (file_of bytes) own count

  size : length text ≡ needed
  size = words_length (file_of bytes) own count ∙ sym is

  pub print_short : length buffer < needed → told_pair (Err turned.Page) buffer ≡ fitted_bytes 18 buffer (given text)
  print_short = put_short text buffer needed size

  pub print_written : {next : ℕ} {last : List ℕ} → needed ≤ length buffer → Put buffer 0 text next last
      → told_pair (Ok needed) last ≡ fitted_bytes 18 buffer (given text)
  print_written = put_written text buffer needed size

-- ---- the findings that were gathered

module _ (settings : Settings) {limit : ℕ} {bytes store own : List ℕ} {count : ℕ} (c : Collected limit settings bytes store own count)
    (few : 8 * count ≤ length own) where
  abbrev fs : List Finding
  fs = shown_in limit settings bytes store

  whole : own ≡ listing_words settings fs ++ drop (8 * count) own
  whole = sym (rw (← c.placed few) (take-append-drop (8 * count) own))

  owners : (f : Finding) → Memᴰ f fs → Owned (file_of bytes) f
  owners f m =
      owned (file_of bytes) f (formats_in (file_of bytes) limit store)
      (shown_in_lem settings (findings_of (tree_of (file_of bytes)) (formats_in (file_of bytes) limit store)) f m)

  pub own_positions : Positions (file_of bytes) own count
  own_positions = rw c.counted (positions (file_of bytes) settings own fs (drop (8 * count) own) whole owners)

  own_page : words_page (file_of bytes) own count ≡ page settings (length (tree_of (file_of bytes))) fs
  own_page = rw (c.counted, tree_length (file_of bytes)) (words_page_lem (file_of bytes) settings own fs (drop (8 * count) own) whole owners)

  module _ (w : Wanted) (buffer : List ℕ) (t : Result ℕ Turned) (end : List ℕ) where
    abbrev Written : Type 0
    Written = told_pair t end ≡ fitted_bytes (wanted_number w) buffer (wanted_bytes w settings (tree_of (file_of bytes)) fs)

    pub text_wanted : (position : ℕ) → w ≡ wanted.Text position → told_pair t end ≡ fitted_bytes 13 buffer (text_at position fs) → Written
    text_wanted position is h = rw is h

    pub page_wanted : w ≡ wanted.Page → told_pair t end ≡ fitted_bytes 18 buffer (given (words_page (file_of bytes) own count)) → Written
    page_wanted is h = rw is (rw own_page at h)

-- The calls, of a law without functions: there is no finding.
use Prim.Native.Nat.{ℕ, ◌*◌, ◌≤◌, ◌<◌}
use mathlib.Core.Bool.{Bool, true, false, not}
use mathlib.Core.List.{List, [], ◌++◌, flatten, append-nil}
use mathlib.Core.Path.{◌≡◌, sym, ◌∙◌}
use native.Mathlib.Omega.{arith}
use borrow.Author.Tests.{le-leb}
use lib.ListN.{length, drop, replicate}
use Rattle.std.specs.Prelude.{Result, Ok, Err}
use Rattle.file.specs.Answer.{Answer, given}
use Rattle.law.specs.Tree.{Law}
use Rattle.law.specs.Law.{law_of}
use Rattle.formats.specs.Store.{store_size}
use Rattle.buffers.specs.Code.Put.{Put}
use Rattle.buffers.proofs.WrittenLaws.{written_none}
use Rattle.lints.specs.Finding.{Finding}
use Rattle.lints.specs.Levels.{Settings, settings_allowed, listing_words}
use Rattle.pages.specs.Page.{heading, page_lines, page, page_length}
use Rattle.pages.proofs.LayoutLaws.{page_length_lem}
use Rattle.listing.specs.declared.Turned.{Turned}
use Rattle.listing.specs.declared.Turned.TheVariants as turned
use Rattle.listing.specs.declared.bytes.Wanted.{Wanted}
use Rattle.listing.specs.declared.bytes.Wanted.TheVariants as wanted
use Rattle.listing.specs.Outcome.{findings_outcome, fitted_bytes, bytes_outcome, own_bytes, text_at}
use Rattle.listing.specs.Code.Bytes.{wanted_number, wanted_bytes, told_pair}
use Rattle.listing.specs.Promise.{findings_after, bytes_after}
use Rattle.listing.proofs.EmptyLaws.{none_listed, none_stored, front_settings, front_short, front_none}
use Rattle.listing.proofs.WantedLaws.{put_short, put_written}

-- ---- its page is one heading

page_none : (settings : Settings) → page settings 0 [] ≡ heading 0 1
unfolding page page_lines flatten
page_none settings = append-nil (heading 0 1)

module _ (settings : Settings) (buffer : List ℕ) (needed : ℕ) (is : needed ≡ page_length 0) where
  size : length (page settings 0 []) ≡ needed
  size = page_length_lem settings 0 [] ∙ sym is

  -- 18
  pub none_short : length buffer < needed → told_pair (Err turned.Page) buffer ≡ fitted_bytes 18 buffer (given (page settings 0 []))
  none_short = put_short (page settings 0 []) buffer needed size

  pub none_written : {next : ℕ} {last : List ℕ} → needed ≤ length buffer → Put buffer 0 (heading 0 1) next last
      → told_pair (Ok needed) last ≡ fitted_bytes 18 buffer (given (page settings 0 []))
  none_written {next} {last} room p =
      let whole : Put buffer 0 (page settings 0 []) next last = rw (page_none settings) p in
      put_written (page settings 0 []) buffer needed size room whole

-- ---- by what is wanted

module _ (settings : Settings) (w : Wanted) (buffer : List ℕ) where
  -- 12
  pub none_text : (position : ℕ) → w ≡ wanted.Text position
      → told_pair (Err turned.NoFinding) buffer ≡ fitted_bytes (wanted_number w) buffer (wanted_bytes w settings [] [])
  unfolding text_at
  none_text position is = rw is

  pub none_page : (end : List ℕ) (t : Result ℕ Turned) → w ≡ wanted.Page → told_pair t end ≡ fitted_bytes 18 buffer (given (page settings 0 []))
      → told_pair t end ≡ fitted_bytes (wanted_number w) buffer (wanted_bytes w settings [] [])
  none_page end t is h = rw is h

-- ---- the calls

module _ (limit : ℕ) (settings : Settings) (bytes store : List ℕ) (empty : law_of bytes ≡ given []) {allowed : Bool} (is : allowed ≡ settings_allowed settings) where
  -- the findings call: no word changes
  module _ (words : List ℕ) where
    pub findings_settings : not allowed ≡ true → findings_after (Err turned.Settings) store words ≡ findings_outcome limit settings bytes store words
    unfolding findings_outcome
    findings_settings h = rw (front_settings limit settings bytes store empty is h)

    module _ (h : not allowed ≡ false) where
      pub findings_short : length store < store_size limit → findings_after (Err turned.Store) store words ≡ findings_outcome limit settings bytes store words
      unfolding findings_outcome
      findings_short short = rw (front_short limit settings bytes store empty is h short)

      pub findings_none : (after : List ℕ) → store_size limit ≤ length store → after ≡ replicate (store_size limit) 0 ++ drop (store_size limit) store
          → findings_after (Ok (record { count = 0; rounds = 1; settled = true })) after words ≡ findings_outcome limit settings bytes store words
      unfolding findings_outcome listing_words
      findings_none after enough cleared =
          rw (
            front_none limit settings bytes store empty is h enough,
            none_listed limit settings,
            none_stored limit store,
            le-leb (8 * length {A = Finding} []) (length words) (omega arith),
            ← written_none words 0,
            cleared,
          )

  -- the calls that write bytes, whatever they write
  module _ (number : ℕ) (bytes_of : Law → List Finding → Answer (List ℕ)) (buffer : List ℕ) where
    pub bytes_settings : not allowed ≡ true
        → bytes_after (Err turned.Settings) store buffer ≡ bytes_outcome limit settings number (own_bytes bytes_of) bytes store buffer
    unfolding bytes_outcome
    bytes_settings h = rw (front_settings limit settings bytes store empty is h)

    module _ (h : not allowed ≡ false) where
      pub bytes_short : length store < store_size limit
          → bytes_after (Err turned.Store) store buffer ≡ bytes_outcome limit settings number (own_bytes bytes_of) bytes store buffer
      unfolding bytes_outcome
      bytes_short short = rw (front_short limit settings bytes store empty is h short)

      pub bytes_none : (after end : List ℕ) (t : Result ℕ Turned) → store_size limit ≤ length store → after ≡ replicate (store_size limit) 0 ++ drop (store_size limit) store
          → told_pair t end ≡ fitted_bytes number buffer (bytes_of [] [])
          → bytes_after t after end ≡ bytes_outcome limit settings number (own_bytes bytes_of) bytes store buffer
      unfolding bytes_outcome
      bytes_none after end t enough cleared same =
          rw (
            front_none limit settings bytes store empty is h enough,
            none_listed limit settings,
            none_stored limit store,
            ← same,
            cleared,
          )

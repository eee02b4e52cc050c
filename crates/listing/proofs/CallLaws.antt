-- The calls, by what their front says.
use Prim.Native.Nat.{ℕ, ◌+◌, ◌*◌, ◌≤◌}
use mathlib.Core.List.{List, ◌++◌}
use mathlib.Core.Path.{◌≡◌, ap, ◌∙◌}
use native.Mathlib.Omega.{arith}
use lib.ListN.{length, take, drop}
use Rattle.std.specs.Prelude.{Result, Ok, Err}
use Rattle.file.specs.Answer.{Answer, given}
use Rattle.file.specs.Sections.{file_of}
use Rattle.law.specs.Tree.{Law}
use Rattle.law.specs.Reading.{tree_of}
use Rattle.buffers.specs.Written.{written}
use Rattle.lints.specs.Levels.{Settings, listing_words}
use Rattle.lints.specs.Findings.{Listing}
use Rattle.lints.specs.Code.Records.{formats_in}
use Rattle.findings.specs.Code.Events.{Tally, Upto, sink_of, collect}
use Rattle.findings.specs.Code.All.{all_events}
use Rattle.findings.proofs.EventLaws.{all_found_lem}
use Rattle.listing.specs.declared.Listed.{Listed}
use Rattle.listing.specs.declared.Turned.{Turned}
use Rattle.listing.specs.Outcome.{findings_front, findings_outcome, bytes_front, bytes_outcome}
use Rattle.listing.specs.Code.Gather.{Prepares, FrontIs, shown_in, Collected}
use Rattle.listing.specs.Promise.{findings_after, FindingsPromise, bytes_after}
use Rattle.listing.proofs.GatherLaws.{all_left}
use Rattle.listing.proofs.PromiseLaws.{words_length, promise}

module _ (limit : ℕ) (settings : Settings) (bytes store : List ℕ) (front : Result (Unit {0}) Turned) (index : List ℕ) (h : FrontIs limit settings bytes store front index) where
  -- a law that is ready
  pub front_ready : front ≡ Ok tt → Prepares limit bytes index store
  front_ready is = (rw is at h).1

  -- ---- the findings call

  pub findings_turned : (words : List ℕ) (why : Turned) → front ≡ Err why → FindingsPromise limit settings bytes store words store words (Err why)
  unfolding findings_outcome
  findings_turned words why is = promise limit settings bytes store words store words (Err why) (rw (rw is at h))

  pub findings_goes : (words filled after : List ℕ) (r : Result Listed Turned) → front ≡ Ok tt
      → findings_after r filled after ≡ findings_front limit settings store words (given (tree_of (file_of bytes)))
      → FindingsPromise limit settings bytes store words filled after r
  unfolding findings_outcome
  findings_goes words filled after r is e = promise limit settings bytes store words filled after r (rw (rw is at h).0 e)

  -- ---- the calls that write bytes, whatever they write

  module _ (number : ℕ) (bytes_of : Law → Listing → Answer (List ℕ)) (buffer : List ℕ) where
    pub bytes_turned : (why : Turned) → front ≡ Err why → bytes_after (Err why) store buffer ≡ bytes_outcome limit settings number bytes_of bytes store buffer
    unfolding bytes_outcome
    bytes_turned why is = rw (rw is at h)

    pub bytes_goes : (filled after : List ℕ) (r : Result ℕ Turned) → front ≡ Ok tt
        → bytes_after r filled after ≡ bytes_front limit settings number bytes_of store buffer (given (tree_of (file_of bytes)))
        → bytes_after r filled after ≡ bytes_outcome limit settings number bytes_of bytes store buffer
    unfolding bytes_outcome
    bytes_goes filled after r is e = rw (rw is at h).0 e

-- ---- findings that had no place in the call's own buffer are collected again

module _ (settings : Settings) {limit : ℕ} {bytes store own : List ℕ} {count : ℕ} (c : Collected limit settings bytes store own count) (words : List ℕ)
    (fits : 8 * count ≤ length words) where
  pub again : (room : ℕ) (tally : Tally) (after : List ℕ) → room ≡ length words
      → sink_of tally after
      ≡ collect room (sink_of (Upto 0) words) (all_events (tree_of (file_of bytes)) (formats_in (file_of bytes) limit store) settings room limit)
      → after ≡ written words 0 (listing_words settings (shown_in limit settings bytes store))
  again room tally after size e =
      (all_left settings room (shown_in limit settings bytes store) words (sink_of tally after)
      (e ∙ ap (λ es. collect room (sink_of (Upto 0) words) es) (all_found_lem settings room limit (tree_of (file_of bytes)) (formats_in (file_of bytes) limit store) c.within))
      ).placed (omega (arith, fits, size, c.counted)) (omega (arith, fits, c.counted))

  -- ---- those that have place there are copied

  pub handed : (copied : List ℕ) → 8 * count ≤ length own → copied ≡ take (8 * count) own
      → copied ++ drop (8 * count) words ≡ written words 0 (listing_words settings (shown_in limit settings bytes store))
  unfolding written
  handed copied few same =
      let number : 0 + length (listing_words settings (shown_in limit settings bytes store)) ≡ 8 * count =
      omega (arith, words_length settings (shown_in limit settings bytes store), c.counted) in
      rw (number, same, c.placed few)

-- What the calls answer of a law that is ready, by what was gathered.
use Prim.Native.Nat.{ℕ, ◌*◌, ◌≤◌}
use mathlib.Core.List.{List}
use mathlib.Core.Path.{◌≡◌, refl, sym, ap, ◌∙◌}
use native.Mathlib.Omega.{arith}
use native.Mathlib.Decide.{dec_le}
use borrow.Author.Tests.{le-ltb, le-leb}
use lib.ListN.{length}
use Rattle.std.specs.Prelude.{Result, Ok, Err}
use Rattle.file.specs.Answer.{Answer, refused, given}
use Rattle.file.specs.Sections.{file_of}
use Rattle.law.specs.Tree.{Law}
use Rattle.law.specs.Reading.{tree_of}
use Rattle.formats.specs.Code.Slots.{SlotsOf, file_names}
use Rattle.formats.specs.Code.Held.{Holds}
use Rattle.formats.specs.declared.slots.Slots.{Slots}
use Rattle.buffers.specs.Written.{written}
use Rattle.lints.specs.Finding.{Finding}
use Rattle.lints.specs.Levels.{Settings, listing_words}
use Rattle.lints.specs.Findings.{Listing, listing}
use Rattle.listing.specs.declared.Turned.TheVariants as turned
use Rattle.listing.specs.declared.Turned.{Turned}
use Rattle.listing.specs.declared.Listed.{Listed}
use Rattle.listing.specs.Outcome.{findings_front, fitted_bytes, bytes_front, own_bytes}
use Rattle.listing.specs.Code.Gather.{Prepares, Fitted, GatheredIs, GatherIs, shown_in, Collected}
use Rattle.listing.specs.Code.Bytes.{told_pair}
use Rattle.listing.specs.Promise.{findings_after, bytes_after}
use Rattle.listing.proofs.CollectedLaws.{ok_same, shown_are, held_after, collected}

wide_listed : {found : Listed} → ◌≡◌ {A = Result Listed Turned} (Err turned.Shapes) (Ok found) → ⊥
wide_listed e = cc

full_listed : {found : Listed} → ◌≡◌ {A = Result Listed Turned} (Err turned.Findings) (Ok found) → ⊥
full_listed e = cc

module _ {limit room : ℕ} (settings : Settings) {bytes before after start own : List ℕ} {r : Result Listed Turned}
    (g : GatherIs limit settings room bytes before after start own r) where
  abbrev made : Answer Listing
  made = listing limit settings (tree_of (file_of bytes))

  abbrev Counted : Listed → Type 0
  Counted found = (l : Listing) × (made ≡ given l) × (8 * length l.findings ≤ room) × Fitted settings room l start own (Ok found)

  -- they are counted
  listed : {found : Listed} → r ≡ Ok found → Counted found
  listed {found} is = go made refl g.gathered
    where
      go : (a : Answer Listing) → made ≡ a → GatheredIs settings room a start own r → Counted found
      go (refused n) e (ten, same) = absurd (wide_listed (sym same ∙ is))
      go (given l) e f = (l, e, fits (dec_le (8 * length l.findings) room), rw is at f)
        where
          fits : Dec (8 * length l.findings ≤ room) → 8 * length l.findings ≤ room
          fits (yes x) = x
          fits (no x) = absurd (full_listed (sym (f.over (omega (arith, x))) ∙ is))

  -- ---- the findings call

  module _ {index : List ℕ} {slots : Slots} (p : Prepares limit bytes index before) (s : SlotsOf (file_of bytes) slots) (found : Listed) (is : r ≡ Ok found) where
    pub count_fits : 8 * found.count ≤ room
    count_fits = let (l, e, fits, f) = listed is in omega (arith, fits, ap (λ (same : Listed). same.count) (ok_same (f.counted fits)))

    pub findings_collected : length own ≡ length start → Collected limit settings bytes after own found.count
    findings_collected kept = let (l, e, fits, f) = listed is in collected settings p s l e (rw e at g.store) room found own start kept f fits

    -- and the store holds formats
    pub findings_stored : Holds limit (file_names (file_of bytes)) after
    findings_stored = let (l, e, fits, f) = listed is in held_after settings p s l e (rw e at g.store)

    pub findings_listed : (words end : List ℕ) → room ≡ length words → end ≡ written words 0 (listing_words settings (shown_in limit settings bytes after))
        → findings_after (Ok found) after end ≡ findings_front limit settings before words (given (tree_of (file_of bytes)))
    findings_listed words end size same =
        let (l, e, fits, f) = listed is in
        hand l e fits f (same ∙ ap (λ fs. written words 0 (listing_words settings fs)) (shown_are settings p s l e (rw e at g.store)))
      where
        hand : (l : Listing) → made ≡ given l → 8 * length l.findings ≤ room → Fitted settings room l start own (Ok found)
            → end ≡ written words 0 (listing_words settings l.findings)
            → findings_after (Ok found) after end ≡ findings_front limit settings before words (given (tree_of (file_of bytes)))
        hand l e fits f is-end =
            rw (
              g.store,
              e,
              le-leb (8 * length l.findings) (length words) (omega (arith, fits, size)),
              is-end,
              ok_same (f.counted fits),
            )

    -- ---- the calls that write bytes, whatever they write

    pub bytes_places : room ≡ length own → 8 * found.count ≤ length own
    bytes_places size = omega (arith, count_fits, size)

    pub bytes_told : (number : ℕ) (bytes_of : Law → List Finding → Answer (List ℕ)) (buffer end : List ℕ) (t : Result ℕ Turned) → room ≡ 2048
        → told_pair t end ≡ fitted_bytes number buffer (bytes_of (tree_of (file_of bytes)) (shown_in limit settings bytes after))
        → bytes_after t after end ≡ bytes_front limit settings number (own_bytes bytes_of) before buffer (given (tree_of (file_of bytes)))
    bytes_told number bytes_of buffer end t size same =
        let (l, e, fits, f) = listed is in
        let told : told_pair t end ≡ fitted_bytes number buffer (bytes_of (tree_of (file_of bytes)) l.findings) =
        rw (shown_are settings p s l e (rw e at g.store)) at same in
        rw (g.store, e, le-ltb 256 (length l.findings) (omega (arith, fits, size)), ← told)

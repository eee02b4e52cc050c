-- The rows that the calls which write bytes of a listing share, whatever they write: `bytes_of` gives it, by a law and its findings, and `number` is the
-- refusal of a buffer that is too short.
use Prim.Native.Nat.{ℕ, ◌+◌, ◌≤◌, ◌<◌}
use mathlib.Core.Bool.{Bool, true, false}
use mathlib.Core.List.{List, [], ◌∷◌, ◌++◌}
use mathlib.Core.Path.{◌≡◌, refl, sym, ◌∙◌, ap}
use native.Mathlib.Omega.{arith}
use borrow.Author.Tests.{lt-ltb, le-ltb, ltb-true, ltb-false, leb-true, leb-false}
use lib.Dec.{ltb, leb}
use lib.ListN.{length, drop, get_or}
use Rattle.file.specs.Answer.{Answer, refused, given}
use Rattle.law.specs.Tree.{Law}
use Rattle.buffers.specs.Written.{written}
use Rattle.buffers.proofs.FittedLaws as fitted
use Rattle.lints.specs.Finding.{Finding}
use Rattle.lints.specs.Levels.{Settings}
use Rattle.lints.specs.Findings.{Listing, listing}
use Rattle.listing.specs.Outcome.{front, bytes_front, bytes_outcome, own_bytes}
use Rattle.bilzarko.specs.Exported.{BytesExit, bytes_exit}
use Rattle.loader.specs.Rows.{After, returned, cleared, filled, Listed, Refuses}
use Rattle.loader.proofs.RowLaws.{front_taken, refuses, by_rows}

abbrev pub seen : BytesExit → After
seen e = returned e.number e.store e.bytes (e.answer ∷ [])

abbrev pub exit_of : After → BytesExit
exit_of a = record { number = a.number; store = a.store; bytes = a.words; answer = get_or a.answer 0 0 }

module _ (settings : Settings) (number : ℕ) (bytes_of : Law → List Finding → Answer (List ℕ)) (bytes store buffer : List ℕ) (answer : ℕ) where
  abbrev pub seen_by : Answer Law → After
  seen_by a = seen (bytes_exit answer (bytes_front 64 settings number (own_bytes bytes_of) store buffer a))

  -- ---- the rows

  over : (law : Law) → listing 64 settings law ≡ refused 10 → seen_by (given law) ≡ returned 10 (cleared store) buffer (answer ∷ [])
  over law e = rw e refl

  module _ (law : Law) (l : Listing) (e : listing 64 settings law ≡ given l) where
    full : 256 < length l.findings → seen_by (given law) ≡ returned 11 (filled l store) buffer (answer ∷ [])
    full more = rw (e, lt-ltb 256 (length l.findings) more) refl

    module _ (places : length l.findings ≤ 256) where
      -- there are no such bytes
      pub none : (n : ℕ) → bytes_of law l.findings ≡ refused n → seen_by (given law) ≡ returned n (filled l store) buffer (answer ∷ [])
      none n is = rw (e, le-ltb 256 (length l.findings) places, is) refl

      module _ (new : List ℕ) (is : bytes_of law l.findings ≡ given new) where
        short : length buffer < length new → seen_by (given law) ≡ returned number (filled l store) buffer (answer ∷ [])
        short h = rw (e, le-ltb 256 (length l.findings) places, is, fitted.too_long number buffer new h) refl

        fits : length new ≤ length buffer → seen_by (given law) ≡ returned 0 (filled l store) (new ++ drop (length new) buffer) (length new ∷ [])
        unfolding written
        fits h =
            let same : 0 + length new ≡ length new = omega arith in
            rw (e, le-ltb 256 (length l.findings) places, is, fitted.fits number buffer new h, same) refl

        -- they fit or not
        pub by_room : (after : After) → (length buffer < length new → after ≡ returned number (filled l store) buffer (answer ∷ []))
            → (length new ≤ length buffer → after ≡ returned 0 (filled l store) (new ++ drop (length new) buffer) (length new ∷ []))
            → after ≡ seen_by (given law)
        by_room after refused-so written-so = go (leb (length new) (length buffer)) refl
          where
            go : (b : Bool) → leb (length new) (length buffer) ≡ b → after ≡ seen_by (given law)
            go true e = let room = leb-true (length new) (length buffer) e in written-so room ∙ sym (fits room)
            go false e = let less = leb-false (length new) (length buffer) e in refused-so less ∙ sym (short less)

  -- ---- from the exported contract

  -- all rows but those before a listing
  pub record Rows (after : After) : Type 0 where
    pub findings_refused : (law : Law) (l : Listing) → Listed settings bytes store law l → 256 < length l.findings
        → after ≡ returned 11 (filled l store) buffer (answer ∷ [])
    pub none_there : (law : Law) (l : Listing) → Listed settings bytes store law l → length l.findings ≤ 256 → (n : ℕ) → bytes_of law l.findings ≡ refused n
        → after ≡ returned n (filled l store) buffer (answer ∷ [])
    pub room_refused : (law : Law) (l : Listing) → Listed settings bytes store law l → length l.findings ≤ 256
        → (new : List ℕ) → bytes_of law l.findings ≡ given new → length buffer < length new → after ≡ returned number (filled l store) buffer (answer ∷ [])
    pub writes : (law : Law) (l : Listing) → Listed settings bytes store law l → length l.findings ≤ 256
        → (new : List ℕ) → bytes_of law l.findings ≡ given new → length new ≤ length buffer
        → after ≡ returned 0 (filled l store) (new ++ drop (length new) buffer) (length new ∷ [])

  module _ (exit : BytesExit) (exported : exit ≡ bytes_exit answer (bytes_outcome 64 settings number (own_bytes bytes_of) bytes store buffer)) where
    sees : seen exit ≡ seen_by (front 64 settings bytes store)
    unfolding bytes_outcome
    sees = ap seen exported

    sees_listed : (law : Law) (l : Listing) → Listed settings bytes store law l → seen exit ≡ seen_by (given law)
    sees_listed law l h = sees ∙ ap seen_by (front_taken settings bytes store law h.taken)

    pub refuses_so : Refuses settings bytes store buffer (answer ∷ []) (seen exit)
    refuses_so = refuses settings bytes store buffer (answer ∷ []) (seen exit) seen_by (λ n. refl) over sees

    pub rows : Rows (seen exit)
    rows = record {
      findings_refused = λ law l h more. sees_listed law l h ∙ full law l h.is more;
      none_there = λ law l h places n is. sees_listed law l h ∙ none law l h.is places n is;
      room_refused = λ law l h places new is less. sees_listed law l h ∙ short law l h.is places new is less;
      writes = λ law l h places new is room. sees_listed law l h ∙ fits law l h.is places new is room;
    }

  -- ---- the exported contract

  module _ (exit : BytesExit) (refuses : Refuses settings bytes store buffer (answer ∷ []) (seen exit))
      (findings_refused : (law : Law) (l : Listing) → Listed settings bytes store law l → 256 < length l.findings
      → seen exit ≡ returned 11 (filled l store) buffer (answer ∷ []))
      (rest : (law : Law) (l : Listing) → Listed settings bytes store law l → length l.findings ≤ 256 → seen exit ≡ seen_by (given law)) where
    by_places : (law : Law) (l : Listing) → Listed settings bytes store law l → (b : Bool) → ltb 256 (length l.findings) ≡ b → seen exit ≡ seen_by (given law)
    by_places law l h true e =
        let more = ltb-true 256 (length l.findings) e in
        findings_refused law l h more ∙ sym (full law l h.is more)
    by_places law l h false e = rest law l h (ltb-false 256 (length l.findings) e)

    pub exported_so : exit ≡ bytes_exit answer (bytes_outcome 64 settings number (own_bytes bytes_of) bytes store buffer)
    unfolding bytes_outcome
    exported_so =
        ap exit_of (by_rows settings bytes store buffer (answer ∷ []) (seen exit) seen_by (λ n. refl) over refuses
        (λ law l h. by_places law l h (ltb 256 (length l.findings)) refl))

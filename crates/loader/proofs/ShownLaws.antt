-- What an editor relies on, and the contract of `bilzarko_text`: each follows from the other.
use Prim.Native.Nat.{ℕ, zero, suc, ◌≤◌, ◌<◌}
use mathlib.Core.Bool.{Bool, true, false}
use mathlib.Core.List.{List, [], ◌∷◌, ◌++◌}
use mathlib.Core.Path.{◌≡◌, refl, sym, ◌∙◌, ap}
use native.Mathlib.Omega.{arith}
use borrow.Author.Tests.{ltb-true, ltb-false}
use lib.Dec.{ltb}
use lib.ListN.{length}
use Rattle.file.specs.Answer.{Answer, given}
use Rattle.law.specs.Tree.{Law}
use Rattle.lints.specs.Finding.{Finding}
use Rattle.lints.specs.Levels.{Settings}
use Rattle.lints.specs.Findings.{Listing}
use Rattle.lints.specs.Message.{message}
use Rattle.listing.specs.Outcome.{text_at, text_outcome}
use Rattle.listing.proofs.TellLaws.{none_at}
use Rattle.bilzarko.specs.Exported.{BytesExit, bytes_exit}
use Rattle.loader.specs.Rows.{Listed}
use Rattle.loader.specs.Shown.{At, Shown}
use Rattle.loader.proofs.BytesLaws.{seen, seen_by, none, by_room, refuses_so, rows, exported_so}

-- ---- the finding at a position

text_at_lem : (earlier : List Finding) (f : Finding) (later : List Finding) → text_at (length earlier) (earlier ++ f ∷ later) ≡ given (message f)
unfolding text_at
text_at_lem [] f later = refl
text_at_lem (g ∷ earlier) f later = text_at_lem earlier f later

here : (fs : List Finding) (position : ℕ) (f : Finding) → At fs position f → text_at position fs ≡ given (message f)
here fs position f at = rw (at.is, ← at.number) (text_at_lem at.earlier f at.later)

split : (fs : List Finding) (position : ℕ) → position < length fs → (f : Finding) × At fs position f
split [] position h = absurd (omega (arith, h))
split (f ∷ fs) zero h = (f, record { earlier = []; later = fs; is = refl; number = refl })
split (f ∷ fs) (suc position) h =
    let (g, at) = split fs position (omega (arith, h)) in
    (g, record { earlier = f ∷ at.earlier; later = at.later; is = ap (λ gs. f ∷ gs) at.is; number = ap suc at.number })

module _ (settings : Settings) (bytes store : List ℕ) (position : ℕ) (text : List ℕ) (answer : ℕ) where
  abbrev texts : Law → List Finding → Answer (List ℕ)
  texts law fs = text_at position fs

  -- ---- from the exported contract

  module _ (exit : BytesExit) (exported : exit ≡ bytes_exit answer (text_outcome 64 settings bytes store position text)) where
    pub shown : Shown settings bytes store position text (answer ∷ []) (seen exit)
    shown =
        let all = rows settings 13 texts bytes store text answer exit exported in
        record {
          refuses = refuses_so settings 13 texts bytes store text answer exit exported;
          findings_refused = all.findings_refused;
          position_refused = λ law l h places past. all.none_there law l h places 12 (none_at l.findings position past);
          text_refused = λ law l h places f at. all.room_refused law l h places (message f) (here l.findings position f at);
          writes = λ law l h places f at. all.writes law l h places (message f) (here l.findings position f at);
        }

  -- ---- the exported contract

  module _ (exit : BytesExit) (shown : Shown settings bytes store position text (answer ∷ []) (seen exit)) where
    by_position : (law : Law) (l : Listing) → Listed settings bytes store law l → length l.findings ≤ 256 → (b : Bool) → ltb position (length l.findings) ≡ b
        → seen exit ≡ seen_by settings 13 texts bytes store text answer (given law)
    by_position law l h places true e =
        let (f, at) = split l.findings position (ltb-true position (length l.findings) e) in
        by_room settings 13 texts bytes store text answer law l h.is places (message f) (here l.findings position f at) (seen exit)
        (shown.text_refused law l h places f at) (shown.writes law l h places f at)
    by_position law l h places false e =
        let past = ltb-false position (length l.findings) e in
        shown.position_refused law l h places past
        ∙ sym (none settings 13 texts bytes store text answer law l h.is places 12 (none_at l.findings position past))

    pub exported : exit ≡ bytes_exit answer (text_outcome 64 settings bytes store position text)
    exported =
        exported_so settings 13 texts bytes store text answer exit shown.refuses shown.findings_refused
        (λ law l h places. by_position law l h places (ltb position (length l.findings)) refl)

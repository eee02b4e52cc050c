-- What an editor relies on when it prints, and the contract of the page call: each follows from the other.
use Prim.Native.Nat.{ℕ}
use mathlib.Core.List.{List, [], ◌∷◌}
use mathlib.Core.Path.{◌≡◌, refl}
use lib.ListN.{length}
use Rattle.file.specs.Answer.{Answer, given}
use Rattle.law.specs.Tree.{Law}
use Rattle.lints.specs.Finding.{Finding}
use Rattle.lints.specs.Levels.{Settings}
use Rattle.pages.specs.Page.{page as page_of}
use Rattle.listing.specs.Outcome.{page_outcome}
use Rattle.bilzarko.specs.Exported.{BytesExit, bytes_exit}
use Rattle.loader.specs.Printed.{printed_page, Printed}
use Rattle.loader.proofs.BytesLaws.{seen, by_room, refuses_so, rows, exported_so}

module _ (settings : Settings) (bytes store page : List ℕ) (answer : ℕ) where
  abbrev pages : Law → List Finding → Answer (List ℕ)
  pages law fs = given (page_of settings (length law) fs)

  -- ---- from the exported contract

  module _ (exit : BytesExit) (exported : exit ≡ bytes_exit answer (page_outcome 64 settings bytes store page)) where
    pub printed : Printed settings bytes store page (answer ∷ []) (seen exit)
    printed =
        let all = rows settings 18 pages bytes store page answer exit exported in
        record {
          refuses = refuses_so settings 18 pages bytes store page answer exit exported;
          findings_refused = all.findings_refused;
          page_refused = λ law l h places. all.room_refused law l h places (printed_page settings law l) refl;
          writes = λ law l h places. all.writes law l h places (printed_page settings law l) refl;
        }

  -- ---- the exported contract

  module _ (exit : BytesExit) (printed : Printed settings bytes store page (answer ∷ []) (seen exit)) where
    pub exported : exit ≡ bytes_exit answer (page_outcome 64 settings bytes store page)
    exported =
        exported_so settings 18 pages bytes store page answer exit printed.refuses printed.findings_refused
        (λ law l h places. by_room settings 18 pages bytes store page answer law l h.is places (printed_page settings law l) refl (seen exit)
        (printed.page_refused law l h places) (printed.writes law l h places))

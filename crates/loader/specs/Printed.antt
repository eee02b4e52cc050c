-- What an editor relies on when it prints: the page call's answer, and every lent word and byte after it.
-- docs/SPECIFICATION.md, 12.3 to 12.5, 13.1, 21.
use Rattle.std.specs.Prelude.{ℕ, ◌≤◌, ◌<◌, List, [], ◌∷◌, ◌++◌, ◌≡◌, length, drop}
use Rattle.law.specs.Tree.{Law}
use Rattle.lints.specs.Levels.{Settings}
use Rattle.lints.specs.Findings.{Listing}
use Rattle.pages.specs.Page.{page as page_of}
use Rattle.loader.specs.Rows.{After, returned, filled, Listed, Refuses}

-- the page of a law's listing
abbrev pub printed_page : Settings → Law → Listing → List ℕ
printed_page settings law l = page_of settings (length law) l.findings

-- the page call has places for 256 findings; `page` and `answer` are what the lent bytes and the answer's word held before the call
pub record Printed (settings : Settings) (bytes store page answer : List ℕ) (after : After) : Type 0 where
  pub refuses : Refuses settings bytes store page answer after
  pub findings_refused : (law : Law) (l : Listing) → Listed settings bytes store law l → 256 < length l.findings
      → after ≡ returned 11 (filled l store) page answer
  pub page_refused : (law : Law) (l : Listing) → Listed settings bytes store law l → length l.findings ≤ 256
      → length page < length (printed_page settings law l) → after ≡ returned 18 (filled l store) page answer
  pub writes : (law : Law) (l : Listing) → Listed settings bytes store law l → length l.findings ≤ 256
      → length (printed_page settings law l) ≤ length page
      → after ≡ returned 0 (filled l store) (printed_page settings law l ++ drop (length (printed_page settings law l)) page) (length (printed_page settings law l) ∷ [])

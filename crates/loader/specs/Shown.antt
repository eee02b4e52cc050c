-- What an editor relies on: the text call's answer, and every lent word and byte after it.
-- docs/SPECIFICATION.md, 12.3 to 12.5, 13.1.
use Rattle.std.specs.Prelude.{ℕ, ◌≤◌, ◌<◌, List, [], ◌∷◌, ◌++◌, ◌≡◌, length, drop}
use Rattle.law.specs.Tree.{Law}
use Rattle.lints.specs.Finding.{Finding}
use Rattle.lints.specs.Levels.{Settings}
use Rattle.lints.specs.Findings.{Listing}
use Rattle.lints.specs.Message.{message}
use Rattle.loader.specs.Rows.{After, returned, filled, Listed, Refuses}

-- a finding stands at a position, from 0
pub record At (findings : List Finding) (position : ℕ) (finding : Finding) : Type 0 where
  pub earlier : List Finding
  pub later : List Finding
  pub is : findings ≡ earlier ++ finding ∷ later
  pub number : length earlier ≡ position

-- the text call has places for 256 findings; `text` and `answer` are what the lent bytes and the answer's word held before the call
pub record Shown (settings : Settings) (bytes store : List ℕ) (position : ℕ) (text answer : List ℕ) (after : After) : Type 0 where
  pub refuses : Refuses settings bytes store text answer after
  pub findings_refused : (law : Law) (l : Listing) → Listed settings bytes store law l → 256 < length l.findings
      → after ≡ returned 11 (filled l store) text answer
  pub position_refused : (law : Law) (l : Listing) → Listed settings bytes store law l → length l.findings ≤ 256 → length l.findings ≤ position
      → after ≡ returned 12 (filled l store) text answer
  pub text_refused : (law : Law) (l : Listing) → Listed settings bytes store law l → length l.findings ≤ 256 → (f : Finding) → At l.findings position f
      → length text < length (message f) → after ≡ returned 13 (filled l store) text answer
  pub writes : (law : Law) (l : Listing) → Listed settings bytes store law l → length l.findings ≤ 256 → (f : Finding) → At l.findings position f
      → length (message f) ≤ length text → after ≡ returned 0 (filled l store) (message f ++ drop (length (message f)) text) (length (message f) ∷ [])

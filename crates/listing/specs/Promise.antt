-- What the findings call promises, its outcome and demand 3 of what it lists; and the outcome of a call that writes bytes.
-- docs/SPECIFICATION.md, 16.4.
use Rattle.std.specs.Prelude.{ℕ, ◌*◌, true, List, ◌≡◌, take, Result}
use Rattle.file.specs.Answer.{given}
use Rattle.law.specs.Tree.{Law}
use Rattle.law.specs.Law.{law_of}
use Rattle.lints.specs.Levels.{Settings}
use Rattle.runs.specs.Claim.{NoFalseFinding}
use Rattle.listing.specs.declared.Turned.{Turned}
use Rattle.listing.specs.declared.Listed.{Listed}
use Rattle.listing.specs.Outcome.{Count, found_answer, FindingsOutcome, findings_outcome, told_answer, BytesOutcome}

abbrev pub findings_after : Result Listed Turned → List ℕ → List ℕ → FindingsOutcome
findings_after r store words = record { answer = found_answer r; store = store; findings = words }

abbrev pub bytes_after : Result ℕ Turned → List ℕ → List ℕ → BytesOutcome
bytes_after r store buffer = record { answer = told_answer r; store = store; bytes = buffer }

-- `bytes` is the law; `store` and `words` are lent, and `filled` and `listed` are what they hold afterwards
pub record FindingsPromise (limit : ℕ) (settings : Settings) (bytes store words filled listed : List ℕ) (r : Result Listed Turned) : Type 0 where
  pub outcome : findings_after r filled listed ≡ findings_outcome limit settings bytes store words
  -- Demand 3: there is no run in which a call listed under the recognition lint finds a sentence of its function whose left side matches, conditions
  -- aside, or in which a function's sentence listed as dead is chosen; for every law that is not refused, whatever the settings and the room. It has
  -- one premise: settled.
  pub no_false_finding : (law : Law) (count : Count) → law_of bytes ≡ given law → found_answer r ≡ given count → count.settled ≡ true
      → NoFalseFinding law (take (8 * count.findings) listed)

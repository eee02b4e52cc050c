-- What the exported calls return, and every lent word after them. A call over C returns one number, and what it answers stands in lent words.
-- docs/SPECIFICATION.md, 13.1, 20.5, 21.11.
use Rattle.std.specs.Prelude.{ℕ, ◌*◌, cond, List, [], ◌∷◌, ◌≡◌, take, get_or}
use Rattle.file.specs.Answer.{Answer, refused, given}
use Rattle.numbers.specs.declared.Step.{Step}
use Rattle.numbers.specs.declared.Tested.{Tested}
use Rattle.numbers.specs.declared.Tested.TheVariants.{AtMost, Past, NoDigit}
use Rattle.law.specs.Tree.{Law}
use Rattle.law.specs.Law.{law_of}
use Rattle.lints.specs.Levels.{Settings}
use Rattle.runs.specs.Claim.{NoFalseFinding}
use Rattle.listing.specs.Outcome.{Count, FindingsOutcome, findings_outcome, BytesOutcome}
use Rattle.reader.specs.Outcome.{ReadOutcome}

-- the number that is returned: the refusal's, or 0
abbrev pub number_returned : {A : Type 0} → Answer A → ℕ
number_returned (refused n) = n
number_returned (given a) = 0

-- what a lent answer holds afterwards: what it held before, or the call's answer
abbrev pub answer_after : {A B : Type 0} → (A → B) → B → Answer A → B
answer_after words before (refused n) = before
answer_after words before (given a) = words a

-- ---- the findings call

-- count, rounds, and 1 for settled or 0
abbrev pub count_words : Count → List ℕ
count_words count = count.findings ∷ count.rounds ∷ cond count.settled 1 0 ∷ []

pub record FindingsExit : Type 0 where
  pub number : ℕ
  pub store : List ℕ
  pub findings : List ℕ
  pub answer : List ℕ

-- `before` is what the answer's three words held
abbrev pub findings_exit : List ℕ → FindingsOutcome → FindingsExit
findings_exit before o = record {
  number = number_returned o.answer;
  store = o.store;
  findings = o.findings;
  answer = answer_after count_words before o.answer;
}

-- `bytes` is the law; `store`, `words` and `answer` are lent
pub record FindingsExported (limit : ℕ) (settings : Settings) (bytes store words answer : List ℕ) (after : FindingsExit) : Type 0 where
  pub outcome : after ≡ findings_exit answer (findings_outcome limit settings bytes store words)
  -- Demand 3, by what a caller sees: 0 was returned, and the third word of the answer is 1. Then no finding among the words is false in any run.
  pub no_false_finding : (law : Law) → law_of bytes ≡ given law → after.number ≡ 0 → get_or after.answer 2 0 ≡ 1
      → NoFalseFinding law (take (8 * get_or after.answer 0 0) after.findings)

-- ---- the calls that write bytes of a listing

pub record BytesExit : Type 0 where
  pub number : ℕ
  pub store : List ℕ
  pub bytes : List ℕ
  pub answer : ℕ

-- the answer is the number of bytes written
abbrev pub bytes_exit : ℕ → BytesOutcome → BytesExit
bytes_exit before o = record {
  number = number_returned o.answer;
  store = o.store;
  bytes = o.bytes;
  answer = answer_after (λ bytes. bytes) before o.answer;
}

-- ---- the call that reads a text

pub record ReadExit : Type 0 where
  pub number : ℕ
  pub law : List ℕ
  pub answer : ℕ

-- the answer is the number of bytes written
abbrev pub read_exit : ℕ → ReadOutcome → ReadExit
read_exit before o = record {
  number = number_returned o.answer;
  law = o.law;
  answer = answer_after (λ bytes. bytes) before o.answer;
}

-- ---- the call that takes a digit

-- the number that is returned
abbrev pub tested_number : Tested → ℕ
tested_number Past = 0
tested_number AtMost = 1
tested_number NoDigit = 2

pub record DigitExit : Type 0 where
  pub number : ℕ
  pub state : ℕ

abbrev pub digit_exit : Step → DigitExit
digit_exit step = record { number = tested_number step.answer; state = step.state }

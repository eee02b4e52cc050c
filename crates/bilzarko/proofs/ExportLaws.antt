-- What the exported calls return, from what the calls of `listing`, `reader` and `numbers` answer.
use Prim.Native.Nat.{ℕ}
use mathlib.Core.Bool.{Bool, true, false, cond}
use mathlib.Core.List.{List, [], ◌∷◌}
use mathlib.Core.Path.{◌≡◌, refl, ap}
use native.Mathlib.Omega.{arith}
use Rattle.std.specs.Prelude.{Result, Ok, Err}
use Rattle.std.specs.Int.{from_bool}
use Rattle.numbers.specs.declared.Step.{Step}
use Rattle.file.specs.declared.Refusal.{Refusal}
use Rattle.file.specs.declared.Refusal.TheVariants as file
use Rattle.file.specs.Sections.{number_of}
use Rattle.lints.specs.Levels.{Settings}
use Rattle.listing.specs.declared.Turned.{Turned}
use Rattle.listing.specs.declared.Turned.TheVariants as turned
use Rattle.listing.specs.declared.Listed.{Listed}
use Rattle.listing.specs.Outcome.{turned_number, BytesOutcome}
use Rattle.listing.specs.Promise.{bytes_after, FindingsPromise}
use Rattle.reader.specs.declared.Unread.{Unread}
use Rattle.reader.specs.Outcome.{unread_number, ReadOutcome, read_after}
use Rattle.bilzarko.specs.Exported.{FindingsExported, BytesExit, bytes_exit, ReadExit, read_exit, tested_number, DigitExit, digit_exit}

-- no refusal's number is 0
file_number_some : (why : Refusal) → number_of why ≡ 0 → ⊥
file_number_some file.FileOver e = omega (arith, e)
file_number_some file.CutOff e = omega (arith, e)
file_number_some file.LeftOver e = omega (arith, e)
file_number_some file.CountOver e = omega (arith, e)
file_number_some file.Fields e = omega (arith, e)
file_number_some file.Runs e = omega (arith, e)
file_number_some file.Blocks e = omega (arith, e)
file_number_some file.Depth e = omega (arith, e)
file_number_some file.Patterns e = omega (arith, e)

turned_number_some : (why : Turned) → turned_number why ≡ 0 → ⊥
turned_number_some turned.Settings e = omega (arith, e)
turned_number_some (turned.File why) e = file_number_some why e
turned_number_some turned.Store e = omega (arith, e)
turned_number_some turned.Shapes e = omega (arith, e)
turned_number_some turned.Findings e = omega (arith, e)
turned_number_some turned.NoFinding e = omega (arith, e)
turned_number_some turned.Text e = omega (arith, e)
turned_number_some turned.Page e = omega (arith, e)

-- 1 for settled, 0 for not, as the code makes it
pub settled_word : (settled : Bool) → from_bool settled ≡ cond settled 1 0
settled_word true = refl
settled_word false = refl

-- a word that is 1 says settled
settled_by_word : (settled : Bool) → ◌≡◌ {A = ℕ} (cond settled 1 0) 1 → settled ≡ true
settled_by_word true e = refl
settled_by_word false e = absurd (omega (arith, e))

module _ {limit : ℕ} {settings : Settings} {bytes store words filled listed : List ℕ} (answer : List ℕ) {r : Result Listed Turned}
    (promise : FindingsPromise limit settings bytes store words filled listed r) where
  -- the findings call is refused: the answer keeps its words
  pub findings_refused : (why : Turned) {number : ℕ} → r ≡ Err why → number ≡ turned_number why
      → FindingsExported limit settings bytes store words answer (record { number = number; store = filled; findings = listed; answer = answer })
  findings_refused why is number_is = record {
    outcome = rw (← promise.outcome, is, number_is) refl;
    no_false_finding = λ law law-is none. absurd (turned_number_some why (rw (← number_is) none));
  }

  -- the findings call lists
  pub findings_listed : (l : Listed) {word : ℕ} → r ≡ Ok l → word ≡ cond l.settled 1 0
      → FindingsExported limit settings bytes store words answer (record { number = 0; store = filled; findings = listed; answer = l.count ∷ l.rounds ∷ word ∷ [] })
  findings_listed l is word-is = record {
    outcome = rw (← promise.outcome, is, word-is) refl;
    no_false_finding = λ law law-is none one.
        promise.no_false_finding law (record { findings = l.count; rounds = l.rounds; settled = l.settled }) law-is (rw is refl) (settled_by_word l.settled (rw (← word-is) one));
  }

module _ {filled after : List ℕ} (answer : ℕ) {o : BytesOutcome} {r : Result ℕ Turned} (outcome : bytes_after r filled after ≡ o) where
  -- a call that writes bytes is refused: the answer keeps its word
  pub bytes_refused : (why : Turned) {number : ℕ} → r ≡ Err why → number ≡ turned_number why
      → ◌≡◌ {A = BytesExit} (record { number = number; store = filled; bytes = after; answer = answer }) (bytes_exit answer o)
  bytes_refused why is number_is = rw (← outcome, is, number_is) refl

  -- it writes
  pub bytes_written : (number : ℕ) → r ≡ Ok number
      → ◌≡◌ {A = BytesExit} (record { number = 0; store = filled; bytes = after; answer = number }) (bytes_exit answer o)
  bytes_written number is = rw (← outcome, is) refl

module _ {after : List ℕ} (answer : ℕ) {o : ReadOutcome} {r : Result ℕ Unread} (outcome : read_after r after ≡ o) where
  -- the text is not read: the answer keeps its word
  pub read_refused : (why : Unread) {number : ℕ} → r ≡ Err why → number ≡ unread_number why
      → ◌≡◌ {A = ReadExit} (record { number = number; law = after; answer = answer }) (read_exit answer o)
  read_refused why is number_is = rw (← outcome, is, number_is) refl

  -- its law file is written
  pub read_written : (bytes : ℕ) → r ≡ Ok bytes → ◌≡◌ {A = ReadExit} (record { number = 0; law = after; answer = bytes }) (read_exit answer o)
  read_written bytes is = rw (← outcome, is) refl

-- a digit is taken
pub digit_taken : {step taken : Step} {number : ℕ} → step ≡ taken → number ≡ tested_number step.answer
    → ◌≡◌ {A = DigitExit} (record { number = number; state = step.state }) (digit_exit taken)
digit_taken is number_is = rw number_is (ap digit_exit is)

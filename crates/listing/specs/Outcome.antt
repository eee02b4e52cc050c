-- What the three calls answer, and every lent word after them. Document 01, "Where a call is turned back": "A refusal is its number only; the first in
-- this table's order is given."
-- docs/SPECIFICATION.md, 12.1 to 12.5, 21.
use Rattle.std.specs.Prelude.{ℕ, zero, suc, ◌*◌, Bool, not, cond, List, [], ◌∷◌, ◌++◌, length, drop, replicate, eqb, ltb, leb, Result, Ok, Err}
use Rattle.file.specs.Answer.{Answer, refused, given, refuse_if, ◌>>=◌, ◌>>◌}
use Rattle.file.specs.Sections.{number_of}
use Rattle.law.specs.Tree.{Law}
use Rattle.law.specs.Law.{law_of}
use Rattle.formats.specs.Store.{store_size, store_words}
use Rattle.buffers.specs.Written.{written}
use Rattle.buffers.specs.Fitted.{fitted}
use Rattle.lints.specs.Finding.{Finding}
use Rattle.lints.specs.Levels.{Settings, settings_allowed, listing_words}
use Rattle.lints.specs.Findings.{Listing, listing}
use Rattle.lints.specs.Message.{message}
use Rattle.pages.specs.Page.{page}
use Rattle.listing.specs.declared.Turned.{Turned}
use Rattle.listing.specs.declared.Turned.TheVariants as turned
use Rattle.listing.specs.declared.Listed.{Listed}

-- ---- the code's answers, by the numbers and values of documents 01 and 02

abbrev pub turned_number : Turned → ℕ
turned_number turned.Settings = 14
turned_number (turned.File why) = number_of why
turned_number turned.Store = 15
turned_number turned.Shapes = 10
turned_number turned.Findings = 11
turned_number turned.NoFinding = 12
turned_number turned.Text = 13
turned_number turned.Page = 18

-- "The findings call answers count, rounds and settled"
pub record Count : Type 0 where
  pub findings : ℕ
  pub rounds : ℕ
  pub settled : Bool

abbrev pub found_answer : Result Listed Turned → Answer Count
found_answer (Err why) = refused (turned_number why)
found_answer (Ok l) = given (record { findings = l.count; rounds = l.rounds; settled = l.settled })

-- "the text call [..] answers the bytes written", and of later calls: "a call that writes bytes answers their number"
abbrev pub told_answer : Result ℕ Turned → Answer ℕ
told_answer (Err why) = refused (turned_number why)
told_answer (Ok bytes) = given bytes

-- ---- the front that all calls share: 14; 1 to 9; 15

unfoldable pub front : ℕ → Settings → List ℕ → List ℕ → Answer Law
front limit settings bytes store = do
  refuse_if 14 (not (settings_allowed settings))
  law ← law_of bytes
  refuse_if 15 (ltb (length store) (store_size limit))
  given law

-- ---- the store: "8,320 store words zero" with 10, else "store filled"; "Store words past 8,320 always" keep their values

abbrev pub store_after : ℕ → List ℕ → Answer Listing → List ℕ
store_after limit store (refused n) = cond (eqb n 10) (replicate (store_size limit) 0 ++ drop (store_size limit) store) store
store_after limit store (given l) = store_words limit l.inferred ++ drop (store_size limit) store

-- ---- the findings call

pub record FindingsOutcome : Type 0 where
  pub answer : Answer Count
  pub store : List ℕ
  pub findings : List ℕ

-- 11, "they do not fit": they fit where 8 × count is at most the lent words (docs/SPECIFICATION.md, 12.3); "words past the last finding [..] keep their values"
abbrev pub listed : Settings → List ℕ → Listing → Answer Count × List ℕ
listed settings words l =
    cond (leb (8 * length l.findings) (length words)) (
      given (record { findings = length l.findings; rounds = l.inferred.rounds; settled = l.inferred.settled }),
      written words 0 (listing_words settings l.findings),
    )
    (refused 11, words)

abbrev pub listed_by : Settings → List ℕ → Answer Listing → Answer Count × List ℕ
listed_by settings words (refused n) = (refused n, words)
listed_by settings words (given l) = listed settings words l

abbrev pub findings_front : ℕ → Settings → List ℕ → List ℕ → Answer Law → FindingsOutcome
findings_front limit settings store words (refused n) = record { answer = refused n; store = store; findings = words }
findings_front limit settings store words (given law) =
    let made : Answer Listing = listing limit settings law in
    record {
      answer = (listed_by settings words made).0;
      store = store_after limit store made;
      findings = (listed_by settings words made).1;
    }

unfoldable pub findings_outcome : ℕ → Settings → List ℕ → List ℕ → List ℕ → FindingsOutcome
findings_outcome limit settings bytes store words = findings_front limit settings store words (front limit settings bytes store)

-- ---- the calls that write bytes of a listing

pub record BytesOutcome : Type 0 where
  pub answer : Answer ℕ
  pub store : List ℕ
  pub bytes : List ℕ

-- bytes of a listing in a lent buffer, or the refusal, by its number, that they do not fit; where there are none, the refusal that says why
abbrev pub fitted_bytes : ℕ → List ℕ → Answer (List ℕ) → Answer ℕ × List ℕ
fitted_bytes number buffer (refused n) = (refused n, buffer)
fitted_bytes number buffer (given bytes) = fitted number buffer bytes

-- `bytes_of` are those of a law and its listing
abbrev pub bytes_front : ℕ → Settings → (number : ℕ) → (bytes_of : Law → Listing → Answer (List ℕ)) → (store buffer : List ℕ) → Answer Law → BytesOutcome
bytes_front limit settings number bytes_of store buffer (refused n) = record { answer = refused n; store = store; bytes = buffer }
bytes_front limit settings number bytes_of store buffer (given law) =
    let made : Answer Listing = listing limit settings law in
    record {
      answer = (fitted_bytes number buffer (made >>= bytes_of law)).0;
      store = store_after limit store made;
      bytes = (fitted_bytes number buffer (made >>= bytes_of law)).1;
    }

unfoldable pub bytes_outcome : ℕ → Settings → (number : ℕ) → (bytes_of : Law → Listing → Answer (List ℕ)) → (bytes store buffer : List ℕ) → BytesOutcome
bytes_outcome limit settings number bytes_of bytes store buffer = bytes_front limit settings number bytes_of store buffer (front limit settings bytes store)

-- "The text call has its own findings of 256 places; more is 11." So has the page call: "Over 256 findings is 11."
abbrev pub own_places : ℕ
own_places = 256

abbrev pub own_bytes : (Law → List Finding → Answer (List ℕ)) → Law → Listing → Answer (List ℕ)
own_bytes bytes_of law l = cond (ltb own_places (length l.findings)) (refused 11) (bytes_of law l.findings)

-- ---- the text call

-- the text of the finding at a position, from 0; 12, "no such finding"
unfoldable pub text_at : ℕ → List Finding → Answer (List ℕ)
text_at position [] = refused 12
text_at zero (f ∷ fs) = given (message f)
text_at (suc position) (f ∷ fs) = text_at position fs

abbrev pub text_of : ℕ → Law → Listing → Answer (List ℕ)
text_of position = own_bytes (λ law fs. text_at position fs)

-- 13, "the text does not fit"
abbrev pub text_outcome : ℕ → Settings → List ℕ → List ℕ → ℕ → List ℕ → BytesOutcome
text_outcome limit settings bytes store position text = bytes_outcome limit settings 13 (text_of position) bytes store text

-- ---- the page call

abbrev pub page_of : Settings → Law → Listing → Answer (List ℕ)
page_of settings = own_bytes (λ law fs. given (page settings (length law) fs))

-- 18: "a page buffer too short, after all other refusals, the store filled"
abbrev pub page_outcome : ℕ → Settings → List ℕ → List ℕ → List ℕ → BytesOutcome
page_outcome limit settings bytes store buffer = bytes_outcome limit settings 18 (page_of settings) bytes store buffer

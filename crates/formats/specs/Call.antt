-- The inference call: what it answers, and every word of the store after it. Document 01, "Where a call is turned back": 1 to 9 leave the store as it
-- was; 15, "under 8,320 words", too; 10 leaves the store's words zero. "Store words past 8,320 always do" keep their values.
use Rattle.std.specs.Prelude.{ℕ, Bool, true, false, List, ◌++◌, length, drop, replicate, ltb, Result, Ok, Err}
use Rattle.file.specs.Sections.{number_of}
use Rattle.file.specs.Answer.{Answer, refused, given}
use Rattle.law.specs.Tree.{Law}
use Rattle.law.specs.Law.{law_of}
use Rattle.formats.specs.Infer.{Inferred, infer}
use Rattle.formats.specs.Store.{store_size, store_words}
use Rattle.formats.specs.declared.Inferred as code
use Rattle.formats.specs.declared.Unformed.{Unformed}
use Rattle.formats.specs.declared.Unformed.TheVariants.{Refused, TooWide, StoreShort}

-- how many rounds ran, and whether the last changed nothing
pub record Ran : Type 0 where
  pub rounds : ℕ
  pub settled : Bool

-- document 01's number of each refusal; 10, "over 64 shapes", and 15, a store "under 8,320 words", have variants of their own
abbrev pub infer_answer : Result code.Inferred Unformed → Answer Ran
infer_answer (Err (Refused why)) = refused (number_of why)
infer_answer (Err TooWide) = refused 10
infer_answer (Err StoreShort) = refused 15
infer_answer (Ok made) = given (record { rounds = made.rounds; settled = made.settled })

-- what a call answers, and the store after it
pub record InferOutcome : Type 0 where
  pub answer : Answer Ran
  pub store : List ℕ

abbrev pub infer_outcome : Result code.Inferred Unformed → List ℕ → InferOutcome
infer_outcome r words = record { answer = infer_answer r; store = words }

-- an inference that is refused leaves zeros
abbrev pub inferred_outcome : ℕ → List ℕ → Answer Inferred → InferOutcome
inferred_outcome limit store (refused n) = record {
  answer = refused n;
  store = replicate (store_size limit) 0 ++ drop (store_size limit) store;
}
inferred_outcome limit store (given i) = record {
  answer = given (record { rounds = i.rounds; settled = i.settled });
  store = store_words limit i ++ drop (store_size limit) store;
}

-- a store that is too short is refused before anything is inferred
abbrev pub law_outcome : ℕ → List ℕ → Answer Law → InferOutcome
law_outcome limit store (refused n) = record { answer = refused n; store = store }
law_outcome limit store (given law) = elim (ltb (length store) (store_size limit)) as (λ _. InferOutcome) [
  | true ↦ record { answer = refused 15; store = store }
  | false ↦ inferred_outcome limit store (infer limit law)
]

unfoldable pub call_outcome : ℕ → List ℕ → List ℕ → InferOutcome
call_outcome limit bytes store = law_outcome limit store (law_of bytes)

-- What a loader relies on: the findings call's answer, every lent word after it, and demand 3 in terms of a run.
-- docs/SPECIFICATION.md, 12.3 to 12.5, 13.1, 16.3, 16.4.
use Rattle.std.specs.Prelude.{ℕ, ◌+◌, ◌*◌, ◌≤◌, ◌<◌, cond, ◌≡◌, length, drop, get_or}
use mathlib.Core.List.{List, [], ◌∷◌, ◌++◌, Memᴰ}
use Rattle.std.proofs.Math.Option.{some}
use Rattle.file.specs.Answer.{given}
use Rattle.law.specs.Tree.{Run, Sentences, Function, Law}
use Rattle.law.specs.Law.{law_of}
use Rattle.law.specs.Definition.{definition}
use Rattle.law.specs.Expression.{Expression}
use Rattle.lints.specs.Levels.{Settings, listing_words}
use Rattle.lints.specs.Findings.{Listing}
use Rattle.runs.specs.Machine.{Env, Stack, State, called, chosen, run}
use Rattle.runs.specs.Claim.{Recognises, OfFunction}
use Rattle.loader.specs.Rows.{After, returned, filled, Listed, Refuses}

-- the words with those of a listing before them, and the answer's three words
abbrev pub listed_in : Settings → Listing → List ℕ → List ℕ
listed_in settings l words = listing_words settings l.findings ++ drop (8 * length l.findings) words

abbrev pub counted : Listing → List ℕ
counted l = length l.findings ∷ l.inferred.rounds ∷ cond l.inferred.settled 1 0 ∷ []

-- ---- demand 3, by what a caller sees

-- its premises: 0 was returned, and settled is 1
pub record Claimed (bytes : List ℕ) (after : After) (law : Law) : Type 0 where
  pub read : law_of bytes ≡ given law
  pub listed : after.number ≡ 0
  pub settled : get_or after.answer 2 0 ≡ 1

-- a run of a function of the law comes to a state
pub record Comes (law : Law) (state : State) : Type 0 where
  pub function : Function
  pub of_law : Memᴰ function law
  pub argument : Expression
  pub answers : List Expression
  pub steps : ℕ
  pub to : run law function argument answers steps ≡ state

-- one of the findings, as many as the answer's first word, has a lint and a subject
abbrev pub Finds : After → ℕ → ℕ → Type 0
Finds after lint subject =
    (j : ℕ) × (j < get_or after.answer 0 0) × (get_or after.words (8 * j) 0 ≡ lint) × (get_or after.words (8 * j + 7) 0 ≡ subject)

-- ---- the findings call

pub record Loaded (settings : Settings) (bytes store words answer : List ℕ) (after : After) : Type 0 where
  pub refuses : Refuses settings bytes store words answer after
  pub findings_refused : (law : Law) (l : Listing) → Listed settings bytes store law l → length words < 8 * length l.findings
      → after ≡ returned 11 (filled l store) words answer
  pub lists : (law : Law) (l : Listing) → Listed settings bytes store law l → 8 * length l.findings ≤ length words
      → after ≡ returned 0 (filled l store) (listed_in settings l words) (counted l)
  -- no sentence of a function matches where a call of it that is listed under lint 2 is reached
  pub never_recognised : (law : Law) → Claimed bytes after law → (subject : ℕ) → Finds after 2 subject
      → (name : List ℕ) (v : Expression) (k : Stack) (left : List Expression) → Comes law (called subject name v k left)
      → (ss : Sentences) → definition law name ≡ some ss → Recognises ss v → ⊥
  -- no function's sentence is chosen that is listed under lint 1
  pub never_chosen : (law : Law) → Claimed bytes after law → (subject : ℕ) → Finds after 1 subject → OfFunction law subject
      → (r : Run) (env : Env) (k : Stack) (left : List Expression) → Comes law (chosen subject r env k left) → ⊥

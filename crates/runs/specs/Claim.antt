-- What is claimed of the findings of a law: "Demand 3 is one claim over a whole run and not one for each step." There is no run in which a call listed
-- under the recognition lint finds a sentence of its function whose left side matches, conditions aside, or in which a function's sentence listed as
-- dead is chosen. The theorem is `no_false_finding` (proofs/NoFalse.antt). Two functions of one folded name are allowed there: a run starts with either,
-- a call goes to the last, which literal matching takes too, formats join both, and sentences are told by their records.
-- docs/SPECIFICATION.md, 15.8, 16.3.
use Rattle.std.specs.Prelude.{ℕ, ◌+◌, ◌*◌, ◌≤◌, true, ◌⊎◌, ◌≡◌, length, get_or}
use mathlib.Core.List.{List, [], ◌∷◌, Memᴰ}
use Rattle.std.proofs.Math.Option.{some}
use Rattle.law.specs.Tree.{Run, Sentences, no_sentence, sentence, Function, Law}
use Rattle.law.specs.Definition.{definition}
use Rattle.law.specs.Expression.{Expression}
use Rattle.matching.specs.Pattern.{pattern_of}
use Rattle.matching.specs.Match.{none_bound, some_in, run_matches}
use Rattle.runs.specs.Machine.{Env, Stack, State, called, chosen, run}

-- ---- over a whole run

-- a state of a run: of any function of the law, on any expression, with any answers, cut off after any number of steps
pub record Reached (law : Law) (state : State) : Type 0 where
  pub function : Function
  pub of_law : Memᴰ function law
  pub argument : Expression
  pub answers : List Expression
  pub steps : ℕ
  pub comes : run law function argument answers steps ≡ state

-- some sentence's left side matches, conditions aside: a function's sentences are tried "each with no values at first"
abbrev pub Recognises : Sentences → Expression → Type 0
Recognises no_sentence v = ⊥
Recognises (sentence m p cs r ss) v = (some_in (run_matches (pattern_of p) v none_bound) ≡ true) ⊎ Recognises ss v

-- wherever one of these calls, told by its term record, is reached, no sentence of its function matches
abbrev pub NeverRecognised : Law → (ℕ → Type 0) → Type 0
NeverRecognised law Listed =
    (m : ℕ) (f : List ℕ) (v : Expression) (k : Stack) (left : List Expression) → Reached law (called m f v k left)
    → Listed m → (ss : Sentences) → definition law f ≡ some ss → Recognises ss v → ⊥

-- none of these sentences, told by its record, is chosen
abbrev pub NeverChosen : Law → (ℕ → Type 0) → Type 0
NeverChosen law Listed = (i : ℕ) (r : Run) (env : Env) (k : Stack) (left : List Expression) → Reached law (chosen i r env k left) → Listed i → ⊥

-- ---- which sentences are functions'

-- the record is that of one of these sentences
abbrev pub IsAmong : ℕ → Sentences → Type 0
IsAmong i no_sentence = ⊥
IsAmong i (sentence m p cs r ss) = (m.at ≡ i) ⊎ IsAmong i ss

-- of a function's own sentence, and not of a block's
abbrev pub OfFunction : Law → ℕ → Type 0
OfFunction [] i = ⊥
OfFunction (f ∷ fs) i = IsAmong i f.sentences ⊎ OfFunction fs i

-- ---- the claim, by the words of findings

-- a listing of eight words a finding has one with this lint and this subject: its first word and its last
abbrev pub Lists : List ℕ → ℕ → ℕ → Type 0
Lists words lint subject = (j : ℕ) × (8 * j + 8 ≤ length words) × (get_or words (8 * j) 0 ≡ lint) × (get_or words (8 * j + 7) 0 ≡ subject)

-- lint 1 is dead, 2 is recognition
pub record NoFalseFinding (law : Law) (words : List ℕ) : Type 0 where
  pub recognition : NeverRecognised law (Lists words 2)
  pub dead : NeverChosen law (λ i. OfFunction law i × Lists words 1 i)

-- How a run refutes a listing: the claim (specs/Claim.antt) is false of it where a state of the run has a finding that is false.
-- docs/SPECIFICATION.md, 16.3.
use Rattle.std.specs.Prelude.{ℕ, ◌≡◌, refl}
use mathlib.Core.List.{List, Memᴰ}
use Rattle.std.proofs.Math.Option.{Option, none, some}
use Rattle.law.specs.Tree.{Sentences, Function, Law}
use Rattle.law.specs.Definition.{definition}
use Rattle.law.specs.Expression.{Expression}
use Rattle.runs.specs.Machine.{State, working, called, entered, trying, chosen, finished, stopped, run}
use Rattle.runs.specs.Claim.{Reached, Recognises, OfFunction, Lists, NoFalseFinding}

-- where a name is defined, some sentence of it matches
abbrev pub Recognised : Option Sentences → Expression → Type 0
Recognised none v = ⊥
Recognised (some ss) v = Recognises ss v

-- a finding is false in this state: of a call that is reached, or of a sentence that is chosen
abbrev pub IsFalse : Law → List ℕ → State → Type 0
IsFalse law words (working r env u k left) = ⊥
IsFalse law words (called m f v k left) = Lists words 2 m × Recognised (definition law f) v
IsFalse law words (entered n ss env v k left) = ⊥
IsFalse law words (trying t k left) = ⊥
IsFalse law words (chosen i r env k left) = OfFunction law i × Lists words 1 i
IsFalse law words (finished v) = ⊥
IsFalse law words stopped = ⊥

refuted : (law : Law) (words : List ℕ) (state : State) → Reached law state → IsFalse law words state → NoFalseFinding law words → ⊥
refuted law words (working r env u k left) reached h claim = elim h [ ]
refuted law words (called m f v k left) reached (listed, found) claim = go (definition law f) refl found
  where
    go : (o : Option Sentences) → definition law f ≡ o → Recognised o v → ⊥
    go none e h = elim h [ ]
    go (some ss) e h = claim.recognition m f v k left reached listed ss e h
refuted law words (entered n ss env v k left) reached h claim = elim h [ ]
refuted law words (trying t k left) reached h claim = elim h [ ]
refuted law words (chosen i r env k left) reached h claim = claim.dead i r env k left reached h
refuted law words (finished v) reached h claim = elim h [ ]
refuted law words stopped reached h claim = elim h [ ]

-- by a run of a function of the law, on an expression, with answers, after so many steps
pub shown : {law : Law} {words : List ℕ} {f : Function} → Memᴰ f law → (v : Expression) (answers : List Expression) (n : ℕ)
    → IsFalse law words (run law f v answers n) → NoFalseFinding law words → ⊥
shown {law} {words} {f} in_law v answers n =
    refuted law words (run law f v answers n) (record { function = f; of_law = in_law; argument = v; answers = answers; steps = n; comes = refl })

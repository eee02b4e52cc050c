-- The invariant of a run (specs/Machine.antt), and that each step keeps it. It says what is needed for all that waits to go on, whatever comes:
-- `Res` says what a call of a folded name can come to, `Listed` which calls, by record, are never to be recognised, and `Dead` which sentences, by
-- record, are never to be chosen.
use Prim.Native.Nat.{ℕ, zero, suc}
use mathlib.Core.List.{List, [], ◌∷◌, Memᴰ}
use mathlib.Core.Option.{Option, some, none}
use mathlib.Core.Path.{◌≡◌, refl, sym, subst}
use native.Mathlib.Omega.{arith}
use Rattle.names.specs.Name.{folded, folded_index}
use Rattle.law.specs.Tree as tree
use Rattle.law.specs.Tree.{Name, Kind, Run, Sentences, no_sentence, sentence, Conditions, no_condition, condition, Function, Law}
use Rattle.law.specs.Definition.{definition}
use Rattle.law.specs.Expression.{Expression, nothing, symbol, brackets, ◌⊕◌}
use Rattle.law.specs.Symbol.{symbol_of, literal_of}
use Rattle.matching.specs.Pattern.{pattern_of}
use Rattle.matching.specs.Match.{none_bound, value_in, any_literal, run_matches}
use Rattle.matching.specs.Fill.{OfKind, RunKindedValues}
use Rattle.matching.proofs.RowLaws.{row_assoc, row_nothing}
use Rattle.matching.proofs.SearchLaws.{none_kinded}
use Rattle.matching.proofs.FillLaws.{run_sound}
use Rattle.runs.specs.Machine.{Env, Trial, sentences, ways, Stack, over, in_bracket, in_call, in_block, in_place, in_condition}
use Rattle.runs.specs.Machine.{State, working, called, entered, trying, chosen, finished, stopped, give, answered, step, steps, run}
use Rattle.runs.specs.Claim.{Reached, NeverChosen}
use Rattle.runs.proofs.Fits.{Fits, fits_empty, fits_symbol, fits_variable, fits_bracket, fits_call, fits_block}

-- ---- values

-- every one of some matches gives values of the right kinds
abbrev pub EachKinded : List Env → Type 0
EachKinded es = (env : Env) → Memᴰ env es → RunKindedValues env

matches_kinded : (p : Run) (v : Expression) (env : Env) → RunKindedValues env → EachKinded (run_matches (pattern_of p) v env)
matches_kinded p v env k us m = (run_sound (pattern_of p) v env us m).kinded k

-- a list with a first is not empty
not_none : (env : Env) (es : List Env) → ◌≡◌ {A = List Env} (env ∷ es) [] → ⊥
not_none env es e = let z : ◌≡◌ {A = ℕ} 0 1 = cc in omega arith

-- ---- the invariant

-- no sentence's left side matches, conditions aside
abbrev pub NoneMatches : Sentences → Expression → Type 0
NoneMatches no_sentence v = Unit {0}
NoneMatches (sentence m p cs r ss) v = (run_matches (pattern_of p) v none_bound ≡ []) × NoneMatches ss v

abbrev pub Unconditional : Conditions → Type 0
Unconditional no_condition = Unit {0}
Unconditional (condition q p cs) = ⊥

module _ (law : Law) (Res : List ℕ → Expression → Type 0) (Listed : ℕ → Type 0) (Dead : ℕ → Type 0) where
  -- where the call at a record is listed, its function does not recognise the argument
  abbrev pub CallHolds : ℕ → List ℕ → Expression → Type 0
  CallHolds n f v = Listed n → (ss : Sentences) → definition law f ≡ some ss → NoneMatches ss v

  -- what is asked of the law itself: of every call outside patterns, at every depth, and that no block's sentence is among the dead
  abbrev mutual
    pub GoodRun : Run → Type 0
    GoodRun tree.Run.empty = Unit {0}
    GoodRun (tree.Run.symbol a r) = GoodRun r
    GoodRun (tree.Run.variable k i r) = GoodRun r
    GoodRun (tree.Run.bracket q r) = GoodRun q × GoodRun r
    GoodRun (tree.Run.call m f q r) = ((v : Expression) → Fits Res q v → CallHolds m.at (folded f.spelled) v) × GoodRun q × GoodRun r
    GoodRun (tree.Run.block m q ss r) = GoodRun q × GoodBlock ss × GoodRun r

    pub GoodBlock : Sentences → Type 0
    GoodBlock no_sentence = Unit {0}
    GoodBlock (sentence m p cs r ss) = GoodConditions cs × GoodRun r × (Dead m.at → ⊥) × GoodBlock ss

    pub GoodConditions : Conditions → Type 0
    GoodConditions no_condition = Unit {0}
    GoodConditions (condition q p cs) = GoodRun q × GoodConditions cs

  -- r can be worked out, and what it comes to goes behind u to what takes it
  abbrev pub WorkHolds : Run → Env → Expression → (Expression → Type 0) → Type 0
  WorkHolds r env u G = GoodRun r × RunKindedValues env × ((w : Expression) → Fits Res r w → G (u ⊕ w))

  -- the rest of a sentence can follow once its left side has matched
  abbrev pub RestHolds : Conditions → Run → (Expression → Type 0) → Type 0
  RestHolds cs r G = GoodConditions cs × GoodRun r × ((w : Expression) → Fits Res r w → G w)

  -- sentences can be tried: a dead one matches nothing, a later one is tried only if an earlier one without conditions does not match
  abbrev pub SentencesHold : Sentences → Env → Expression → (Expression → Type 0) → Type 0
  SentencesHold no_sentence env v G = Unit {0}
  SentencesHold (sentence m p cs r ss) env v G =
      RestHolds cs r G
      × (Dead m.at → run_matches (pattern_of p) v env ≡ [])
      × ((Unconditional cs → run_matches (pattern_of p) v env ≡ []) → SentencesHold ss env v G)

  abbrev pub TrialHolds : Trial → (Expression → Type 0) → Type 0
  TrialHolds (sentences env v ss) G = RunKindedValues env × SentencesHold ss env v G
  TrialHolds (ways es i cs r t) G = EachKinded es × RestHolds cs r G × (Dead i → es ≡ []) × ((Unconditional cs → es ≡ []) → TrialHolds t G)

  -- what waits can take the expression
  abbrev pub Takes : Stack → Expression → Type 0
  Takes over v = Unit {0}
  Takes (in_bracket u r env k) v = WorkHolds r env (u ⊕ brackets v nothing) (Takes k)
  Takes (in_call n f u r env k) v = CallHolds n f v × ((a : Expression) → Res f a → WorkHolds r env (u ⊕ a) (Takes k))
  Takes (in_block n ss u r env k) v = GoodBlock ss × RunKindedValues env × ((a : Expression) → WorkHolds r env (u ⊕ a) (Takes k))
  Takes (in_place u r env k) v = WorkHolds r env (u ⊕ v) (Takes k)
  Takes (in_condition p env i cs r t k) v = RunKindedValues env × RestHolds cs r (Takes k) × (Dead i → ⊥) × TrialHolds t (Takes k)

  abbrev pub Holds : State → Type 0
  Holds (working r env u k answers) = WorkHolds r env u (Takes k)
  Holds (called n f v k answers) = CallHolds n f v × ((a : Expression) → Res f a → Takes k a)
  Holds (entered n ss env v k answers) = GoodBlock ss × RunKindedValues env × ((a : Expression) → Takes k a)
  Holds (trying t k answers) = TrialHolds t (Takes k)
  Holds (chosen i r env k answers) = (Dead i → ⊥) × WorkHolds r env nothing (Takes k)
  Holds (finished v) = Unit {0}
  Holds stopped = Unit {0}

  -- ---- each step keeps it

  block_holds : (ss : Sentences) → GoodBlock ss → (env : Env) (v : Expression) (G : Expression → Type 0) → ((a : Expression) → G a)
      → SentencesHold ss env v G
  block_holds no_sentence h env v G g = tt
  block_holds (sentence m p cs r ss) h env v G g =
      ((h.0, h.1, λ w _. g w), (λ d. absurd (h.2 d)), λ _. block_holds ss h.3 env v G g)

  give_holds : (v : Expression) (k : Stack) (answers : List Expression) → Takes k v → Holds (give v k answers)
  unfolding give
  give_holds v over answers h = tt
  give_holds v (in_bracket u r env k) answers h = h
  give_holds v (in_call n f u r env k) answers h = h
  give_holds v (in_block n ss u r env k) answers h = h
  give_holds v (in_place u r env k) answers h = h
  give_holds v (in_condition p env i cs r t k) answers h = (matches_kinded p v env h.0, h.1, (λ d. absurd (h.2 d)), λ _. h.3)

  answered_holds : (k : Stack) (answers : List Expression) → ((a : Expression) → Takes k a) → Holds (answered k answers)
  unfolding answered
  answered_holds k [] h = tt
  answered_holds k (a ∷ answers) h = give_holds a k answers (h a)

  -- what is worked out next goes behind what is worked out
  behind : (G : Expression → Type 0) (u v w : Expression) → G (u ⊕ (v ⊕ w)) → G ((u ⊕ v) ⊕ w)
  behind G u v w h = subst G (sym (row_assoc u v w)) h

  variable_holds : (k : Kind) (i : Name) (r : Run) (env : Env) (u : Expression) (s : Stack) (answers : List Expression)
      → WorkHolds (tree.Run.variable k i r) env u (Takes s)
      → (o : Option Expression) → ((y : Expression) → o ≡ some y → OfKind any_literal any_literal k y)
      → Holds (elim o as (λ _. State) [ some v ↦ working r env (u ⊕ v) s answers | none ↦ stopped ])
  variable_holds k i r env u s answers h none f = tt
  variable_holds k i r env u s answers h (some v) f =
      (h.0, h.1, λ w g. behind (Takes s) u v w (h.2 (v ⊕ w) (fits_variable v (f v refl) g)))

  -- a run can start with any function; a function's sentences can be tried on anything, and come to what `Res` says; what is not defined can come to
  -- anything
  module _
      (started : (f : Function) → Memᴰ f law → (v : Expression) → SentencesHold f.sentences none_bound v (Takes over))
      (defined : (f : List ℕ) (ss : Sentences) → definition law f ≡ some ss → (v : Expression) (G : Expression → Type 0)
      → ((a : Expression) → Res f a → G a) → SentencesHold ss none_bound v G)
      (undefined : (f : List ℕ) → definition law f ≡ none → (a : Expression) → Res f a) where
    called_holds : (f : List ℕ) (v : Expression) (k : Stack) (answers : List Expression) → ((a : Expression) → Res f a → Takes k a)
        → (o : Option Sentences) → definition law f ≡ o
        → Holds (elim o as (λ _. State) [ some ss ↦ trying (sentences none_bound v ss) k answers | none ↦ answered k answers ])
    called_holds f v k answers h none e = answered_holds k answers (λ a. h a (undefined f e a))
    called_holds f v k answers h (some ss) e = (none_kinded any_literal any_literal, defined f ss e v (Takes k) h)

    step_holds : (state : State) → Holds state → Holds (step law state)
    unfolding step
    step_holds (working tree.Run.empty env u k answers) h = give_holds u k answers (subst (Takes k) (row_nothing u) (h.2 nothing fits_empty))
    step_holds (working (tree.Run.symbol a r) env u k answers) h =
        (h.0, h.1, λ w g. behind (Takes k) u (symbol (literal_of (symbol_of a)) nothing) w (h.2 (symbol (literal_of (symbol_of a)) w) (fits_symbol g)))
    step_holds (working (tree.Run.variable kind i r) env u k answers) h =
        variable_holds kind i r env u k answers h (value_in env (record { kind = kind; index = folded_index i.spelled }))
        (λ y e. h.1 (record { kind = kind; index = folded_index i.spelled }) y e)
    step_holds (working (tree.Run.bracket q r) env u k answers) h =
        (h.0.0, h.1, λ c f. (h.0.1, h.1, λ w g. behind (Takes k) u (brackets c nothing) w (h.2 (brackets c w) (fits_bracket f g))))
    step_holds (working (tree.Run.call m f q r) env u k answers) h =
        (h.0.1, h.1, λ v g. (h.0.0 v g, λ a ra. (h.0.2, h.1, λ w g'. behind (Takes k) u a w (h.2 (a ⊕ w) (fits_call a ra g')))))
    step_holds (working (tree.Run.block m q ss r) env u k answers) h =
        (h.0.0, h.1, λ v g. (h.0.1, h.1, λ a. (h.0.2, h.1, λ w g'. behind (Takes k) u a w (h.2 (a ⊕ w) (fits_block a g')))))
    step_holds (called n f v k answers) h = called_holds f v k answers h.1 (definition law f) refl
    step_holds (entered n ss env v k answers) h = (h.1, block_holds ss h.0 env v (Takes k) h.2)
    step_holds (trying (sentences env v no_sentence) k answers) h = tt
    step_holds (trying (sentences env v (sentence m p cs r ss)) k answers) h = (matches_kinded p v env h.0, h.1.0, h.1.1, λ x. (h.0, h.1.2 x))
    step_holds (trying (ways [] i cs r t) k answers) h = h.3 (λ _. refl)
    step_holds (trying (ways (env ∷ es) i no_condition r t) k answers) h =
        ((λ d. not_none env es (h.2 d)), (h.1.1, h.0 env (Memᴰ.head refl), h.1.2))
    step_holds (trying (ways (env ∷ es) i (condition q p cs) r t) k answers) h =
        let kinded : RunKindedValues env = h.0 env (Memᴰ.head refl) in
        let alive : Dead i → ⊥ = λ d. not_none env es (h.2 d) in
        let later : TrialHolds (ways es i (condition q p cs) r t) (Takes k) =
        ((λ us m. h.0 us (Memᴰ.tail m)), h.1, (λ d. absurd (alive d)), λ _. h.3 (λ x. absurd x)) in
        (h.1.0.0, kinded, λ w g. (kinded, (h.1.0.1, h.1.1, h.1.2), alive, later))
    step_holds (chosen i r env k answers) h = h.1
    step_holds (finished v) h = tt
    step_holds stopped h = tt

    steps_hold : (state : State) → Holds state → (n : ℕ) → Holds (steps law n state)
    unfolding steps
    steps_hold state h zero = h
    steps_hold state h (suc n) = step_holds (steps law n state) (steps_hold state h n)

    -- the invariant holds at every step of every run
    pub reached_holds : (state : State) → Reached law state → Holds state
    unfolding run
    reached_holds state reached =
        rw reached.comes at
        (steps_hold (trying (sentences none_bound reached.argument reached.function.sentences) over reached.answers)
        (none_kinded any_literal any_literal, started reached.function reached.of_law reached.argument) reached.steps)

    -- so wherever a listed call is reached, no sentence of its function has a left side that matches
    pub never_recognised : (m : ℕ) (f : List ℕ) (v : Expression) (k : Stack) (left : List Expression) → Reached law (called m f v k left)
        → Listed m → (ss : Sentences) → definition law f ≡ some ss → NoneMatches ss v
    never_recognised m f v k left reached = (reached_holds (called m f v k left) reached).0

    -- and no dead sentence is chosen
    pub never_chosen : NeverChosen law Dead
    never_chosen i r env k left reached = (reached_holds (chosen i r env k left) reached).0

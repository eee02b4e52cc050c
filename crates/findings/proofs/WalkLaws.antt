-- Laws of the way through a law (specs/Code/Walk.antt and Tasks.antt) on trees: the size of a tree, what is met at a term record, and the words of dead
-- sentences.
use Prim.Native.Nat.{ℕ, zero, suc, ◌+◌, ◌<◌}
use mathlib.Core.Bool.{Bool, true, false}
use mathlib.Core.List.{List, [], ◌∷◌, ◌++◌, map, append-nil, append_assoc}
use mathlib.Core.Option.{Option, none, some}
use mathlib.Core.Path.{◌≡◌, refl, sym, ap, ◌∙◌}
use native.Mathlib.Omega.{arith}
use lib.Dec.{eqb}
use borrow.Author.Tests.{eq-eqb, ne_eqb}
use Rattle.file.specs.Head.{term_from}
use Rattle.file.specs.declared.Term.{Term}
use Rattle.file.specs.declared.Term.TheVariants.{Symbol as Symbolic, SVariable, TVariable, EVariable, Bracket, Call, Block}
use Rattle.lints.specs.Calls.{Call as CallOf}
use Rattle.law.specs.Tree.{Mark, Run, empty, symbol, variable, bracket, call, block, Sentences, no_sentence, sentence, Conditions, no_condition, condition}
use Rattle.law.specs.Variables.{Variable}
use Rattle.law.specs.Reading.{name_at, term_run}
use Rattle.law.specs.Code.Terms.{sentences_in}
use Rattle.law.proofs.Terms.{InsideAllowed}
use Rattle.matching.specs.Pattern.{pattern_of}
use Rattle.matching.specs.Match.{when, each}
use Rattle.lints.specs.Dead.{Earlier, unconditional, earliest, dead_by, dead_after, own_dead, block_dead}
use Rattle.findings.specs.declared.Task.{Task}
use Rattle.findings.specs.Code.Events.{Event, Sink, collect}
use Rattle.findings.specs.Code.Walk.{walked, walked_term, walked_sentences}
use Rattle.findings.specs.Code.Tasks.{number_of, remark_event, remark_events, block_events}
use Rattle.findings.proofs.CollectLaws.{collect_none}

-- ---- the size of a tree: its terms, sentences and conditions

unfoldable mutual
  pub run_size : Run → ℕ
  run_size empty = 0
  run_size (symbol a after) = suc (run_size after)
  run_size (variable k i after) = suc (run_size after)
  run_size (bracket inside after) = suc (run_size inside + run_size after)
  run_size (call m f inside after) = suc (run_size inside + run_size after)
  run_size (block m inside ss after) = suc (run_size inside + (sentences_size ss + run_size after))

  pub sentences_size : Sentences → ℕ
  sentences_size no_sentence = 0
  sentences_size (sentence m p cs r ss) = suc (run_size p + (conditions_size cs + (run_size r + sentences_size ss)))

  pub conditions_size : Conditions → ℕ
  conditions_size no_condition = 0
  conditions_size (condition r p cs) = suc (run_size r + (run_size p + conditions_size cs))

-- a term of any kind: nothing is inside a symbol or a variable, and only a block has sentences
pub term_size : (text : List ℕ) (give : ℕ → ℕ → Sentences) (at : ℕ) (mark : Mark) (x : Term) (n : ℕ) (inside after : Run)
    → InsideAllowed x n → (n ≡ 0 → inside ≡ empty) → give at 0 ≡ no_sentence
    → run_size (term_run text give at mark x inside after) ≡ suc (run_size inside + (sentences_size (give at (sentences_in x)) + run_size after))
unfolding run_size
term_size text give at mark (Symbolic x) n inside after a e o = rw (e a, o) (omega arith)
term_size text give at mark (SVariable x y) n inside after a e o = rw (e a, o) (omega arith)
term_size text give at mark (TVariable x y) n inside after a e o = rw (e a, o) (omega arith)
term_size text give at mark (EVariable x y) n inside after a e o = rw (e a, o) (omega arith)
term_size text give at mark Bracket n inside after a e o = rw o (omega arith)
term_size text give at mark (Call x y) n inside after a e o = rw o (omega arith)
term_size text give at mark (Block m) n inside after a e o = refl

-- ---- what is met at a term record

-- the calls at a term: one, where it is a call
abbrev pub calls_of : List ℕ → Mark → Term → Run → List CallOf
calls_of text mark (Symbolic x) inside = []
calls_of text mark (SVariable a b) inside = []
calls_of text mark (TVariable a b) inside = []
calls_of text mark (EVariable a b) inside = []
calls_of text mark Bracket inside = []
calls_of text mark (Call a b) inside = record { mark = mark; name = name_at text a b; argument = inside } ∷ []
calls_of text mark (Block m) inside = []

-- a call is a record of kind 7
pub words_calls : (text : List ℕ) (mark : Mark) (a b : ℕ) (inside : Run) (kind : ℕ)
    → when (eqb kind 7) (record { mark = mark; name = name_at text a b; argument = inside } ∷ []) ≡ calls_of text mark (term_from kind a b) inside
unfolding term_from
words_calls text mark a b inside zero = refl
words_calls text mark a b inside (suc zero) = refl
words_calls text mark a b inside (suc (suc zero)) = refl
words_calls text mark a b inside (suc (suc (suc zero))) = refl
words_calls text mark a b inside (suc (suc (suc (suc zero)))) = refl
words_calls text mark a b inside (suc (suc (suc (suc (suc zero))))) = refl
words_calls text mark a b inside (suc (suc (suc (suc (suc (suc zero)))))) = refl
words_calls text mark a b inside (suc (suc (suc (suc (suc (suc (suc zero))))))) = refl
words_calls text mark a b inside (suc (suc (suc (suc (suc (suc (suc (suc kind)))))))) =
    rw (ne_eqb (suc (suc (suc (suc (suc (suc (suc (suc kind)))))))) 7 (λ e. omega (arith, e)))

module _ (on_call : CallOf → List Event) (on_block : Sentences → List Event) (patterns : Bool) where
  -- a run is its first term and what is after it
  pub run_walked : (text : List ℕ) (give : ℕ → ℕ → Sentences) (at : ℕ) (mark : Mark) (x : Term) (inside after : Run)
      → walked on_call on_block patterns (term_run text give at mark x inside after)
      ≡ walked_term on_call on_block patterns (term_run text give at mark x inside after) ++ walked on_call on_block patterns after
  unfolding walked walked_term
  run_walked text give at mark (Symbolic x) inside after = refl
  run_walked text give at mark (SVariable x y) inside after = refl
  run_walked text give at mark (TVariable x y) inside after = refl
  run_walked text give at mark (EVariable x y) inside after = refl
  run_walked text give at mark Bracket inside after = refl
  run_walked text give at mark (Call x y) inside after = simp append_assoc
  run_walked text give at mark (Block m) inside after = simp append_assoc

  -- a term of any kind: the call, what is inside it, its own sentences, and what is inside them
  pub term_walked : (text : List ℕ) (give : ℕ → ℕ → Sentences) (at : ℕ) (mark : Mark) (x : Term) (n : ℕ) (inside after : Run)
      → InsideAllowed x n → (n ≡ 0 → inside ≡ empty) → give at 0 ≡ no_sentence → on_block no_sentence ≡ []
      → walked_term on_call on_block patterns (term_run text give at mark x inside after)
      ≡ each on_call (calls_of text mark x inside)
      ++ walked on_call on_block patterns inside
      ++ on_block (give at (sentences_in x))
      ++ walked_sentences on_call on_block patterns (give at (sentences_in x))
  unfolding walked walked_term
  term_walked text give at mark (Symbolic x) n inside after a e o z = rw (e a, o, z)
  term_walked text give at mark (SVariable x y) n inside after a e o z = rw (e a, o, z)
  term_walked text give at mark (TVariable x y) n inside after a e o z = rw (e a, o, z)
  term_walked text give at mark (EVariable x y) n inside after a e o z = rw (e a, o, z)
  term_walked text give at mark Bracket n inside after a e o z = rw (o, z) (simp append-nil)
  term_walked text give at mark (Call x y) n inside after a e o z = rw (o, z) (simp append-nil)
  term_walked text give at mark (Block m) n inside after a e o z = refl

  -- nothing is met in a symbol or a variable, whose kinds are below 6
  pub leaf_walked : (text : List ℕ) (give : ℕ → ℕ → Sentences) (at : ℕ) (mark : Mark) (a b : ℕ) (inside after : Run) (kind : ℕ) → kind < 6
      → walked_term on_call on_block patterns (term_run text give at mark (term_from kind a b) inside after) ≡ []
  unfolding term_from walked_term
  leaf_walked text give at mark a b inside after zero h = refl
  leaf_walked text give at mark a b inside after (suc zero) h = refl
  leaf_walked text give at mark a b inside after (suc (suc zero)) h = refl
  leaf_walked text give at mark a b inside after (suc (suc (suc zero))) h = refl
  leaf_walked text give at mark a b inside after (suc (suc (suc (suc zero)))) h = refl
  leaf_walked text give at mark a b inside after (suc (suc (suc (suc (suc zero))))) h = refl
  leaf_walked text give at mark a b inside after (suc (suc (suc (suc (suc (suc kind)))))) h = absurd (omega arith)

-- ---- dead sentences

-- there are none where there is no sentence
pub block_none : (task : Task) → block_events task no_sentence ≡ []
unfolding block_events remark_events dead_after
block_none task = go (eqb (number_of task) 1)
  where
    go : (b : Bool) → when {X = Event} b [] ≡ []
    go true = refl
    go false = refl

map-append : {A B : Type 0} (f : A → B) (xs ys : List A) → map f (xs ++ ys) ≡ map f xs ++ map f ys
map-append f [] ys = refl
map-append f (x ∷ xs) ys = ap (λ l. f x ∷ l) (map-append f xs ys)

dead_one : (task : Task) (m : Mark) (n : ℕ) (by : Option ℕ) → map (remark_event task) (dead_by true m n by) ≡ map (remark_event task) (dead_by false m n by)
dead_one task m n none = refl
dead_one task m n (some k) = refl

-- a finding's words do not say whether a sentence is a block's
dead_after_lem : (task : Task) (valued : List Variable) (earlier : List Earlier) (n : ℕ) (ss : Sentences)
    → map (remark_event task) (dead_after true valued earlier n ss) ≡ map (remark_event task) (dead_after false valued earlier n ss)
unfolding dead_after
dead_after_lem task valued earlier n no_sentence = refl
dead_after_lem task valued earlier n (sentence m p cs r ss) =
    let by : Option ℕ = earliest valued earlier (pattern_of p) in
    let next : List Earlier = earlier ++ unconditional cs n p in
    rw (
      map-append (remark_event task) (dead_by true m n by) (dead_after true valued next (suc n) ss),
      map-append (remark_event task) (dead_by false m n by) (dead_after false valued next (suc n) ss),
      dead_one task m n by,
      dead_after_lem task valued next (suc n) ss,
    )

pub own_block : (task : Task) (ss : Sentences) → block_events task ss ≡ when (eqb (number_of task) 1) (remark_events task (own_dead ss))
unfolding block_events remark_events
own_block task ss = ap (when (eqb (number_of task) 1)) (dead_after_lem task [] [] 1 ss)

-- the dead ones of a block's own sentences are noted in lint 1 only
pub block_passed : (task : Task) (ss : Sentences) (s : Sink) → ((number_of task) ≡ 1 → ⊥) → s ≡ collect task.room s (block_events task ss)
unfolding block_events
block_passed task ss s h = rw (ne_eqb (number_of task) 1 h) (collect_none task.room s)

pub block_noted : (task : Task) (ss : Sentences) (s t : Sink) → (number_of task) ≡ 1 → t ≡ collect task.room s (remark_events task (dead_after true [] [] 1 ss))
    → t ≡ collect task.room s (block_events task ss)
unfolding block_events
block_noted task ss s t h q =
    q ∙ ap (λ (b : Bool). collect task.room s (when b (remark_events task (block_dead ss)))) (sym (eq-eqb (number_of task) 1 h))

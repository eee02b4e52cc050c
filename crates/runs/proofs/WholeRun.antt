-- The two claims over a whole run of a law whose records are labels: a call whose argument can come to nothing that its function matches is never
-- recognised, and a function's sentence that an earlier one shadows is never chosen.
use Prim.Native.Nat.{ℕ, suc, ◌<◌}
use mathlib.Core.List.{List, [], ◌++◌, Memᴰ}
use mathlib.Core.Option.{some, none}
use mathlib.Core.Path.{◌≡◌, refl}
use native.Mathlib.Omega.{arith}
use Rattle.names.specs.Name.{folded}
use Rattle.law.specs.Tree as tree
use Rattle.law.specs.Tree.{Name, Run, Sentences, no_sentence, sentence, Conditions, no_condition, condition, Function, Law}
use Rattle.law.specs.Definition.{definition}
use Rattle.law.specs.Expression.{Expression}
use Rattle.matching.specs.Pattern.{pattern_of}
use Rattle.matching.specs.Match.{none_bound}
use Rattle.formats.proofs.RoundLaws.{EachSentence}
use Rattle.lints.specs.Dead.{Earlier, unconditional}
use Rattle.runs.specs.Machine.{Stack, called}
use Rattle.runs.specs.Claim.{Reached, NeverChosen}
use Rattle.runs.proofs.Fits.{Fits}
use Rattle.runs.proofs.Invariant.{NoneMatches, GoodRun, GoodBlock, GoodConditions, SentencesHold, never_recognised, never_chosen}
use Rattle.lints.proofs.Defined.{definition_in}
use Rattle.lints.proofs.Everywhere.{each_function_in, EachRecord, Labelled, CallAt, AfterFunctions, RunIn, SentencesIn, ConditionsIn}
use Rattle.runs.proofs.Shadowed.{Unmatched, shadowed_unmatched, unmatched_after, ShadowedAt, ShadowedIn}

-- what calls can come to: each result of a function to what its calls can come to, and what is not defined to anything
pub record Closed (law : Law) (Res : List ℕ → Expression → Type 0) : Type 0 where
  pub results : (f : List ℕ) (ss : Sentences) → definition law f ≡ some ss → EachSentence (λ p r. (w : Expression) → Fits Res r w → Res f w) ss
  pub undefined : (f : List ℕ) → definition law f ≡ none → (a : Expression) → Res f a

-- where nothing is asked of what a sentence comes to
pub anything_results : (Res : List ℕ → Expression → Type 0) (ss : Sentences) → EachSentence (λ p r. (w : Expression) → Fits Res r w → Unit {0}) ss
anything_results Res no_sentence = tt
anything_results Res (sentence m p cs r ss) = ((λ w f. tt), anything_results Res ss)

-- no sentence of the function matches what the argument can come to
abbrev pub Unrecognised : Law → (List ℕ → Expression → Type 0) → Name → Run → Type 0
Unrecognised law Res f q = (v : Expression) → Fits Res q v → (ss : Sentences) → definition law (folded f.spelled) ≡ some ss → NoneMatches ss v

module _ (law : Law) (labels : Labelled law) (Res : List ℕ → Expression → Type 0) (closed : Closed law Res) where
  -- so of the call at a record
  abbrev pub ListedCall : ℕ → Type 0
  ListedCall m = Unrecognised law Res (labels.name m) (labels.argument m)

  -- a function's sentence that is shadowed
  abbrev pub DeadSentence : ℕ → Type 0
  DeadSentence i = (i < labels.bound) × ShadowedIn i law

  -- ---- what is asked of the law holds

  mutual
    good_run : (r : Run) → RunIn law labels r → GoodRun law Res ListedCall DeadSentence r
    good_run tree.Run.empty h = tt
    good_run (tree.Run.symbol a after) h = good_run after h.1
    good_run (tree.Run.variable k i after) h = good_run after h
    good_run (tree.Run.bracket inside after) h = (good_run inside h.0, good_run after h.1)
    good_run (tree.Run.call m f inside after) h =
        ((λ v fits listed. listed_here m.at f inside h.0 listed v fits), good_run inside h.1, good_run after h.2)
      where
        listed_here : (t : ℕ) (f : Name) (q : Run) → CallAt law labels t f q → ListedCall t → Unrecognised law Res f q
        listed_here t f q e listed = rw (e.0, e.1) listed
    good_run (tree.Run.block m inside ss after) h = (good_run inside h.0, good_block ss h.1.0 h.1.1, good_run after h.2)

    good_block : (ss : Sentences) → EachRecord (AfterFunctions law labels) ss → SentencesIn law labels ss → GoodBlock law Res ListedCall DeadSentence ss
    good_block no_sentence b h = tt
    good_block (sentence m p cs r ss) b h =
        (good_conditions cs h.1, good_run r h.2, (λ dead. omega (arith, dead.0, b.0)), good_block ss b.1 h.3)

    good_conditions : (cs : Conditions) → ConditionsIn law labels cs → GoodConditions law Res ListedCall DeadSentence cs
    good_conditions no_condition h = tt
    good_conditions (condition q p cs) h = (good_run q h.0, good_conditions cs h.2)

  -- the sentences of a function, from one on: those before it without conditions do not match
  function_holds : (earlier : List Earlier) (n : ℕ) (ss : Sentences) → SentencesIn law labels ss
      → ((i : ℕ) → DeadSentence i → ShadowedAt i earlier n ss)
      → (R : Expression → Type 0) → EachSentence (λ p r. (w : Expression) → Fits Res r w → R w) ss
      → (v : Expression) → Unmatched earlier v → (G : Expression → Type 0) → ((a : Expression) → R a → G a)
      → SentencesHold law Res ListedCall DeadSentence ss none_bound v G
  function_holds earlier n no_sentence h dead R comes v before G k = tt
  function_holds earlier n (sentence m p cs r ss) h dead R comes v before G k = (
    (good_conditions cs h.1, good_run r h.2, λ w fits. k w (comes.0 w fits)),
    (λ d.
        let (earliest, e) = (dead m.at d).0 refl in
        shadowed_unmatched earlier (pattern_of p) earliest e v before),
    λ unmatched.
        function_holds (earlier ++ unconditional cs n p) (suc n) ss h.3 (λ i d. (dead i d).1) R comes.1 v
        (unmatched_after earlier cs n p v before unmatched) G k,
  )

  -- those of a function of the law
  own_holds : (d : Function) → Memᴰ d law → (R : Expression → Type 0) → EachSentence (λ p r. (w : Expression) → Fits Res r w → R w) d.sentences
      → (v : Expression) (G : Expression → Type 0) → ((a : Expression) → R a → G a)
      → SentencesHold law Res ListedCall DeadSentence d.sentences none_bound v G
  own_holds d in_law R comes v G k =
      function_holds [] 1 d.sentences (each_function_in (λ f. SentencesIn law labels f.sentences) law labels.everywhere d in_law)
      (λ i dead. each_function_in (λ f. ShadowedAt i [] 1 f.sentences) law dead.1 d in_law) R comes v (λ e m. elim m [ ]) G k

  started_holds : (d : Function) → Memᴰ d law → (v : Expression)
      → SentencesHold law Res ListedCall DeadSentence d.sentences none_bound v (λ _. Unit {0})
  started_holds d in_law v = own_holds d in_law (λ _. Unit {0}) (anything_results Res d.sentences) v (λ _. Unit {0}) (λ a _. tt)

  defined_holds : (f : List ℕ) (ss : Sentences) → definition law f ≡ some ss → (v : Expression) (G : Expression → Type 0)
      → ((a : Expression) → Res f a → G a) → SentencesHold law Res ListedCall DeadSentence ss none_bound v G
  defined_holds f ss e v G k =
      let (d, in_law, name, same) = definition_in law f ss e in
      rw same at (own_holds d in_law (Res f) (rw (← same) at (closed.results f ss e)) v G k)

  -- ---- over a whole run

  pub listed_unrecognised : (m : ℕ) (f : List ℕ) (v : Expression) (k : Stack) (left : List Expression) → Reached law (called m f v k left)
      → ListedCall m → (ss : Sentences) → definition law f ≡ some ss → NoneMatches ss v
  listed_unrecognised = never_recognised law Res ListedCall DeadSentence started_holds defined_holds closed.undefined

  pub dead_unchosen : NeverChosen law DeadSentence
  dead_unchosen = never_chosen law Res ListedCall DeadSentence started_holds defined_holds closed.undefined

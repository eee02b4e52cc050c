-- What holds everywhere in a law: of every symbol, of every call with its record, of every sentence of a block by its record; patterns included.
use Prim.Native.Nat.{ℕ, zero, suc, ◌+◌, ◌≤◌, ◌<◌}
use mathlib.Core.List.{[], ◌∷◌, Memᴰ}
use mathlib.Core.Path.{◌≡◌}
use native.Mathlib.Omega.{arith}
use Rattle.law.specs.Tree as tree
use Rattle.law.specs.Tree.{Name, Symbol, Run, Sentences, no_sentence, sentence, Conditions, no_condition, condition, Function, Law, keep, skip}
use Rattle.matching.specs.Literal.{InDigits}
use Rattle.formats.proofs.RoundLaws.{EachFunction}

-- ---- functions

-- what holds of every function holds of each
pub each_function_in : (P : Function → Type 0) (law : Law) → EachFunction P law → (d : Function) → Memᴰ d law → P d
each_function_in P [] h d m = elim m [ ]
each_function_in P (f ∷ fs) h d (Memᴰ.head e) = rw e h.0
each_function_in P (f ∷ fs) h d (Memᴰ.tail m) = each_function_in P fs h.1 d m

-- ---- records of sentences

-- of the record of every sentence in a row
abbrev pub EachRecord : (ℕ → Type 0) → Sentences → Type 0
EachRecord P no_sentence = Unit {0}
EachRecord P (sentence m p cs r ss) = P m.at × EachRecord P ss

module _ (P Q : ℕ → Type 0) where
  pub each_record_map : ((i : ℕ) → P i → Q i) → (ss : Sentences) → EachRecord P ss → EachRecord Q ss
  each_record_map k no_sentence h = tt
  each_record_map k (sentence m p cs r ss) h = (k m.at h.0, each_record_map k ss h.1)

-- the records of sentences follow one another from a number on
abbrev pub Numbered : ℕ → Sentences → Type 0
Numbered n no_sentence = Unit {0}
Numbered n (sentence m p cs r ss) = (m.at ≡ n) × Numbered (suc n) ss

pub numbered_from : (b n : ℕ) (ss : Sentences) → b ≤ n → Numbered n ss → EachRecord (λ i. b ≤ i) ss
numbered_from b n no_sentence l h = tt
numbered_from b n (sentence m p cs r ss) l h = (omega (arith, h.0), numbered_from b (suc n) ss (omega arith) h.1)

-- so those of the first of them, which end before a number
pub numbered_keep : (k n : ℕ) (ss : Sentences) → Numbered n ss → Numbered n (keep k ss) × EachRecord (λ i. i < n + k) (keep k ss)
unfolding keep
numbered_keep zero n ss h = (tt, tt)
numbered_keep (suc k) n no_sentence h = (tt, tt)
numbered_keep (suc k) n (sentence m p cs r ss) h =
    let (follow, below) = numbered_keep k (suc n) ss h.1 in
    ((h.0, follow), (omega (arith, h.0), each_record_map (λ i. i < suc n + k) (λ i. i < n + suc k) (λ i l. omega arith) (keep k ss) below))

-- the records of all functions' sentences follow one another
abbrev pub NumberedLaw : ℕ → Law → Type 0
NumberedLaw n [] = Unit {0}
NumberedLaw n (d ∷ ds) = Numbered n d.sentences × ((next : ℕ) × (n ≤ next) × EachRecord (λ i. i < next) d.sentences × NumberedLaw next ds)

-- ---- everywhere

module _ (OfSymbol : Symbol → Type 0) (OfCall : ℕ → Name → Run → Type 0) (OfBlock : ℕ → Type 0) where
  abbrev mutual
    pub EveryRun : Run → Type 0
    EveryRun tree.Run.empty = Unit {0}
    EveryRun (tree.Run.symbol a after) = OfSymbol a × EveryRun after
    EveryRun (tree.Run.variable k i after) = EveryRun after
    EveryRun (tree.Run.bracket inside after) = EveryRun inside × EveryRun after
    EveryRun (tree.Run.call m f inside after) = OfCall m.at f inside × EveryRun inside × EveryRun after
    EveryRun (tree.Run.block m inside ss after) = EveryRun inside × (EachRecord OfBlock ss × EverySentence ss) × EveryRun after

    pub EverySentence : Sentences → Type 0
    EverySentence no_sentence = Unit {0}
    EverySentence (sentence m p cs r ss) = EveryRun p × EveryCondition cs × EveryRun r × EverySentence ss

    pub EveryCondition : Conditions → Type 0
    EveryCondition no_condition = Unit {0}
    EveryCondition (condition q p cs) = EveryRun q × EveryRun p × EveryCondition cs

  -- of the first sentences, and of those after the first
  pub every_keep : (n : ℕ) (ss : Sentences) → EverySentence ss → EverySentence (keep n ss)
  unfolding keep
  every_keep zero ss h = tt
  every_keep (suc n) no_sentence h = tt
  every_keep (suc n) (sentence m p cs r ss) h = (h.0, h.1, h.2, every_keep n ss h.3)

  pub every_skip : (n : ℕ) (ss : Sentences) → EverySentence ss → EverySentence (skip n ss)
  unfolding skip
  every_skip zero ss h = h
  every_skip (suc n) no_sentence h = tt
  every_skip (suc n) (sentence m p cs r ss) h = every_skip n ss h.3

-- ---- a law whose records are labels

-- a call's record gives its name and its argument, the records of functions' sentences follow one another from 0 on, those of blocks' sentences come
-- after, and numbers are spelled by digits, as refusal 5 says
pub record Labelled (law : Law) : Type 0 where
  pub name : ℕ → Name
  pub argument : ℕ → Run
  pub bound : ℕ
  pub everywhere :
      EachFunction (λ d. EverySentence InDigits (λ t f q. (f ≡ name t) × (q ≡ argument t)) (λ i. bound ≤ i) d.sentences) law
  pub below : EachFunction (λ d. EachRecord (λ i. i < bound) d.sentences) law
  pub numbered : NumberedLaw 0 law

module _ (law : Law) (labels : Labelled law) where
  -- the call at a record, and a record after those of functions' sentences
  abbrev pub CallAt : ℕ → Name → Run → Type 0
  CallAt t f q = (f ≡ labels.name t) × (q ≡ labels.argument t)

  abbrev pub AfterFunctions : ℕ → Type 0
  AfterFunctions i = labels.bound ≤ i

  -- what holds everywhere in the law
  abbrev pub RunIn : Run → Type 0
  RunIn = EveryRun InDigits CallAt AfterFunctions

  abbrev pub SentencesIn : Sentences → Type 0
  SentencesIn = EverySentence InDigits CallAt AfterFunctions

  abbrev pub ConditionsIn : Conditions → Type 0
  ConditionsIn = EveryCondition InDigits CallAt AfterFunctions

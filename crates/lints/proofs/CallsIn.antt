-- What holds everywhere in a law holds of the calls that lints 2 and 3 look at and of the blocks that lint 1 looks at.
use Prim.Native.Nat.{ℕ}
use mathlib.Core.List.Memᴰ
use mathlib.Core.List.{List, ◌∷◌, ◌++◌, Memᴰ}
use mathlib.Core.Logic.{◌⊎◌, inl, inr}
use Rattle.law.specs.Tree as tree
use Rattle.law.specs.Tree.{Name, Symbol, Run, Sentences, no_sentence, sentence, Conditions, no_condition, condition, Function, Law}
use Rattle.matching.specs.Literal.{InDigits}
use Rattle.lints.specs.Calls.{Call, calls, sentence_calls, condition_calls}
use Rattle.lints.specs.Dead.{blocks, sentence_blocks, condition_blocks}
use Rattle.lints.proofs.Everywhere.{each_function_in, Labelled, CallAt, AfterFunctions, RunIn, SentencesIn, EachRecord, EveryRun, EverySentence, EveryCondition}

-- in one list or the other
pub either : {R X : Type 0} {x : X} (k l : List X) → Memᴰ x (k ++ l) → (Memᴰ x k → R) → (Memᴰ x l → R) → R
either {R} {X} {x} k l m f g = go (Memᴰ.append_cases k m)
  where
    go : Memᴰ x k ⊎ Memᴰ x l → R
    go (inl i) = f i
    go (inr i) = g i

-- ---- calls and blocks that the lints look at

module _ (OfSymbol : Symbol → Type 0) (OfCall : ℕ → Name → Run → Type 0) (OfBlock : ℕ → Type 0) where
  -- what holds everywhere holds of a call, and everywhere in its argument
  abbrev CallHas : Call → Type 0
  CallHas c = OfCall c.mark.at c.name c.argument × EveryRun OfSymbol OfCall OfBlock c.argument

  mutual
    unfolding calls

    run_call : (r : Run) → EveryRun OfSymbol OfCall OfBlock r → (c : Call) → Memᴰ c (calls r) → CallHas c
    run_call tree.Run.empty h c m = elim m [ ]
    run_call (tree.Run.symbol a after) h c m = run_call after h.1 c m
    run_call (tree.Run.variable k i after) h c m = run_call after h c m
    run_call (tree.Run.bracket inside after) h c m =
        either (calls inside) (calls after) m (λ i. run_call inside h.0 c i) (λ i. run_call after h.1 c i)
    run_call (tree.Run.call n f inside after) h c (Memᴰ.head e) = rw e (h.0, h.1)
    run_call (tree.Run.call n f inside after) h c (Memᴰ.tail m) =
        either (calls inside) (calls after) m (λ i. run_call inside h.1 c i) (λ i. run_call after h.2 c i)
    run_call (tree.Run.block n inside ss after) h c m =
        either (calls inside ++ sentence_calls ss) (calls after) m
        (λ j. either (calls inside) (sentence_calls ss) j (λ i. run_call inside h.0 c i) (λ i. sentence_call ss h.1.1 c i))
        (λ i. run_call after h.2 c i)

    pub sentence_call : (ss : Sentences) → EverySentence OfSymbol OfCall OfBlock ss → (c : Call) → Memᴰ c (sentence_calls ss) → CallHas c
    sentence_call no_sentence h c m = elim m [ ]
    sentence_call (sentence n p cs r ss) h c m =
        either (condition_calls cs ++ calls r) (sentence_calls ss) m
        (λ j. either (condition_calls cs) (calls r) j (λ i. condition_call cs h.1 c i) (λ i. run_call r h.2 c i))
        (λ i. sentence_call ss h.3 c i)

    condition_call : (cs : Conditions) → EveryCondition OfSymbol OfCall OfBlock cs → (c : Call) → Memᴰ c (condition_calls cs) → CallHas c
    condition_call no_condition h c m = elim m [ ]
    condition_call (condition r p cs) h c m =
        either (calls r) (condition_calls cs) m (λ i. run_call r h.0 c i) (λ i. condition_call cs h.2 c i)

  -- and of the records of a block's sentences
  mutual
    unfolding blocks

    run_block : (r : Run) → EveryRun OfSymbol OfCall OfBlock r → (b : Sentences) → Memᴰ b (blocks r) → EachRecord OfBlock b
    run_block tree.Run.empty h b m = elim m [ ]
    run_block (tree.Run.symbol a after) h b m = run_block after h.1 b m
    run_block (tree.Run.variable k i after) h b m = run_block after h b m
    run_block (tree.Run.bracket inside after) h b m =
        either (blocks inside) (blocks after) m (λ i. run_block inside h.0 b i) (λ i. run_block after h.1 b i)
    run_block (tree.Run.call n f inside after) h b m =
        either (blocks inside) (blocks after) m (λ i. run_block inside h.1 b i) (λ i. run_block after h.2 b i)
    run_block (tree.Run.block n inside ss after) h b m =
        either (blocks inside ++ (ss ∷ sentence_blocks ss)) (blocks after) m
        (λ j. either (blocks inside) (ss ∷ sentence_blocks ss) j (λ i. run_block inside h.0 b i)
        (λ i. own i h.1.0 (λ k. sentence_block ss h.1.1 b k)))
        (λ i. run_block after h.2 b i)
      where
        own : Memᴰ b (ss ∷ sentence_blocks ss) → EachRecord OfBlock ss → (Memᴰ b (sentence_blocks ss) → EachRecord OfBlock b)
            → EachRecord OfBlock b
        own (Memᴰ.head e) g below = rw e g
        own (Memᴰ.tail i) g below = below i

    pub sentence_block : (ss : Sentences) → EverySentence OfSymbol OfCall OfBlock ss → (b : Sentences) → Memᴰ b (sentence_blocks ss)
        → EachRecord OfBlock b
    sentence_block no_sentence h b m = elim m [ ]
    sentence_block (sentence n p cs r ss) h b m =
        either (blocks p ++ condition_blocks cs ++ blocks r) (sentence_blocks ss) m
        (λ j. either (blocks p ++ condition_blocks cs) (blocks r) j
        (λ k. either (blocks p) (condition_blocks cs) k (λ i. run_block p h.0 b i) (λ i. condition_block cs h.1 b i))
        (λ i. run_block r h.2 b i))
        (λ i. sentence_block ss h.3 b i)

    condition_block : (cs : Conditions) → EveryCondition OfSymbol OfCall OfBlock cs → (b : Sentences) → Memᴰ b (condition_blocks cs)
        → EachRecord OfBlock b
    condition_block no_condition h b m = elim m [ ]
    condition_block (condition r p cs) h b m =
        either (blocks r ++ blocks p) (condition_blocks cs) m
        (λ j. either (blocks r) (blocks p) j (λ i. run_block r h.0 b i) (λ i. run_block p h.1 b i))
        (λ i. condition_block cs h.2 b i)

-- ---- a record tells a call

module _ (law : Law) (labels : Labelled law) where
  -- a call of a function is the call at its record, and what holds everywhere holds in its argument
  pub call_at : (f : Function) → Memᴰ f law → (c : Call) → Memᴰ c (sentence_calls f.sentences)
      → CallAt law labels c.mark.at c.name c.argument × RunIn law labels c.argument
  call_at f i c m =
      sentence_call InDigits (CallAt law labels) (AfterFunctions law labels) f.sentences
      (each_function_in (λ d. SentencesIn law labels d.sentences) law labels.everywhere f i) c m

  -- a block's sentences have no function's records
  pub block_after_functions : (f : Function) → Memᴰ f law → (ss : Sentences) → Memᴰ ss (sentence_blocks f.sentences)
      → EachRecord (AfterFunctions law labels) ss
  block_after_functions f i ss m =
      sentence_block InDigits (CallAt law labels) (AfterFunctions law labels) f.sentences
      (each_function_in (λ d. SentencesIn law labels d.sentences) law labels.everywhere f i) ss m

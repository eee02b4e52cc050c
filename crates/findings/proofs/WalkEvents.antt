-- The way through a law meets what the lists of calls and of blocks have.
use mathlib.Core.Bool.{true, false}
use mathlib.Core.List.{List, [], ◌∷◌, ◌++◌, append_assoc}
use mathlib.Core.Path.{◌≡◌, refl}
use Rattle.law.specs.Tree.{Run, empty, symbol, variable, bracket, call, block, Sentences, no_sentence, sentence, Conditions, no_condition, condition}
use Rattle.matching.specs.Match.{each}
use Rattle.lints.specs.Calls.{Call, calls, sentence_calls, condition_calls}
use Rattle.lints.specs.Dead.{blocks, sentence_blocks, condition_blocks}
use Rattle.findings.specs.Code.Events.{Event}
use Rattle.findings.specs.Code.Walk.{walked, walked_sentences, walked_conditions}

-- what is said of the members of two lists
pub each_append : {X Y : Type 0} (f : X → List Y) (xs ys : List X) → each f (xs ++ ys) ≡ each f xs ++ each f ys
each_append f [] ys = refl
each_append f (x ∷ xs) ys = rw (each_append f xs ys) (simp append_assoc)

module _ (on_call : Call → List Event) (on_block : Sentences → List Event) where
  -- nothing is met at blocks, and patterns are left out: the calls
  module _ (none : (ss : Sentences) → on_block ss ≡ []) where
    mutual
      unfolding walked calls

      pub walk_calls : (r : Run) → walked on_call on_block false r ≡ each on_call (calls r)
      walk_calls empty = refl
      walk_calls (symbol a after) = walk_calls after
      walk_calls (variable k i after) = walk_calls after
      walk_calls (bracket inside after) = rw (walk_calls inside, walk_calls after) (simp (each_append on_call, append_assoc))
      walk_calls (call m f inside after) = rw (walk_calls inside, walk_calls after) (simp (each_append on_call, append_assoc))
      walk_calls (block m inside ss after) =
          rw (walk_calls inside, none ss, walk_sentence_calls ss, walk_calls after) (simp (each_append on_call, append_assoc))

      pub walk_sentence_calls : (ss : Sentences) → walked_sentences on_call on_block false ss ≡ each on_call (sentence_calls ss)
      walk_sentence_calls no_sentence = refl
      walk_sentence_calls (sentence m p cs r ss) =
          rw (walk_condition_calls cs, walk_calls r, walk_sentence_calls ss)
          (simp (each_append on_call, append_assoc))

      walk_condition_calls : (cs : Conditions) → walked_conditions on_call on_block false cs ≡ each on_call (condition_calls cs)
      walk_condition_calls no_condition = refl
      walk_condition_calls (condition r p cs) = rw (walk_calls r, walk_condition_calls cs) (simp (each_append on_call, append_assoc))

  -- nothing is met at calls: the blocks
  module _ (none : (c : Call) → on_call c ≡ []) where
    mutual
      unfolding walked blocks

      pub walk_blocks : (r : Run) → walked on_call on_block true r ≡ each on_block (blocks r)
      walk_blocks empty = refl
      walk_blocks (symbol a after) = walk_blocks after
      walk_blocks (variable k i after) = walk_blocks after
      walk_blocks (bracket inside after) = rw (walk_blocks inside, walk_blocks after) (simp (each_append on_block, append_assoc))
      walk_blocks (call m f inside after) =
          rw (none (record { mark = m; name = f; argument = inside }), walk_blocks inside, walk_blocks after) (simp (each_append on_block, append_assoc))
      walk_blocks (block m inside ss after) =
          rw (walk_blocks inside, walk_sentence_blocks ss, walk_blocks after) (simp (each_append on_block, append_assoc))

      pub walk_sentence_blocks : (ss : Sentences) → walked_sentences on_call on_block true ss ≡ each on_block (sentence_blocks ss)
      walk_sentence_blocks no_sentence = refl
      walk_sentence_blocks (sentence m p cs r ss) =
          rw (walk_blocks p, walk_condition_blocks cs, walk_blocks r, walk_sentence_blocks ss) (simp (each_append on_block, append_assoc))

      walk_condition_blocks : (cs : Conditions) → walked_conditions on_call on_block true cs ≡ each on_block (condition_blocks cs)
      walk_condition_blocks no_condition = refl
      walk_condition_blocks (condition r p cs) =
          rw (walk_blocks r, walk_blocks p, walk_condition_blocks cs) (simp (each_append on_block, append_assoc))

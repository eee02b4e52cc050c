-- Row 8: "over 32 brackets, calls and blocks around a term; a block is around its sentences too".
-- docs/SPECIFICATION.md, 2.5.
use Rattle.std.specs.Prelude.{ℕ, suc, max, [], ◌∷◌}
use Rattle.law.specs.Tree.{Run, empty, symbol, variable, bracket, call, block, Sentences, no_sentence, sentence, Conditions, no_condition, condition, Law}

-- the most brackets, calls and blocks around a term of a run, of which d are around the run itself; 0 where there is no term
unfoldable mutual
  pub deepest : Run → ℕ → ℕ
  deepest empty d = 0
  deepest (symbol x after) d = max d (deepest after d)
  deepest (variable k i after) d = max d (deepest after d)
  deepest (bracket inside after) d = max d (max (deepest inside (suc d)) (deepest after d))
  deepest (call m f inside after) d = max d (max (deepest inside (suc d)) (deepest after d))
  deepest (block m inside ss after) d = max d (max (deepest inside (suc d)) (max (deepest_sentences ss (suc d)) (deepest after d)))

  pub deepest_sentences : Sentences → ℕ → ℕ
  deepest_sentences no_sentence d = 0
  deepest_sentences (sentence m p cs r ss) d = max (deepest p d) (max (deepest_conditions cs d) (max (deepest r d) (deepest_sentences ss d)))

  pub deepest_conditions : Conditions → ℕ → ℕ
  deepest_conditions no_condition d = 0
  deepest_conditions (condition r p cs) d = max (deepest r d) (max (deepest p d) (deepest_conditions cs d))

-- of a law
unfoldable pub depth_of : Law → ℕ
depth_of [] = 0
depth_of (f ∷ fs) = max (deepest_sentences f.sentences 0) (depth_of fs)

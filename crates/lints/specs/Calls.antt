-- The calls that lints 2 and 3 look at, in order: those of conditions' results and of results, inside brackets, calls, blocks' arguments and blocks'
-- sentences. A call comes before those in its argument; patterns are not looked at.
-- docs/SPECIFICATION.md, 8.4.
use Rattle.std.specs.Prelude.{ℕ, List, [], ◌∷◌, ◌++◌}
use Rattle.names.specs.Name.{folded}
use Rattle.law.specs.Tree.{Name, Mark, Run, empty, symbol, variable, bracket, call, block, Sentences, no_sentence, sentence, Conditions, no_condition, condition}

pub record Call : Type 0 where
  pub mark : Mark
  pub name : Name
  pub argument : Run

-- its folded name
abbrev pub callee : Call → List ℕ
callee c = folded c.name.spelled

unfoldable mutual
  pub calls : Run → List Call
  calls empty = []
  calls (symbol a after) = calls after
  calls (variable k i after) = calls after
  calls (bracket inside after) = calls inside ++ calls after
  calls (call m f inside after) = record { mark = m; name = f; argument = inside } ∷ calls inside ++ calls after
  calls (block m inside ss after) = calls inside ++ sentence_calls ss ++ calls after

  pub sentence_calls : Sentences → List Call
  sentence_calls no_sentence = []
  sentence_calls (sentence m p cs r ss) = condition_calls cs ++ calls r ++ sentence_calls ss

  pub condition_calls : Conditions → List Call
  condition_calls no_condition = []
  condition_calls (condition r p cs) = calls r ++ condition_calls cs

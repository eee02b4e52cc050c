-- A law file's meaning, and the table of refusals 1 to 9 from top to bottom.
-- docs/SPECIFICATION.md, 2.1.
use Rattle.std.specs.Prelude.{ℕ, List, not, ltb, Result}
use Rattle.file.specs.Answer.{Answer, given, refuse_if, map_answer, ◌>>=◌, ◌>>◌}
use Rattle.file.specs.Sections.{sections_of, answer_of}
use Rattle.file.specs.declared.Refusal.{Refusal}
use Rattle.file.specs.Fields.{fields_allowed}
use Rattle.law.specs.Tree.{Law}
use Rattle.law.specs.Runs.{runs_allowed, blocks_allowed}
use Rattle.law.specs.Reading.{tree_of}
use Rattle.law.specs.Depth.{depth_of}
use Rattle.law.specs.Variables.{patterns_allowed}

-- 1; 2 and 4 section by section; 3; 5; 6; 7; 8; 9
unfoldable pub law_of : List ℕ → Answer Law
law_of bytes = do
  file ← sections_of bytes
  refuse_if 5 (not (fields_allowed file))
  refuse_if 6 (not (runs_allowed file))
  refuse_if 7 (not (blocks_allowed file))
  refuse_if 8 (ltb 32 (depth_of (tree_of file)))
  refuse_if 9 (not (patterns_allowed file))
  given (tree_of file)

-- the law is left out of the answer, as the check's result does
abbrev pub check_answer : Result (Unit {0}) Refusal → Answer (Unit {0})
check_answer check = answer_of check

abbrev pub check_of : List ℕ → Answer (Unit {0})
check_of bytes = map_answer (λ _. tt) (law_of bytes)

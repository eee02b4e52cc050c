-- Lint 4, `open_expression_complexity`: patterns of functions' own sentences with two e. occurrences or more.
-- docs/SPECIFICATION.md, 8.9.
use Rattle.std.specs.Prelude.{ℕ, ◌+◌, List, [], ◌∷◌, ◌++◌, leb}
use Rattle.law.specs.Tree.{Kind, symbol_kind, term_kind, expression_kind, Run, empty, symbol, variable, bracket, call, block, Sentences, no_sentence, sentence, Function, Law}
use Rattle.matching.specs.Match.{when}
use Rattle.lints.specs.Finding.{open_pattern, Remark, Finding, findings_from}

abbrev pub counts_as : Kind → ℕ
counts_as symbol_kind = 0
counts_as term_kind = 0
counts_as expression_kind = 1

-- "number of e. occurrences, brackets included"; what stands in calls and blocks does not count
unfoldable pub e_occurrences : Run → ℕ
e_occurrences empty = 0
e_occurrences (symbol a after) = e_occurrences after
e_occurrences (variable k i after) = counts_as k + e_occurrences after
e_occurrences (bracket inside after) = e_occurrences inside + e_occurrences after
e_occurrences (call m f inside after) = e_occurrences after
e_occurrences (block m inside ss after) = e_occurrences after

unfoldable pub open_in : Sentences → List Remark
open_in no_sentence = []
open_in (sentence m p cs r ss) = when (leb 2 (e_occurrences p)) (record { subject = m; claim = open_pattern (e_occurrences p) } ∷ []) ++ open_in ss

unfoldable pub open_remarks : Function → List Remark
open_remarks f = open_in f.sentences

unfoldable pub open_findings : Law → List Finding
open_findings law = findings_from open_remarks 0 law

-- The findings of a law: `dead_sentences`, `recognition_impossible`, `builtin_domains`, `open_expression_complexity`, in this order, then the level and
-- mode steps. Refusal 14 belongs to the settings alone and comes before any file is looked at.
-- docs/SPECIFICATION.md, 8.1, 8.6.
use Rattle.std.specs.Prelude.{ℕ, List}
use Rattle.file.specs.Answer.{Answer, given, refuse_if, ◌>>=◌, ◌>>◌}
use Rattle.law.specs.Tree.{Law}
use Rattle.formats.specs.Infer.{Formats, Inferred, infer}
use Rattle.matching.specs.Match.{each}
use Rattle.lints.specs.Lint.{Lint, dead_sentence, recognition_impossible, builtin_domain, open_expressions, lints}
use Rattle.lints.specs.Finding.{Finding}
use Rattle.lints.specs.Dead.{dead_findings}
use Rattle.lints.specs.Recognition.{recognition_findings, arguments_over}
use Rattle.lints.specs.Builtin.{builtin_findings}
use Rattle.lints.specs.Open.{open_findings}
use Rattle.lints.specs.Levels.{Settings, shown}

-- the findings of a lint
abbrev pub findings_by : Law → Formats → Lint → List Finding
findings_by law formats dead_sentence = dead_findings law
findings_by law formats recognition_impossible = recognition_findings law formats
findings_by law formats builtin_domain = builtin_findings law
findings_by law formats open_expressions = open_findings law

-- all findings, shown or hidden, lint by lint
unfoldable pub findings_of : Law → Formats → List Finding
findings_of law formats = each (findings_by law formats) lints

-- the formats of a law, or 10: by inference, then by the arguments that are compared
unfoldable pub formats_of : ℕ → Law → Answer Inferred
formats_of limit law = do
  inferred ← infer limit law
  refuse_if 10 (arguments_over limit law inferred.formats)
  given inferred

-- what the findings call answers by
pub record Listing : Type 0 where
  pub inferred : Inferred
  pub findings : List Finding

-- whatever the settings, the formats of the law come first
unfoldable pub listing : ℕ → Settings → Law → Answer Listing
listing limit settings law = do
  inferred ← formats_of limit law
  given (record { inferred = inferred; findings = shown settings (findings_of law inferred.formats) })

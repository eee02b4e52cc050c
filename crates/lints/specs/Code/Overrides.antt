-- What the code of levels means by lints, severities and settings, and what it finds on its way through the overrides.
use Rattle.std.specs.Prelude.{ℕ, Bool, ◌&&◌, leb, Option, Some, None}
use Rattle.std.proofs.Math.Option as math
use Rattle.names.specs.Name.{between}
use Rattle.lints.specs.Lint.{Lint, dead_sentence, recognition_impossible, builtin_domain, open_expressions, last_lint, deny, allow}
use Rattle.lints.specs.Levels.{Override, Settings, settings_from}
use Rattle.lints.specs.declared.levels.Lint as lints
use Rattle.lints.specs.declared.levels.Severity as severities
use Rattle.lints.specs.declared.levels.Settings as settings

abbrev pub lint_meant : lints.Lint → Lint
lint_meant lints.TheVariants.Dead = dead_sentence
lint_meant lints.TheVariants.Recognition = recognition_impossible
lint_meant lints.TheVariants.Builtin = builtin_domain
lint_meant lints.TheVariants.Open = open_expressions

abbrev pub lint_coded : Lint → lints.Lint
lint_coded dead_sentence = lints.TheVariants.Dead
lint_coded recognition_impossible = lints.TheVariants.Recognition
lint_coded builtin_domain = lints.TheVariants.Builtin
lint_coded open_expressions = lints.TheVariants.Open

abbrev pub severity_number : severities.Severity → ℕ
severity_number severities.TheVariants.Error = 0
severity_number severities.TheVariants.Deny = deny
severity_number severities.TheVariants.Warn = 2
severity_number severities.TheVariants.Allow = allow

abbrev pub settings_meant : settings.Settings → Settings
settings_meant s = settings_from s.mode s.overrides.now

abbrev pub override_allowed : Override → Bool
override_allowed o = between 1 last_lint o.lint && leb o.severity allow

-- the severity that an override says
abbrev pub level_from : Option ℕ → math.Option ℕ
level_from None = math.none
level_from (Some severity) = math.some severity

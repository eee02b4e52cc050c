use Rattle.std.proofs.Common.{◌∙◌}
use Rattle.lints.specs.Levels.{severity_of}
use Rattle.lints.proofs.levels.Settings.severity_of.Goals as goal

pub returns-in-None : goal.returns-in-None
unfolding severity_of
returns-in-None c = rw (← c.in-None.ensures) (c.from.ensures ∙ c.own_severity.ensures)

pub returns-in-Some : goal.returns-in-Some
unfolding severity_of
returns-in-Some c = rw (← c.in-Some.ensures)

use Rattle.std.proofs.Common.{eq-eqb, ne_eqb}
use lib.Dec.{eqb}
use Rattle.lints.specs.Levels.{is_shown, severity_of}
use Rattle.lints.proofs.LevelLaws.{allow_same, said_shown}
use Rattle.lints.proofs.levels.Settings.is_shown.Goals as goal

pub returns-then-self-ne0 : goal.returns-then-self-ne0
unfolding is_shown severity_of
returns-then-self-ne0 c = rw (← c.in-None.ensures, ne_eqb _ _ c.if-self-ne0.true)

pub returns-else-self-ne0 : goal.returns-else-self-ne0
unfolding is_shown severity_of
returns-else-self-ne0 c =
    rw (c.ne.ensures, ← c.in-None.ensures, eq-eqb _ _ c.if-self-ne0.false, allow_same c.own_severity.result, c.own_severity.ensures)

pub returns-in-Some : goal.returns-in-Some
unfolding is_shown severity_of
returns-in-Some c = rw (c.from.ensures, ← c.in-Some.ensures) (said_shown (eqb c.in-Some.severity 3) (eqb c.args.self.now.mode 0))

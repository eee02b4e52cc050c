use Rattle.std.proofs.Common.{sym, ◌∙◌}
use borrow.Author.Tests.{le-leb, lt-leb}
use Rattle.lints.proofs.LevelLaws.{settings_test}
use Rattle.lints.proofs.levels.Settings.is_allowed.Goals as goal
use Rattle.lints.proofs.levels.Settings.is_allowed.Goals.{then-self-le1, else-self-le1}

pub returns-then-self-le8 : goal.returns-then-self-le8
returns-then-self-le8 c =
    let test = settings_test c.args.self.now.mode c.args.self.now.overrides.now in
    elim c.if-self-le1.branch [
      | then-self-le1 w ↦
          c.overrides_allowed.ensures ∙ (rw (le-leb _ _ w.if-self-le1.true, sym w.value-is ∙ c.if-self-le8.true) at test)
      | else-self-le1 w ↦ cc (lt-leb _ _ w.if-self-le1.false)
    ]

pub returns-else-self-le8 : goal.returns-else-self-le8
returns-else-self-le8 c =
    let test = settings_test c.args.self.now.mode c.args.self.now.overrides.now in
    elim c.if-self-le1.branch [
      | then-self-le1 w ↦ c.if-self-le8.false ∙ (rw (le-leb _ _ w.if-self-le1.true, sym w.value-is ∙ c.if-self-le8.false) at test)
      | else-self-le1 w ↦ c.if-self-le8.false ∙ (rw (lt-leb _ _ w.if-self-le1.false) at test)
    ]

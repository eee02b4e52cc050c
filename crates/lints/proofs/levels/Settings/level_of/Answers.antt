use Rattle.std.proofs.Common.{sym, ◌∙◌}
use Rattle.lints.proofs.LevelLaws.{level_start, level_next, level_found, level_end}
use Rattle.lints.proofs.levels.Settings.level_of.Goals as goal

pub loop-word-init : goal.loop-word-init
loop-word-init c = level_start _ _

pub loop-word-preserved : goal.loop-word-preserved
loop-word-preserved c = level_next c.loop-word.invariant c.loop-word-test.true (λ e. c.if-word-number.false (e ∙ sym c.from-number.ensures))

pub returns-then-word-number : goal.returns-then-word-number
returns-then-word-number c = level_found c.loop-word.invariant c.loop-word-test.true (c.if-word-number.true ∙ c.from-number.ensures)

pub returns : goal.returns
returns c = level_end c.loop-word.invariant c.loop-word-test.false

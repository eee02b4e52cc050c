-- A lint a turn: `linted_next`.
use Rattle.findings.proofs.AllLaws.{linted_begun, linted_next, linted_all}
use Rattle.findings.proofs.all.lint_all.Goals as goal

pub loop-lint-init : goal.loop-lint-init
loop-lint-init c = linted_begun _ _ _ _ _ _

pub loop-lint-preserved : goal.loop-lint-preserved
loop-lint-preserved c = linted_next c.loop-lint.invariant _ c.loop-lint-test.true c.task_of-task.ensures c.lint_task-tally.ensures

pub returns : goal.returns
returns c = linted_all c.loop-lint.invariant c.loop-lint-test.false

use Rattle.lints.specs.Code.Overrides.{lint_meant}
use Rattle.lints.proofs.LevelLaws.{LevelFrom}
use Rattle.lints.proofs.levels.Settings.level_of.Given as goal

abbrev pub invariant-loop-word : goal.invariant-loop-word
invariant-loop-word l = LevelFrom l.self.overrides.now (lint_meant l.fn.lint) l.word-index

use Rattle.file.specs.Sections.{file_of}
use Rattle.lints.specs.Code.Overrides.{settings_meant}
use Rattle.findings.specs.Code.Events.{sink_of}
use Rattle.findings.proofs.AllLaws.{Linted}
use Rattle.findings.proofs.all.lint_all.Given as goal

abbrev pub invariant-loop-lint : goal.invariant-loop-lint
invariant-loop-lint l =
    Linted (settings_meant l.settings) l.room l.formats.limit (file_of l.formats.law.law.bytes.now) l.formats.store.now (sink_of l.initial.tally l.initial.out)
    l.lint-index (sink_of l.tally l.out)

use Rattle.std.proofs.Common.{◌≡◌}
use Rattle.findings.specs.Code.Events.{sink_of}
use Rattle.findings.specs.Code.Ways.{file_in, formats_of, law_met}
use Rattle.findings.proofs.WalkSteps as steps
use Rattle.findings.proofs.walk.lint_law.Given as goal

abbrev pub invariant-loop-f : goal.invariant-loop-f
invariant-loop-f l =
    steps.after (file_in l.way) (formats_of l.way) l.way.task (sink_of l.initial.so_far l.initial.out) (law_met l.way)
    ≡ steps.after (file_in l.way) (formats_of l.way) l.way.task (sink_of l.so_far l.out) (steps.functions_met (file_in l.way) (formats_of l.way) l.way.task l.f)

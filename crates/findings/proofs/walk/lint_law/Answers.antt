use Rattle.std.proofs.Common.{arith}
use Rattle.findings.specs.Code.Events.{sink_of}
use Rattle.findings.specs.Code.Ways.{file_in, formats_of, law_met}
use Rattle.findings.proofs.Prepared.{prepared}
use Rattle.findings.proofs.WalkSteps as steps
use Rattle.findings.proofs.walk.lint_law.Goals as goal

pub loop-f-init : goal.loop-f-init
loop-f-init c = steps.functions_start_lem (file_in c.args.way.now) (formats_of c.args.way.now) c.args.way.now.task (sink_of c.args.tally c.args.out.now)

pub overflow_cast-task : goal.overflow_cast-task
overflow_cast-task c = omega (arith, c.loop-f-test.true, steps.functions_few (prepared c.args.way.now), c.functions-f-end.ensures)

pub lint_function-so_far-requires : goal.lint_function-so_far-requires
lint_function-so_far-requires c =
    omega (arith, c.loop-f-test.true, steps.functions_read (prepared c.args.way.now) c.functions-f-end.result c.functions-f-end.ensures)

pub loop-f-preserved : goal.loop-f-preserved
loop-f-preserved c =
    steps.functions_next (file_in c.args.way.now) (formats_of c.args.way.now) c.args.way.now.task c.loop-f.f
    (steps.after (file_in c.args.way.now) (formats_of c.args.way.now) c.args.way.now.task (sink_of c.args.tally c.args.out.now) (law_met c.args.way.now)) (sink_of c.loop-f.so_far c.loop-f.out)
    (sink_of c.lint_function-so_far.result c.lint_function-so_far.new.out)
    (omega (arith, c.loop-f-test.true, steps.functions_read (prepared c.args.way.now) c.functions-f-end.result c.functions-f-end.ensures)) c.loop-f.invariant
    c.lint_function-so_far.ensures

pub returns : goal.returns
returns c =
    steps.functions_end (file_in c.args.way.now) (formats_of c.args.way.now) c.args.way.now.task c.loop-f.f
    (steps.after (file_in c.args.way.now) (formats_of c.args.way.now) c.args.way.now.task (sink_of c.args.tally c.args.out.now) (law_met c.args.way.now)) (sink_of c.loop-f.so_far c.loop-f.out)
    (omega (arith, c.loop-f-test.false, steps.functions_read (prepared c.args.way.now) c.functions-f-end.result c.functions-f-end.ensures)) c.loop-f.invariant

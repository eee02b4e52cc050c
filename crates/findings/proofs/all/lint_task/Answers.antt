use Rattle.findings.specs.Code.Events.{sink_of}
use Rattle.findings.specs.Code.Ways.{law_in, formats_of}
use Rattle.findings.proofs.AllLaws.{not_due, is_due_lem}
use Rattle.findings.proofs.all.lint_task.Goals as goal

pub returns-then-not-is_due : goal.returns-then-not-is_due
returns-then-not-is_due c =
    not_due (law_in c.args.way.now) (formats_of c.args.way.now) c.args.way.now.task c.args.way.now.task.room (sink_of c.args.tally c.args.out.now) c.is_due.ensures c.if-not-is_due.true

pub returns : goal.returns
returns c =
    is_due_lem (law_in c.args.way.now) (formats_of c.args.way.now) c.args.way.now.task c.args.way.now.task.room (sink_of c.args.tally c.args.out.now) c.is_due.ensures c.if-not-is_due.false c.lint_law.ensures

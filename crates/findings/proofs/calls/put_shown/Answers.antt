use mathlib.Core.List.{[], ◌∷◌}
use Rattle.file.specs.Sections.{file_of}
use Rattle.findings.specs.Code.Events.{sink_of}
use Rattle.findings.specs.Code.Judging.{call_found}
use Rattle.findings.proofs.CallLaws.{shown_not, shown_one}
use Rattle.findings.proofs.calls.put_shown.Goals as goal

pub returns-then-not-way : goal.returns-then-not-way
returns-then-not-way c =
    shown_not c.args.way.now.task.room (sink_of c.args.tally c.args.out.now) c.args.way.now.task.shown (call_found (file_of c.args.way.now.formats.now.law.law.bytes.now) c.args.way.now.task c.args.t c.args.a ∷ []) (rw c.if-not-way.true)

pub returns : goal.returns
returns c =
    shown_one c.args.way.now.task.room (call_found (file_of c.args.way.now.formats.now.law.law.bytes.now) c.args.way.now.task c.args.t c.args.a) c.args.tally c.args.out.now c.args.way.now.task.shown (rw c.if-not-way.false)
    c.put_call.ensures

use Rattle.file.specs.Sections.{file_of}
use Rattle.law.specs.Reading.{tree_of}
use Rattle.lints.specs.Code.Records.{formats_in, call_at}
use Rattle.findings.specs.Code.Events.{sink_of}
use Rattle.std.proofs.Common.{sym, ◌∙◌}
use Rattle.findings.specs.Code.Tasks.{recognition_events}
use Rattle.findings.proofs.CollectLaws.{collect_none}
use Rattle.findings.proofs.CallLaws.{collect_over, collect_wide, recognition_met}
use Rattle.findings.proofs.Prepared.{said}
use Rattle.findings.proofs.calls.note_recognition.Goals as goal

pub returns-then-is_over : goal.returns-then-is_over
returns-then-is_over c =
    let formats = formats_in (file_of c.args.way.now.formats.now.law.law.bytes.now) c.args.way.now.task.limit c.args.way.now.formats.now.store.now in
    collect_over c.args.way.now.task.room c.args.tally c.args.out.now (recognition_events (tree_of (file_of c.args.way.now.formats.now.law.law.bytes.now)) formats c.args.way.now.task (call_at (file_of c.args.way.now.formats.now.law.law.bytes.now) c.args.t))
    (sym c.is_over.ensures ∙ c.if-is_over.true)

pub returns-in-Err : goal.returns-in-Err
returns-in-Err c =
    let formats = formats_in (file_of c.args.way.now.formats.now.law.law.bytes.now) c.args.way.now.task.limit c.args.way.now.formats.now.store.now in
    recognition_met (file_of c.args.way.now.formats.now.law.law.bytes.now) c.args.way.now.task formats (tree_of (file_of c.args.way.now.formats.now.law.law.bytes.now)) c.args.t c.args.way.now.task.room (sink_of c.args.tally c.args.out.now)
    (said c.args.way.now c.args.t c.in-Err.ensures) (collect_wide c.args.way.now.task.room c.args.tally c.args.out.now)

pub returns-in-Ok-None : goal.returns-in-Ok-None
returns-in-Ok-None c =
    let formats = formats_in (file_of c.args.way.now.formats.now.law.law.bytes.now) c.args.way.now.task.limit c.args.way.now.formats.now.store.now in
    recognition_met (file_of c.args.way.now.formats.now.law.law.bytes.now) c.args.way.now.task formats (tree_of (file_of c.args.way.now.formats.now.law.law.bytes.now)) c.args.t c.args.way.now.task.room (sink_of c.args.tally c.args.out.now)
    (said c.args.way.now c.args.t (rw c.in-Ok-None.field-0-is at c.in-Ok-None.ensures)) (collect_none c.args.way.now.task.room (sink_of c.args.tally c.args.out.now))

pub returns-in-Ok-Some : goal.returns-in-Ok-Some
returns-in-Ok-Some c =
    let formats = formats_in (file_of c.args.way.now.formats.now.law.law.bytes.now) c.args.way.now.task.limit c.args.way.now.formats.now.store.now in
    recognition_met (file_of c.args.way.now.formats.now.law.law.bytes.now) c.args.way.now.task formats (tree_of (file_of c.args.way.now.formats.now.law.law.bytes.now)) c.args.t c.args.way.now.task.room (sink_of c.args.tally c.args.out.now)
    (said c.args.way.now c.args.t (rw c.in-Ok-Some.field-0-is at c.in-Ok-Some.ensures)) (rw (← c.from.ensures) c.put_shown.ensures)

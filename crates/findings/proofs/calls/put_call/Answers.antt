use Rattle.file.specs.Sections.{file_of}
use Rattle.findings.proofs.CallLaws.{put_met}
use Rattle.findings.proofs.calls.put_call.Goals as goal

pub returns : goal.returns
returns c =
    put_met (file_of c.args.way.now.formats.now.law.law.bytes.now) c.args.way.now.task c.args.t c.args.a c.args.way.now.task.room c.args.tally c.args.out.now c.call_note-note.ensures c.put_note.ensures

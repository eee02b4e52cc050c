use Rattle.file.specs.Sections.{file_of}
use Rattle.law.specs.Reading.{tree_of}
use Rattle.lints.specs.Code.Records.{formats_in}
use Rattle.findings.specs.Code.Events.{sink_of}
use Rattle.findings.specs.Code.Tasks.{call_events}
use Rattle.findings.proofs.CallLaws.{kind_call, met_none, met_recognition, met_builtin, met_other}
use Rattle.findings.proofs.calls.note_call.Goals as goal

pub returns-then-term_word-ne7 : goal.returns-then-term_word-ne7
returns-then-term_word-ne7 c =
    let formats = formats_in (file_of c.args.way.now.formats.now.law.law.bytes.now) c.args.way.now.task.limit c.args.way.now.formats.now.store.now in
    met_none (file_of c.args.way.now.formats.now.law.law.bytes.now) c.args.t c.term_word.ensures c.args.way.now.task.room (sink_of c.args.tally c.args.out.now) (call_events (tree_of (file_of c.args.way.now.formats.now.law.law.bytes.now)) formats c.args.way.now.task)
    c.if-term_word-ne7.true

pub note_recognition-requires : goal.note_recognition-requires
note_recognition-requires c = (c.requires, kind_call (file_of c.args.way.now.formats.now.law.law.bytes.now) c.args.t c.term_word.ensures c.if-term_word-ne7.false)

pub note_builtin-requires : goal.note_builtin-requires
note_builtin-requires c = (c.requires, kind_call (file_of c.args.way.now.formats.now.law.law.bytes.now) c.args.t c.term_word.ensures c.if-term_word-ne7.false)

pub returns-in-Recognition : goal.returns-in-Recognition
returns-in-Recognition c =
    let formats = formats_in (file_of c.args.way.now.formats.now.law.law.bytes.now) c.args.way.now.task.limit c.args.way.now.formats.now.store.now in
    met_recognition (file_of c.args.way.now.formats.now.law.law.bytes.now) c.args.t c.term_word.ensures (tree_of (file_of c.args.way.now.formats.now.law.law.bytes.now)) formats c.args.way.now.task c.if-term_word-ne7.false c.args.way.now.task.room
    (sink_of c.args.tally c.args.out.now) c.in-Recognition.is c.note_recognition.ensures

pub returns-in-Builtin : goal.returns-in-Builtin
returns-in-Builtin c =
    let formats = formats_in (file_of c.args.way.now.formats.now.law.law.bytes.now) c.args.way.now.task.limit c.args.way.now.formats.now.store.now in
    met_builtin (file_of c.args.way.now.formats.now.law.law.bytes.now) c.args.t c.term_word.ensures (tree_of (file_of c.args.way.now.formats.now.law.law.bytes.now)) formats c.args.way.now.task c.if-term_word-ne7.false c.args.way.now.task.room
    (sink_of c.args.tally c.args.out.now) c.in-Builtin.is c.note_builtin.ensures

pub returns-in_default : goal.returns-in_default
returns-in_default c =
    let formats = formats_in (file_of c.args.way.now.formats.now.law.law.bytes.now) c.args.way.now.task.limit c.args.way.now.formats.now.store.now in
    met_other (file_of c.args.way.now.formats.now.law.law.bytes.now) c.args.t c.term_word.ensures (tree_of (file_of c.args.way.now.formats.now.law.law.bytes.now)) formats c.args.way.now.task c.if-term_word-ne7.false c.args.way.now.task.room
    (sink_of c.args.tally c.args.out.now) c.in_default.not-Recognition c.in_default.not-Builtin

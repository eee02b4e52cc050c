use Rattle.file.specs.Sections.{file_of}
use Rattle.law.specs.Reading.{tree_of}
use Rattle.findings.specs.Code.Events.{sink_of}
use Rattle.findings.specs.Code.Judging.{call_found}
use Rattle.findings.proofs.CollectLaws.{collect_none}
use Rattle.findings.proofs.CallLaws.{name_inside, builtin_met, collect_met}
use Rattle.findings.proofs.calls.note_builtin.Goals as goal

pub name_in-name-requires : goal.name_in-name-requires
name_in-name-requires c =
    name_inside (file_of c.args.way.now.formats.now.law.law.bytes.now) c.args.t c.args.way.now.formats.now.law.accepted.fields c.requires.0 c.requires.1 c.text-words.ensures c.term_word-start.ensures c.term_word-len.ensures

pub returns-in-None : goal.returns-in-None
returns-in-None c =
    builtin_met (file_of c.args.way.now.formats.now.law.law.bytes.now) c.args.t c.args.way.now.task (tree_of (file_of c.args.way.now.formats.now.law.law.bytes.now)) c.args.way.now.task.room (sink_of c.args.tally c.args.out.now) c.text-words.ensures
    c.term_word-start.ensures c.term_word-len.ensures c.name_in-name.ensures c.argument_of.ensures c.in-None.ensures
    (collect_none c.args.way.now.task.room (sink_of c.args.tally c.args.out.now))

pub returns-in-Some : goal.returns-in-Some
returns-in-Some c =
    builtin_met (file_of c.args.way.now.formats.now.law.law.bytes.now) c.args.t c.args.way.now.task (tree_of (file_of c.args.way.now.formats.now.law.law.bytes.now)) c.args.way.now.task.room (sink_of c.args.tally c.args.out.now) c.text-words.ensures
    c.term_word-start.ensures c.term_word-len.ensures c.name_in-name.ensures c.argument_of.ensures c.in-Some.ensures
    (rw (← c.from.ensures) (collect_met c.args.way.now.task.room (call_found (file_of c.args.way.now.formats.now.law.law.bytes.now) c.args.way.now.task c.args.t c.from.result) c.args.tally c.args.out.now c.put_call.ensures))

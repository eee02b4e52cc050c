use Rattle.std.proofs.Common.{◌+◌, ◌-◌, ◌≡◌}
use Rattle.file.specs.Sections.{file_of}
use Rattle.findings.specs.Code.Events.{sink_of, collect}
use Rattle.findings.proofs.OpenLaws.{open_from}
use Rattle.findings.proofs.open.note_open.Given as goal

abbrev pub invariant-loop-i : goal.invariant-loop-i
invariant-loop-i l =
    collect l.way.task.room (sink_of l.initial.so_far l.initial.out) (open_from (file_of l.way.formats.now.law.law.bytes.now) l.way.task l.count l.first)
    ≡ collect l.way.task.room (sink_of l.so_far l.out) (open_from (file_of l.way.formats.now.law.law.bytes.now) l.way.task (l.count - l.i) (l.first + l.i))

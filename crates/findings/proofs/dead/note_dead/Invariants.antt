use Rattle.std.proofs.Common.{◌≡◌}
use mathlib.Core.Bool.{Bool}
use Rattle.file.specs.Sections.{file_of}
use Rattle.findings.specs.Code.Events.{sink_of, collect}
use Rattle.findings.specs.Code.DeadSteps.{dead_from}
use Rattle.findings.proofs.dead.note_dead.Given as goal

abbrev pub invariant-loop-later : goal.invariant-loop-later
invariant-loop-later l =
    (in_block : Bool) → collect l.way.task.room (sink_of l.initial.so_far l.initial.out) (dead_from (file_of l.way.formats.now.law.law.bytes.now) l.way.task in_block l.first l.count 0)
    ≡ collect l.way.task.room (sink_of l.so_far l.out) (dead_from (file_of l.way.formats.now.law.law.bytes.now) l.way.task in_block l.first l.count l.later)

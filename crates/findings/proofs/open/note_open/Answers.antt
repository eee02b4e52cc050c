use Rattle.std.proofs.Common.{arith, ap}
use Rattle.file.specs.Sections.{file_of}
use Rattle.law.proofs.Allowed.{accepted_readable}
use Rattle.law.proofs.IndexLaws.{sentences_limit}
use Rattle.findings.specs.Code.Events.{sink_of, collect}
use Rattle.findings.proofs.OpenLaws.{open_starts, open_again, open_ends}
use Rattle.findings.proofs.open.note_open.Goals as goal

pub loop-i-init : goal.loop-i-init
loop-i-init c =
    ap (collect c.args.way.now.task.room (sink_of c.args.tally c.args.out.now))
    (open_starts (file_of c.args.way.now.formats.now.law.law.bytes.now) (accepted_readable _ c.args.way.now.formats.now.law.accepted) c.args.way.now.task c.args.first c.args.count)

pub overflow_add-first : goal.overflow_add-first
overflow_add-first c = omega (arith, c.requires, c.loop-i-test.true, sentences_limit _ _ c.args.way.now.formats.now.law.law.indexed)

pub loop-i-preserved : goal.loop-i-preserved
loop-i-preserved c =
    open_again (file_of c.args.way.now.formats.now.law.law.bytes.now) (accepted_readable _ c.args.way.now.formats.now.law.accepted) c.args.way.now.task c.args.first c.args.count c.loop-i.i c.loop-i-test.true
    c.requires _ _ _ c.loop-i.invariant c.note_pattern-so_far.ensures

pub returns : goal.returns
returns c =
    open_ends (file_of c.args.way.now.formats.now.law.law.bytes.now) (accepted_readable _ c.args.way.now.formats.now.law.accepted) c.args.way.now.task c.args.first c.args.count c.loop-i.i c.loop-i-test.false
    _ _ c.loop-i.invariant

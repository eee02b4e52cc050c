use Rattle.file.specs.Sections.{file_of}
use Rattle.law.proofs.Allowed.{accepted_readable}
use Rattle.findings.proofs.DeadLaws.{dead_starts, dead_again, dead_ends}
use Rattle.findings.proofs.dead.note_dead.Goals as goal

pub loop-later-preserved : goal.loop-later-preserved
loop-later-preserved c =
    dead_again (file_of c.args.way.now.formats.now.law.law.bytes.now) c.args.way.now.task c.args.first c.args.count (accepted_readable _ c.args.way.now.formats.now.law.accepted) c.loop-later.later
    c.loop-later-test.true c.requires _ _ _ c.loop-later.invariant c.note_sentence-so_far.ensures

pub returns : goal.returns
returns c = λ in_block.
    rw (dead_starts (file_of c.args.way.now.formats.now.law.law.bytes.now) c.args.way.now.task c.args.first c.args.count in_block)
    (dead_ends (file_of c.args.way.now.formats.now.law.law.bytes.now) c.args.way.now.task c.args.first c.args.count c.loop-later.later c.loop-later-test.false _ _ c.loop-later.invariant in_block)

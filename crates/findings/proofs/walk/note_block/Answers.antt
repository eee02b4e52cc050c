use mathlib.Core.Bool.{true}
use Rattle.file.specs.Sections.{file_of}
use Rattle.law.specs.Tree.{keep}
use Rattle.law.specs.Reading.{sentences_at}
use Rattle.findings.specs.Code.Events.{sink_of}
use Rattle.findings.proofs.WalkLaws.{block_passed, block_noted}
use Rattle.findings.proofs.WalkSteps.{is_dead_lint, not_dead_lint}
use Rattle.findings.proofs.walk.note_block.Goals as goal

pub returns-in-Dead : goal.returns-in-Dead
returns-in-Dead c =
    block_noted c.args.way.now.task (keep c.args.count (sentences_at (file_of c.args.way.now.formats.now.law.law.bytes.now) c.args.first)) (sink_of c.args.tally c.args.out.now) _ (is_dead_lint c.in-Dead.is)
    (c.note_dead.ensures true)

pub returns-in_default : goal.returns-in_default
returns-in_default c =
    block_passed c.args.way.now.task (keep c.args.count (sentences_at (file_of c.args.way.now.formats.now.law.law.bytes.now) c.args.first)) (sink_of c.args.tally c.args.out.now)
    (not_dead_lint _ c.in_default.not-Dead)

use Rattle.findings.proofs.CollectLaws.{note_written}
use Rattle.findings.proofs.write_note.Goals as goal

pub returns : goal.returns
returns c = note_written c.args.out.now c.args.at c.requires c.copy_from_slice.ensures.after c.from.ensures

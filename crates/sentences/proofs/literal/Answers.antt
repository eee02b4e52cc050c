use Rattle.sentences.proofs.EntryLaws.{literal_known}
use Rattle.sentences.proofs.literal.Goals as goal

pub returns-in-Some : goal.returns-in-Some
returns-in-Some c = let a = c.args.pair.now in literal_known a.records.text.now a.pattern.now a.row.now c.requires.2 c.in-Some.ensures

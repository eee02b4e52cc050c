use Rattle.sentences.proofs.EntryLaws.{shadow_known}
use Rattle.sentences.proofs.shadow.Goals as goal

pub returns-in-Some : goal.returns-in-Some
returns-in-Some c = let a = c.args.pair.now in shadow_known a.records.text.now a.pattern.now a.row.now c.in-Some.ensures

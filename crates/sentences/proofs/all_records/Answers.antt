use Rattle.sentences.proofs.SentenceLaws.{all_terms}
use Rattle.sentences.proofs.all_records.Goals as goal

pub returns : goal.returns
returns c = let a = c.args.accepted.now in (c.text.ensures, all_terms _ _ a.law.indexed a.accepted _ _ c.terms.ensures c.records.ensures)

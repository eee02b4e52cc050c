use Rattle.std.proofs.Common.{sym, ◌∙◌}
use Rattle.sentences.proofs.EntryLaws.{known_not, known_once}
use Rattle.sentences.proofs.known.Goals as goal

pub returns-then-not-loose : goal.returns-then-not-loose
returns-then-not-loose c =
    let a = c.args.pair.now in known_not a.records.text.now a.pattern.now a.row.now (sym c.loose.ensures ∙ c.if-not-loose.true)

pub returns-then-once : goal.returns-then-once
returns-then-once c =
    let a = c.args.pair.now in known_once a.records.text.now a.pattern.now a.row.now (sym c.loose.ensures ∙ c.if-not-loose.false) (c.once.ensures c.if-once.true)

use Rattle.writing.proofs.HeldLaws.{kinds_size}
use Rattle.writing.proofs.CloserLaws.{inner_records}
use Rattle.writing.proofs.source.Source.inner_records.Goals as goal

pub returns : goal.returns
returns c ts n =
    inner_records n (kinds_size c.args.self.now.tokens.now) c.requires.1 c.closer_at-closer.ensures.1 c.records_at.ensures c.records_at-2.ensures c.saturating_sub.ensures

use Rattle.writing.proofs.HeldLaws.{kinds_size}
use Rattle.writing.proofs.CloserLaws.{inner_ends}
use Rattle.writing.proofs.source.Source.inner_end.Goals as goal

pub returns : goal.returns
returns c ts n = inner_ends n (kinds_size c.args.self.now.tokens.now) c.requires.1 c.closer_at.ensures.1 c.end_at.ensures.0

use Rattle.std.proofs.Common.{rules}
use Rattle.file.specs.Head.{term_at}
use Rattle.file.proofs.term_at.Goals as goal

pub returns : goal.returns
unfolding term_at
returns c = search rules

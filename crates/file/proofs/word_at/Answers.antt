use Rattle.std.proofs.Common.{rules}
use Rattle.file.specs.Word.{word_at}
use Rattle.file.proofs.word_at.Goals as goal

pub returns : goal.returns
unfolding word_at
returns c = search rules

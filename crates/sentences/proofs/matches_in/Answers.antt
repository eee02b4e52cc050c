-- A file that is refused, or the answer for an accepted law with its index.
use Rattle.sentences.proofs.SentenceLaws.{law_asked, recognise_refused, recognise_accepted}
use Rattle.sentences.proofs.matches_in.Goals as goal

pub returns-in_err-read_law : goal.returns-in_err-read_law
returns-in_err-read_law c =
    recognise_refused _ _ c.read_law.ensures.0 _ _ _ c.in_err-read_law.was c.from_residual.result c.from_residual.ensures.1

pub new-requires : goal.new-requires
new-requires c = law_asked _ _ c.read_law.ensures.0 _ c.read_law.ensures.1 c.in_ok-read_law.was

pub returns : goal.returns
returns c = recognise_accepted _ _ c.read_law.ensures.0 _ _ c.recognise_accepted.result c.in_ok-read_law.was _ c.new.ensures.0 c.recognise_accepted.ensures

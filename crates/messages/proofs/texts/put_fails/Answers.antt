-- How the text begins, and why the call fails.
use Rattle.lints.specs.Message.{claim_text}
use Rattle.buffers.proofs.TextLaws.{◌next◌}
use Rattle.messages.proofs.texts.put_fails.Goals as goal

pub returns : goal.returns
unfolding claim_text
returns c = λ owner f e. c.put_call.ensures.1 f e next (rw c.failure_words.ensures.0 at c.put.ensures)

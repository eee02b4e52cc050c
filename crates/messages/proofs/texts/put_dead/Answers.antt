-- Seven pieces, one after another.
use Rattle.law.specs.Text.{bytes_of}
use Rattle.lints.specs.Message.{claim_text}
use Rattle.buffers.proofs.TextLaws.{◌next◌}
use Rattle.messages.proofs.texts.put_dead.Goals as goal

pub returns : goal.returns
unfolding bytes_of claim_text
returns c =
    λ f e. c.put.ensures next c.put_decimal.ensures.1 next c.put-2.ensures next c.put_owner.ensures.1 f e next c.put-3.ensures
    next c.put_decimal-2.ensures.1 next c.put-4.ensures

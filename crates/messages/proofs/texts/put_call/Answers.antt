-- Three pieces, one after another.
use Rattle.std.proofs.Common.{arith}
use Rattle.law.specs.Text.{bytes_of}
use Rattle.buffers.proofs.TextLaws.{◌next◌}
use Rattle.messages.proofs.texts.put_call.Goals as goal

pub returns : goal.returns
unfolding bytes_of
returns c = (
  omega (arith, c.put.ensures.put.end, c.put-2.ensures.put.end, c.put-3.ensures.put.end),
  λ f e. rw e (c.put.ensures next c.put-2.ensures next c.put-3.ensures),
)

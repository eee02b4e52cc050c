-- How the text begins, and three pieces after it.
use Rattle.std.proofs.Common.{refl}
use Rattle.law.specs.Text.{bytes_of}
use Rattle.lints.specs.Message.{claim_text}
use Rattle.buffers.proofs.TextLaws.{◌next◌}
use Rattle.messages.proofs.texts.put_by_literals.Goals as goal

pub returns : goal.returns
unfolding bytes_of claim_text
returns c =
    λ owner f e. rw e (c.put_call.ensures.1 (record { start = 0; spelled = c.args.callee.now }) refl
    next c.put.ensures next c.put-2.ensures next c.put-3.ensures)

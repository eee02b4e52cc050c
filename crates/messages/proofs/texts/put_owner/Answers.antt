-- Of a block, three pieces, one after another; else the name alone.
use Rattle.std.proofs.Common.{arith}
use Rattle.law.specs.Text.{bytes_of}
use Rattle.buffers.proofs.TextLaws.{◌next◌}
use Rattle.messages.proofs.texts.put_owner.Goals as goal

pub returns-then-in_block : goal.returns-then-in_block
unfolding bytes_of
returns-then-in_block c = (
  omega (arith, c.put.ensures.put.end, c.put-then-in_block.ensures.put.end, c.put-then-in_block-2.ensures.put.end),
  λ f e. rw (c.if-in_block.true, e) (c.put.ensures next c.put-then-in_block.ensures next c.put-then-in_block-2.ensures),
)

pub returns-else-in_block : goal.returns-else-in_block
unfolding bytes_of
returns-else-in_block c = (
  omega (arith, c.put-else-in_block.ensures.put.end),
  λ f e. rw (c.if-in_block.false, e) c.put-else-in_block.ensures,
)

-- Nothing, or a heading.
use Rattle.buffers.proofs.TextLaws.{puts_none}
use Rattle.pages.proofs.LineLaws.{no_heading, some_heading}
use Rattle.pages.proofs.put_heading_before.Goals as goal

pub returns-then-i-ne0 : goal.returns-then-i-ne0
returns-then-i-ne0 c = rw (no_heading c.args.functions c.args.i c.if-i-ne0.true) (puts_none c.args.text.now)

pub returns : goal.returns
returns c = rw (some_heading c.args.functions c.args.i c.if-i-ne0.false) c.put_head.ensures

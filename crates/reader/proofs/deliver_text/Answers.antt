use Rattle.reader.proofs.ReadLaws.{tokens_outside, text_delivered}
use Rattle.reader.proofs.deliver_text.Goals as goal

pub returns-then-not-accepts : goal.returns-then-not-accepts
returns-then-not-accepts c = tokens_outside _ _ _ _ c.requires.3 c.accepts.ensures c.if-not-accepts.true

pub returns : goal.returns
returns c = text_delivered _ _ _ _ c.requires.3 c.accepts.ensures _ c.if-not-accepts.false c.deliver_tokens.ensures

use Rattle.tokens.proofs.PieceLaws.{entry_found, extern_found, dollar_none}
use Rattle.tokens.proofs.pieces.dollar_at.Goals as goal

pub returns-then-stands_at : goal.returns-then-stands_at
returns-then-stands_at c = entry_found c.args.text.now c.args.at c.stands_at.ensures c.if-stands_at.true

pub returns-then-stands_at-2 : goal.returns-then-stands_at-2
returns-then-stands_at-2 c = extern_found c.args.text.now c.args.at c.stands_at-else-stands_at.ensures c.if-stands_at-2.true

pub returns-else-stands_at-2 : goal.returns-else-stands_at-2
returns-else-stands_at-2 c = dollar_none c.args.text.now c.args.at c.requires.0 c.requires.1 c.stands_at.ensures c.if-stands_at.false c.stands_at-else-stands_at.ensures c.if-stands_at-2.false

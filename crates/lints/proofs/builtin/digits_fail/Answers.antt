-- No character at all, and some: `no_digits` and `digits_long`.
use Rattle.lints.proofs.PartLaws.{no_digits, digits_long}
use Rattle.lints.proofs.builtin.digits_fail.Goals as goal

pub returns-then-part-lt24 : goal.returns-then-part-lt24
returns-then-part-lt24 c = no_digits _ c.if-part-lt24.true

pub returns-then-eq : goal.returns-then-eq
returns-then-eq c = rw c.if-eq.true at (digits_long c.args.part.now c.if-part-lt24.false c.all_digits.ensures c.eq.ensures)

pub returns-else-eq : goal.returns-else-eq
returns-else-eq c = rw c.if-eq.false at (digits_long c.args.part.now c.if-part-lt24.false c.all_digits.ensures c.eq.ensures)

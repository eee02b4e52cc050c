use Rattle.std.proofs.Common.{arith}
use Rattle.numbers.proofs.StrippedLaws.{digits_differ, digits_agree}
use Rattle.numbers.proofs.digits_equal.Goals as goal

pub returns-then-a-i : goal.returns-then-a-i
returns-then-a-i c = digits_differ c.args.a.now c.args.b.now _ c.if-a-i.true

pub returns : goal.returns
returns c = digits_agree c.args.a.now c.args.b.now c.requires c.loop-i.invariant (omega arith)

use Rattle.std.proofs.Common.{rules, ap, length}
use Rattle.law.proofs.WholeTerms.{parts_none, parts_node}
use Rattle.law.proofs.whole.TermsIterator.next.Goals as goal

pub returns-then-part-lt24-clause-steps : goal.returns-then-part-lt24-clause-steps
returns-then-part-lt24-clause-steps c = let none = parts_none _ c.if-part-lt24.true in (none, none)

pub returns-clause-steps : goal.returns-clause-steps
returns-clause-steps c = (c.if-part-lt24.false, rw c.after-self.ensures.0 (parts_node _ c.if-part-lt24.false))

pub returns-clause-goes : goal.returns-clause-goes
returns-clause-goes c = let fewer = ap length (returns-clause-steps c).1 in search rules

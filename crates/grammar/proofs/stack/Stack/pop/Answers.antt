use Rattle.grammar.proofs.StackLaws.{stack_empty, stack_top}
use Rattle.grammar.proofs.stack.Stack.pop.Goals as goal

pub returns-then-self-eq0-clause-top : goal.returns-then-self-eq0-clause-top
returns-then-self-eq0-clause-top c = stack_empty c.args.self.now.depth c.args.self.now.places c.if-self-eq0.true

pub returns-clause-top : goal.returns-clause-top
returns-clause-top c = stack_top c.args.self.now.depth c.args.self.now.places c.if-self-eq0.false

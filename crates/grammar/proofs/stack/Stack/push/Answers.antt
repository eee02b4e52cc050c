use Rattle.std.proofs.Common.{arith}
use Rattle.grammar.proofs.StackLaws.{stack_push}
use Rattle.grammar.proofs.stack.Stack.push.Goals as goal

pub returns-clause-top : goal.returns-clause-top
returns-clause-top c = stack_push c.args.self.now.depth c.args.self.now.places c.args.pair (omega (arith, c.args.self.now.long))

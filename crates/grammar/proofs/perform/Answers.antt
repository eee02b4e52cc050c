use Rattle.std.proofs.Common.{arith}
use Rattle.grammar.proofs.StackLaws.{done_leave}
use Rattle.grammar.proofs.perform.Goals as goal

pub returns-in-Leave : goal.returns-in-Leave
returns-in-Leave c =
    let held = c.args.stack.now in
    record {
      same = λ then. rw (c.in-Leave.is, c.then_some.ensures, c.is_empty.ensures) (done_leave held.depth held.places c.in-Leave.mode then);
      bound = omega arith;
    }

-- The file is accepted, so its index is that of a law that can be read.
use Rattle.std.proofs.Common.{arith}
use Rattle.formats.proofs.CallLaws.{call_accepted}
use Rattle.test_stores.proofs.tests.row_of_a_pattern.Goals as goal

pub slots_of-slots-requires : goal.slots_of-slots-requires
slots_of-slots-requires g c = (call_accepted _ _ c.read_law.result c.in_ok-read_law.was c.read_law.ensures.0 c.read_law.ensures.1).1.fields

pub invariant_of-placed : goal.invariant_of-placed
invariant_of-placed g c =
    let law = call_accepted _ _ c.read_law.result c.in_ok-read_law.was c.read_law.ensures.0 c.read_law.ensures.1 in
    record { readable = law.1; places = c.slots_of-slots.ensures; small = omega arith }

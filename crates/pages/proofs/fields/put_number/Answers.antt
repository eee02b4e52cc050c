-- One law for each step: no digit is found, there is a place for one more, one more, and the first digit.
use Rattle.std.proofs.Common.{arith}
use Rattle.pages.proofs.NumberLaws.{none_found, place_left, one_more, all_found_lem}
use Rattle.pages.proofs.fields.put_number.Goals as goal

pub loop-rest-init : goal.loop-rest-init
loop-rest-init c = none_found c.args.n

pub overflow_sub-i-in-loop-rest : goal.overflow_sub-i-in-loop-rest
overflow_sub-i-in-loop-rest c =
    let now = c.loop-rest in
    place_left c.args.n c.requires.0 now.rest now.i now.field now.invariant c.loop-rest-test.true

pub loop-rest-preserved : goal.loop-rest-preserved
loop-rest-preserved c =
    let now = c.loop-rest in
    one_more c.args.n c.requires.0 now.rest now.i now.field now.invariant c.loop-rest-test.true

pub returns : goal.returns
returns c =
    let now = c.loop-rest in
    rw (all_found_lem c.args.n c.requires.0 now.rest now.i now.field now.invariant (omega (arith, c.loop-rest-test.false))) at c.put.ensures

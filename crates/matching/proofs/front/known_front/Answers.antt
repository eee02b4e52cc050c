use Rattle.std.proofs.Common.{arith}
use Rattle.matching.specs.Code.Bound.{values_of}
use Rattle.matching.proofs.CutLaws.{begin_inside}
use Rattle.matching.proofs.KnownLaws as laws
use Rattle.matching.proofs.front.known_front.Goals as goal

pub loop-left-init : goal.loop-left-init
loop-left-init c = let a = c.args in laws.passed_none a.records.now.text.now a.pattern.now a.row.now (values_of a.records.now.text.now a.records.now.terms.now a.b.now)

pub slice_bounds-left-count : goal.slice_bounds-left-count
slice_bounds-left-count c = begin_inside c.loop-left.invariant.begins

pub slice_bounds-left-start : goal.slice_bounds-left-start
slice_bounds-left-start c = begin_inside c.loop-left.invariant.begins

pub overflow_add-i : goal.overflow_add-i
overflow_add-i c = omega (arith, (laws.passed_falls c.loop-left.invariant c.first_of.ensures _ _ c.in-Goes.is).1)

pub loop-left-preserved : goal.loop-left-preserved
loop-left-preserved c = laws.passed_more c.loop-left.invariant c.first_of.ensures _ _ c.in-Goes.is

use Rattle.std.proofs.Common.{arith, eq-eqb, ne_eqb}
use Rattle.findings.proofs.Prepared.{prepared}
use Rattle.findings.proofs.WalkSteps.{functions_few, is_dead_lint, not_dead_lint}
use Rattle.findings.proofs.walk.none_inside.Goals as goal

pub first_sentence-requires : goal.first_sentence-requires
first_sentence-requires c = omega (arith, functions_few (prepared c.args.way.now), c.functions.ensures)

pub returns-in-Dead : goal.returns-in-Dead
returns-in-Dead c = rw (eq-eqb _ 1 (is_dead_lint c.in-Dead.is), c.sentences.ensures, c.first_sentence.ensures, c.functions.ensures)

pub returns-in_default : goal.returns-in_default
returns-in_default c = rw (ne_eqb _ 1 (not_dead_lint _ c.in_default.not-Dead))

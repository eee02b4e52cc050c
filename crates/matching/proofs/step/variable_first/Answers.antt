use Rattle.std.proofs.Common.{sym}
use Rattle.matching.proofs.step.variable_first.Goals as goal

pub returns-in-Some : goal.returns-in-Some
returns-in-Some c = λ v first. c.value_first.ensures v _ first (rw (c.from-start.ensures, c.from-size.ensures) (c.in-Some.ensures.1 v first))

pub returns-in-None : goal.returns-in-None
returns-in-None c = λ v first. c.free_first.ensures _ v _ first (sym (c.in-None.ensures.1 v first))

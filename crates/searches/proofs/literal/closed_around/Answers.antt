use Rattle.std.proofs.Common.{refl, arith}
use Rattle.searches.proofs.AroundLaws as around
use Rattle.searches.proofs.literal.closed_around.Goals as goal

pub loop-n-init : goal.loop-n-init
loop-n-init c = around.looked_start _ _ c.requires.2.0 c.requires.2.1

pub loop-n-preserved : goal.loop-n-preserved
loop-n-preserved c = around.looked_next c.loop-n.invariant (λ e. omega arith) c.from-end.ensures (c.closed.ensures c.if-not-closed.false _ refl (λ i low. refl))

pub returns : goal.returns
returns c = λ e. around.looked_all c.loop-n.invariant (omega arith)

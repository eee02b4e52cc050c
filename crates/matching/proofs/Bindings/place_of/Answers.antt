use Rattle.std.proofs.Common.{arith}
use Rattle.matching.proofs.BoundLaws as laws
use Rattle.matching.proofs.Bindings.place_of.Goals as goal

pub returns-then-variables_same : goal.returns-then-variables_same
returns-then-variables_same c =
    laws.place_here c.loop-i.invariant c.requires.0 (λ e. omega arith) c.from-key.ensures c.variables_same.ensures c.if-variables_same.true

pub loop-i-preserved : goal.loop-i-preserved
loop-i-preserved c =
    laws.place_next c.loop-i.invariant c.requires.0 (λ e. omega arith) c.from-key.ensures c.variables_same.ensures c.if-variables_same.false

pub returns : goal.returns
returns c = laws.place_free c.loop-i.invariant (omega arith)

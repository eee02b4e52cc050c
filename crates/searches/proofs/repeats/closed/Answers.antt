use Rattle.std.proofs.Common.{arith, sym, ◌∙◌}
use Rattle.searches.proofs.RecordLaws as laws
use Rattle.searches.proofs.repeats.closed.Goals as goal

pub loop-i-preserved : goal.loop-i-preserved
loop-i-preserved c = λ d many keys kept vs known.
    laws.closed_next c.args.pattern.now kept (omega (arith, many, c.loop-i-test.true)) (c.from-key.ensures ∙ sym (keys _ c.loop-i-test.true)) (λ k. (c.again.ensures k).0 c.if-again.false) vs
    (c.loop-i.invariant d many keys kept vs known)

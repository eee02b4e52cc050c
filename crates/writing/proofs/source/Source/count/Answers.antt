use Rattle.std.proofs.Common.{arith, sym, ◌∙◌}
use borrow.Author.Tests.{eqb-true, eqb-false}
use Rattle.writing.proofs.HeldLaws.{kinds_size}
use Rattle.writing.proofs.FoundLaws.{counting_stop, counting_one, counting_other, counting_end}
use Rattle.writing.proofs.source.Source.count.Goals as goal
use Rattle.writing.proofs.source.Source.count.Goals.{then-is_at-2, else-is_at-2}

pub returns-then-is_at : goal.returns-then-is_at
returns-then-is_at c =
    let l = kinds_size c.args.self.now.tokens.now in
    counting_stop c.loop-i.invariant (omega arith) (eqb-true _ _ (sym c.is_at.ensures ∙ c.if-is_at.true))

pub loop-i-preserved : goal.loop-i-preserved
loop-i-preserved c =
    let l = kinds_size c.args.self.now.tokens.now in
    let other = eqb-false _ _ (sym c.is_at.ensures ∙ c.if-is_at.false) in
    elim c.if-is_at-2.branch [
      | then-is_at-2 w ↦ rw w.n-is (counting_one c.loop-i.invariant (omega arith) other (sym c.is_at-in-loop-i.ensures ∙ w.if-is_at-2.true))
      | else-is_at-2 w ↦ rw w.n-is (counting_other c.loop-i.invariant (omega arith) other (sym c.is_at-in-loop-i.ensures ∙ w.if-is_at-2.false))
    ]

pub returns : goal.returns
returns c = let l = kinds_size c.args.self.now.tokens.now in counting_end c.loop-i.invariant (omega arith)

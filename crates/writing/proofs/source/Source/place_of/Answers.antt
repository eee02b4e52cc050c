use Rattle.std.proofs.Common.{arith, sym, ◌∙◌, ◌≡◌, length}
use borrow.Author.Tests.{eqb-true, eqb-false}
use Rattle.writing.proofs.HeldLaws.{kinds_size}
use Rattle.writing.proofs.FoundLaws.{place_here, place_next, place_none}
use Rattle.writing.proofs.source.Source.place_of.Goals as goal

pub returns-then-is_at : goal.returns-then-is_at
returns-then-is_at c =
    let l = kinds_size c.args.self.now.tokens.now in
    (place_here _ _ _ _ c.loop-i.invariant (omega arith) (eqb-true _ _ (sym c.is_at.ensures ∙ c.if-is_at.true)), omega arith)

pub loop-i-preserved : goal.loop-i-preserved
loop-i-preserved c =
    let l = kinds_size c.args.self.now.tokens.now in
    place_next _ _ _ _ c.loop-i.invariant (omega arith) (eqb-false _ _ (sym c.is_at.ensures ∙ c.if-is_at.false))

pub returns : goal.returns
returns c =
    let l = kinds_size c.args.self.now.tokens.now in
    let end : length c.args.self.now.tokens.now ≡ c.loop-i.i = omega arith in
    (end ∙ place_none _ _ _ _ c.loop-i.invariant (omega arith), omega arith)

use Rattle.std.proofs.Common.{true, false, ◌≡◌, sym, ◌∙◌, get_or, arith}
use Rattle.tokens.proofs.AtomLaws.{leading_here, leading_past}
use Rattle.tokens.proofs.atoms.leading_end.Goals as goal

pub loop-i-preserved : goal.loop-i-preserved
loop-i-preserved g c = λ test says. (
    let passed : true ≡ test (get_or c.args.text.now c.loop-i.i 0) = sym c.if-not-passes.false ∙ says (get_or c.args.text.now c.loop-i.i 0) _ (omega (arith, c.type_inv.text c.loop-i.i)) c.passes.ensures in
    c.loop-i.invariant test says ∙ rw (leading_here test c.args.text.now c.loop-i.i (omega arith), ← passed) (omega arith)
    )

pub returns-then-not-passes-clause-end : goal.returns-then-not-passes-clause-end
returns-then-not-passes-clause-end g c = λ test says. (
    let failed : false ≡ test (get_or c.args.text.now c.loop-i.i 0) = sym c.if-not-passes.true ∙ says (get_or c.args.text.now c.loop-i.i 0) _ (omega (arith, c.type_inv.text c.loop-i.i)) c.passes.ensures in
    sym (c.loop-i.invariant test says ∙ rw (leading_here test c.args.text.now c.loop-i.i (omega arith), ← failed) (omega arith))
    )

pub returns-clause-end : goal.returns-clause-end
returns-clause-end g c = λ test says. omega (arith, c.loop-i.invariant test says, leading_past test c.args.text.now c.loop-i.i (omega arith))

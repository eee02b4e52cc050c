use Rattle.std.proofs.Common.{arith, ◌∙◌}
use Rattle.names.specs.Name.{name_byte}
use Rattle.tokens.proofs.AtomLaws.{index_past, index_other, index_test}
use Rattle.tokens.proofs.atoms.index_end.Goals as goal
use Rattle.tokens.proofs.atoms.index_end.Goals.{then-at-text-via-then-at-text, then-at-text-via-else-at-text+then-text-at-ne46}

pub returns-then-at-text : goal.returns-then-at-text
returns-then-at-text c =
    elim c.then-at-text.branch [
      | then-at-text-via-then-at-text w ↦ index_past c.args.text.now c.args.at (omega (arith, w.if-at-text.true))
      | then-at-text-via-else-at-text+then-text-at-ne46 w ↦ index_other c.args.text.now c.args.at (omega (arith, w.if-at-text.false)) w.if-text-at-ne46.true
    ]

pub returns : goal.returns
returns c =
    c.then_some.ensures
    ∙ index_test c.args.text.now c.args.at _ (omega (arith, c.if-at-text.false)) c.if-text-at-ne46.false (c.leading_end-end.ensures.end name_byte (λ k b l p. p))

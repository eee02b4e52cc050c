use Rattle.std.proofs.Common.{refl, sym, ◌∙◌}
use Rattle.matching.proofs.SameLaws.{false_not_true}
use Rattle.searches.proofs.AroundLaws as around
use Rattle.searches.proofs.literal.holds_here.Goals as goal
use Rattle.searches.proofs.literal.holds_here.Goals.{then-sure, else-sure}

pub returns-then-closed_around : goal.returns-then-closed_around
returns-then-closed_around c = λ e. elim c.if-sure.branch [
  | then-sure w ↦ (
    w.if-sure.true,
    λ kept start. around.closed_both _ _ _ _ (c.closed.ensures e _ refl (λ i low. refl) kept) (w.closed_around.ensures (sym w.value-is ∙ c.if-closed_around.true) kept start),
  )
  | else-sure w ↦ absurd (false_not_true (sym w.if-sure.false ∙ sym w.value-is ∙ c.if-closed_around.true))
]

use Rattle.std.proofs.Common.{◌≡◌, arith, refl, ◌∙◌}
use lib.ListN.{length-set}
use Rattle.formats.proofs.RowLaws.{leaf_alone, leaves_none, leaves_next}
use Rattle.formats.proofs.rows.write_leaves.Goals as goal

pub loop-n-init : goal.loop-n-init
loop-n-init c = (refl, leaves_none _ _ _ _)

pub loop-n-preserved : goal.loop-n-preserved
loop-n-preserved c = (
  length-set c.loop-n.out _ _ ∙ c.loop-n.invariant.0,
  leaves_next _ _ _ _ _ _ _ _ c.loop-n.invariant.1 (omega arith) (omega arith) (leaf_alone _ _ (rw c.term_at.ensures at c.in-Some.ensures)) c.from.ensures,
)

pub returns-in_default-clause-leaves : goal.returns-in_default-clause-leaves
returns-in_default-clause-leaves c = c.loop-n.invariant.1

pub returns-clause-leaves : goal.returns-clause-leaves
returns-clause-leaves c =
    let all : c.loop-n.n ≡ c.min-most.result = omega arith in
    rw all at c.loop-n.invariant.1

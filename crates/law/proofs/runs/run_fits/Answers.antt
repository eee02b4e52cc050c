use Rattle.std.proofs.Common.{arith, ◌-◌, ◌*◌, ◌≤◌, length, sym, ◌∙◌}
use Rattle.law.proofs.LevelLaws as levels
use Rattle.law.proofs.runs.run_fits.Goals as goal
use Rattle.law.proofs.runs.run_fits.Goals.{then-n-ne0+else-part-i+else-not-level_fits, else-n-ne0}

pub returns-then-part-i : goal.returns-then-part-i
returns-then-part-i c = levels.record_over _ c.loop-k.invariant (omega (arith, c.loop-k-test.true)) c.word_at-n.ensures c.if-part-i.true

pub returns-then-not-level_fits : goal.returns-then-not-level_fits
returns-then-not-level_fits c =
    levels.record_unfit _ c.loop-k.invariant (omega (arith, c.loop-k-test.true)) c.word_at-n.ensures (sym c.level_fits.ensures ∙ c.if-not-level_fits.true)

pub loop-k-preserved : goal.loop-k-preserved
loop-k-preserved c =
    let some : 24 ≤ length c.args.part.now - 24 * c.loop-k.k = omega (arith, c.loop-k-test.true) in
    levels.records_next _ c.loop-k.invariant some
    (elim c.if-n-ne0.branch [
      | then-n-ne0+else-part-i+else-not-level_fits w ↦ levels.record_fits _ c.loop-k.invariant some c.word_at-n.ensures
          w.if-part-i.false (sym w.level_fits.ensures ∙ w.if-not-level_fits.false)
      | else-n-ne0 w ↦ levels.record_leaf _ c.loop-k.invariant some c.word_at-n.ensures w.if-n-ne0.false
    ])

pub returns : goal.returns
returns c = levels.records_end _ c.loop-k.invariant (omega (arith, c.loop-k-test.false))

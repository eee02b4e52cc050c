use Rattle.std.proofs.Common.{sym, ◌+◌, ◌∙◌}
use Rattle.matching.proofs.SameLaws.{false_not_true}
use Rattle.searches.proofs.RecordLaws as laws
use Rattle.searches.proofs.repeats.again.Goals as goal

pub returns-then-variables_same : goal.returns-then-variables_same
returns-then-variables_same c =
    let (i, (past, here, size)) = c.loop-record.invariant in
    let (_, (cut, whole), _) = c.in-Some.ensures.steps in
    let a = c.args in
    let record_is = laws.cut_record a.part.now _ _ _ i here cut (whole ∙ size) in
    λ k. (
      λ e. absurd (false_not_true (sym e)),
      λ e. laws.past_found past (laws.cut_long a.part.now _ _ _ i here cut (whole ∙ size)) (rw record_is at c.variables_same.ensures) c.if-variables_same.true k,
    )

pub loop-record-preserved : goal.loop-record-preserved
loop-record-preserved c =
    let (i, (past, here, size)) = c.loop-record.invariant in
    let (kept, (cut, whole), _) = c.in-Some.ensures.steps in
    let a = c.args in
    let record_is = laws.cut_record a.part.now _ _ _ i here cut (whole ∙ size) in (
      i + 24,
      (
        laws.past_next past (laws.cut_long a.part.now _ _ _ i here cut (whole ∙ size)) (rw record_is at c.variables_same.ensures) c.if-variables_same.false,
        laws.cut_others a.part.now _ _ _ i here cut (whole ∙ size),
        kept ∙ size,
      ),
    )

use Rattle.std.proofs.Common.{arith, ◌+◌, ◌∙◌, ◌<◌, length}
use Rattle.matching.specs.Code.Part.{from}
use Rattle.searches.proofs.RecordLaws as laws
use Rattle.searches.proofs.repeats.disjoint_variables.Goals as goal
use Rattle.searches.proofs.repeats.disjoint_variables.Goals.{else-word_at-gt2-via-then-word_at-gt2+else-again, else-word_at-gt2-via-else-word_at-gt2}

pub loop-record-preserved : goal.loop-record-preserved
loop-record-preserved c =
    let (i, (across, here, size)) = c.loop-record.invariant in
    let (kept, (cut, whole), _) = c.in-Some.ensures.steps in
    let a = c.args in
    let record_is = laws.cut_record a.part.now _ _ _ i here cut (whole ∙ size) in
    let long = laws.cut_long a.part.now _ _ _ i here cut (whole ∙ size) in (
      i + 24,
      (
        elim c.else-word_at-gt2.branch [
          | else-word_at-gt2-via-then-word_at-gt2+else-again w ↦
              laws.across_alone across long (rw record_is at ((w.again.ensures (omega (arith, c.word_at.ensures, w.if-word_at-gt2.true))).0 w.if-again.false))
          | else-word_at-gt2-via-else-word_at-gt2 w ↦ laws.across_symbol across long _ record_is (omega (arith, c.word_at.ensures, w.if-word_at-gt2.false))
        ],
        laws.cut_others a.part.now _ _ _ i here cut (whole ∙ size),
        kept ∙ size,
      ),
    )

pub returns : goal.returns
returns c =
    let (i, (across, here, size)) = c.loop-record.invariant in
    let (_, (short, _), _) = c.in-None.ensures.steps in
    let left : length (from i c.args.part.now) < 24 = rw (here, size) at short in
    λ e. laws.across_all across left

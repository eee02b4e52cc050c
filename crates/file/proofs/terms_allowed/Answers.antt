-- One law for each way through the loop (proofs/Records.antt).
use Rattle.std.proofs.Common.{◌∙◌, ◌+◌, arith}
use Rattle.file.proofs.Fields.{term_fields_part}
use Rattle.file.proofs.Records.{passed_none, record_here, passed_next, passed_fails, passed_end}
use Rattle.file.proofs.terms_allowed.Goals as goal

pub loop-fields-init : goal.loop-fields-init
loop-fields-init c = (0, passed_none 24 _ _ _ _ (cc) (cc))

pub returns-then-not-record_allowed : goal.returns-then-not-record_allowed
returns-then-not-record_allowed c =
    let (i, here) = c.loop-fields.invariant in
    let (_, (cut, whole), _) = c.in-Some.ensures.steps in
    passed_fails here _ _ cut whole (omega arith) (c.record_allowed.ensures ∙ term_fields_part _ _ _ i (record_here here _ _ cut whole)) c.if-not-record_allowed.true

pub loop-fields-preserved : goal.loop-fields-preserved
loop-fields-preserved c =
    let (i, here) = c.loop-fields.invariant in
    let (kept, (cut, whole), _) = c.in-Some.ensures.steps in
    (i + 1, passed_next here _ _ cut whole (omega arith) (c.record_allowed.ensures ∙ term_fields_part _ _ _ i (record_here here _ _ cut whole)) c.if-not-record_allowed.false kept)

pub returns : goal.returns
returns c =
    let (i, here) = c.loop-fields.invariant in
    let (_, (none, _), _) = c.in-None.ensures.steps in
    passed_end here (omega arith) none

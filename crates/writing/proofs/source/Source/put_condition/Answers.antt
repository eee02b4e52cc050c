use Rattle.std.proofs.Common.{arith, refl}
use Rattle.writing.proofs.HeldLaws.{kinds_size}
use Rattle.writing.proofs.SectionLaws.{put_no_record, put_record}
use Rattle.writing.proofs.ConditionLaws.{condition_none, condition_found}
use Rattle.writing.proofs.source.Source.put_condition.Goals as goal

pub returns-then-not-begins_condition : goal.returns-then-not-begins_condition
returns-then-not-begins_condition c =
    let l = kinds_size c.args.self.now.tokens.now in (
      omega arith,
      omega arith,
      λ ts h st.
          put_no_record _ _
          (condition_none h (omega (arith, l, c.requires.1)) c.args.inside refl c.begins_condition.ensures c.if-not-begins_condition.true),
    )

pub returns : goal.returns
returns c =
    let l = kinds_size c.args.self.now.tokens.now in
    let put = c.put_record.ensures in (
      omega (arith, put.0),
      omega (arith, put.0),
      λ ts h st.
          put_record _
          (condition_found h (omega (arith, l, c.requires.1)) c.args.inside refl c.begins_condition.ensures c.if-not-begins_condition.false
          (c.part_records-result.ensures ts h st) c.place_of-colon.ensures.0 (c.part_records-pattern.ensures ts h st) c.start_at-start.ensures.0 c.end_at.ensures.0
          (c.part_end-end.ensures ts h))
          put.1,
    )

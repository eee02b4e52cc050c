use Rattle.std.proofs.Common.{arith, refl}
use Rattle.writing.proofs.HeldLaws.{kinds_size}
use Rattle.writing.proofs.SectionLaws.{put_no_record, put_record}
use Rattle.writing.proofs.SentenceLaws.{sentence_none, sentence_found}
use Rattle.writing.proofs.source.Source.put_sentence.Goals as goal

pub returns-then-not-begins_sentence : goal.returns-then-not-begins_sentence
returns-then-not-begins_sentence c =
    let l = kinds_size c.args.self.now.tokens.now in (
      omega arith,
      omega arith,
      λ ts h st.
          put_no_record _ _
          (sentence_none h (omega (arith, l, c.requires.1)) c.args.inside refl refl c.begins_sentence.ensures c.if-not-begins_sentence.true),
    )

pub returns : goal.returns
returns c =
    let l = kinds_size c.args.self.now.tokens.now in
    let put = c.put_record.ensures in (
      omega (arith, put.0),
      omega (arith, put.0),
      λ ts h st.
          put_record _
          (sentence_found h (omega (arith, l, c.requires.1)) c.args.inside refl refl c.begins_sentence.ensures c.if-not-begins_sentence.false
          (c.part_records-pattern.ensures ts h st) c.count-conditions.ensures c.place_of-equals.ensures.0 (c.part_records-result.ensures ts h st)
          c.start_at-start.ensures.0 c.end_at.ensures.0 (c.part_end-end.ensures ts h))
          put.1,
    )

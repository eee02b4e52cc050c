use Rattle.std.proofs.Common.{arith}
use Rattle.writing.proofs.HeldLaws.{kinds_size}
use Rattle.writing.proofs.SectionLaws.{put_record}
use Rattle.writing.proofs.TermLaws.{call_found_lem}
use Rattle.writing.proofs.source.Source.put_call.Goals as goal

pub returns : goal.returns
returns c =
    let l = kinds_size c.args.self.now.tokens.now in (
      c.put_record.ensures.0,
      λ ts n.
          put_record _
          (call_found_lem n.held (omega (arith, l, c.requires.2)) c.requires.3 c.start_at-name.ensures.0 c.end_at.ensures.0 c.saturating_sub-size.ensures
          (c.inner_records-records.ensures ts n) c.start_at.ensures.0 (c.inner_end-end.ensures ts n))
          c.put_record.ensures.1,
    )

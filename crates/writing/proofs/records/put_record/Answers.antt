use Rattle.std.proofs.Common.{arith}
use Rattle.buffers.proofs.PutLaws.{put_none, ◌then◌}
use Rattle.writing.proofs.SectionLaws.{record_more, record_none}
use Rattle.writing.proofs.records.put_record.Goals as goal

pub loop-word-init : goal.loop-word-init
loop-word-init c = (omega arith, rw record_none (put_none c.args.out.now c.args.at))

pub loop-word-preserved : goal.loop-word-preserved
loop-word-preserved c = (
  omega (arith, c.loop-word.invariant.0, c.put_word-next.ensures.end),
  rw (record_more c.args.words.now c.loop-word.word-index c.loop-word-test.true) (c.loop-word.invariant.1 then c.put_word-next.ensures),
)

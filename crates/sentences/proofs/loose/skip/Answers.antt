use Rattle.sentences.proofs.OpenLaws.{skip_begun, skip_some, skip_next}
use Rattle.sentences.proofs.loose.skip.Goals as goal

pub loop-init : goal.loop-init
loop-init c = skip_begun c.args.row.now

pub after-left-requires : goal.after-left-requires
after-left-requires c = skip_some c.loop.invariant c.requires c.loop-test.true

pub loop-preserved : goal.loop-preserved
loop-preserved c = skip_next c.loop.invariant (skip_some c.loop.invariant c.requires c.loop-test.true) c.after-left.ensures.0

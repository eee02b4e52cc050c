use Rattle.std.proofs.Common.{arith, refl, ◌∙◌}
use lib.ListN.{length-set}
use Rattle.buffers.proofs.CopyLaws.{copy_next, copied}
use Rattle.buffers.proofs.copy_words.Goals as goal

pub loop-i-init : goal.loop-i-init
loop-i-init c = (refl, refl)

pub loop-i-preserved : goal.loop-i-preserved
loop-i-preserved c =
    let now = c.loop-i in
    (length-set now.to _ _ ∙ now.invariant.0, copy_next c.args.to.now c.args.from.now now.to now.i (omega arith) (omega (arith, c.requires)) now.invariant.1)

pub returns : goal.returns
returns c = copied c.args.to.now c.args.from.now c.loop-i.to c.loop-i.i c.requires (omega arith) c.loop-i.invariant.1

use Rattle.std.proofs.Common.{◌≡◌, ◌+◌, arith, ◌∙◌}
use Rattle.formats.proofs.StateLaws.{start_none, start_next}
use Rattle.formats.proofs.call.start_store.Goals as goal

pub loop-k-init : goal.loop-k-init
loop-k-init c = c.clear_store.ensures ∙ rw (start_none c.args.limit)

pub loop-k-preserved : goal.loop-k-preserved
loop-k-preserved c = rw c.loop-k.invariant (start_next c.args.limit c.loop-k.k (c.loop-k.k + 1) _ (omega arith) (omega arith))

pub returns : goal.returns
returns c =
    let last : c.loop-k.k ≡ c.args.most = omega arith in
    rw last at c.loop-k.invariant

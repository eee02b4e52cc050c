use Rattle.std.proofs.Common.{arith}
use native.Mathlib.Nat.{add-zero}
use Rattle.buffers.proofs.PutLaws.{put_none, put_length, put_next, put_ended}
use Rattle.buffers.proofs.put.Goals as goal

pub loop-i-init : goal.loop-i-init
loop-i-init c = rw (add-zero c.args.at) (put_none c.args.out.now c.args.at)

pub loop-i-preserved : goal.loop-i-preserved
loop-i-preserved c =
    let x = c.args in
    put_next x.out.now x.piece.now x.at c.loop-i.i c.loop-i.invariant (omega arith) (omega (arith, put_length c.loop-i.invariant))

pub returns : goal.returns
returns c =
    let x = c.args in
    put_ended x.out.now x.piece.now x.at c.loop-i.i c.loop-i.invariant (omega (arith, put_length c.loop-i.invariant, c.saturating_sub.ensures, c.min-fits.ensures))

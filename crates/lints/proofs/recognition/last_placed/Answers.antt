use Rattle.std.proofs.Common.{sym, ◌∙◌, arith}
use Rattle.lints.proofs.RecognitionLaws.{last_here, last_next, last_none}
use Rattle.lints.proofs.recognition.last_placed.Goals as goal

pub loop-f-preserved : goal.loop-f-preserved
loop-f-preserved c =
    c.loop-f.invariant
    ∙ last_next c.args.slots.now c.args.place c.loop-f.f _ (omega arith) (λ e. c.if-from-place.false (c.from.ensures ∙ e))

pub returns-then-from-place : goal.returns-then-from-place
returns-then-from-place c =
    last_here c.args.slots.now c.args.place c.loop-f.f _ (omega arith) (sym c.from.ensures ∙ c.if-from-place.true)
    ∙ sym c.loop-f.invariant

pub returns : goal.returns
returns c = last_none c.args.slots.now c.args.place c.loop-f.f (omega arith) ∙ sym c.loop-f.invariant

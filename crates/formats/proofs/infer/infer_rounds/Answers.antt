use Rattle.std.proofs.Common.{◌≡◌, Ok, ap, arith, ◌∙◌}
use Rattle.std.proofs.lemmas.Result.{err_from_is_err_and}
use Rattle.formats.proofs.RoundSteps.{rounds_more, rounds_settled, rounds_wide, rounds_out}
use Rattle.formats.proofs.infer.infer_rounds.Goals as goal

pub returns-in_err-infer_round : goal.returns-in_err-infer_round
returns-in_err-infer_round c = λ found results tail h.
    let p = err_from_is_err_and c.from_residual.result c.from_residual.ensures.1 in
    rw p.1 (rounds_wide c.loop-done.invariant.1 _ c.infer_round.result c.infer_round.ensures c.in_err-infer_round.was c.loop-done-test.true found results tail h)

pub returns-then-not-branch : goal.returns-then-not-branch
returns-then-not-branch c =
    rounds_settled c.loop-done.invariant.1 _ c.infer_round.result c.infer_round.ensures (c.in_ok-infer_round.was ∙ ap (λ b. Ok b) c.if-not-branch.true) c.loop-done-test.true

pub loop-done-preserved : goal.loop-done-preserved
loop-done-preserved c = (
  c.infer_round.auto.joined ∙ c.loop-done.invariant.0,
  rounds_more c.loop-done.invariant.1 _ c.infer_round.result c.infer_round.ensures (c.in_ok-infer_round.was ∙ ap (λ b. Ok b) c.if-not-branch.false) c.loop-done-test.true
      c.infer_round.auto.store,
)

pub returns : goal.returns
returns c =
    let all : c.loop-done.done ≡ c.args.most = omega arith in
    rw all at (rounds_out c.loop-done.invariant.1 c.loop-done-test.false)

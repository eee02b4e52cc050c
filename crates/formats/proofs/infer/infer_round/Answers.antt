use Rattle.std.proofs.Common.{refl, arith, ◌∙◌}
use Rattle.std.proofs.lemmas.Result.{err_from_is_err_and}
use Rattle.formats.proofs.FunctionSteps.{round_start, round_refused, round_more, round_all}
use Rattle.formats.proofs.infer.infer_round.Goals as goal

pub loop-f-init : goal.loop-f-init
loop-f-init c = (round_start _ _ _, c.requires.1)

pub returns-in_err-turn : goal.returns-in_err-turn
returns-in_err-turn c = λ found results tail h.
    let p = err_from_is_err_and c.from_residual.result c.from_residual.ensures.1 in
    rw p.1 (round_refused c.loop-f.invariant.0 _ c.function_turn.result c.function_turn.ensures c.in_err-turn.was
    (omega (arith, c.args.placed.now.law.indexed.words.functions)) c.args.placed.now.small found results tail h)

pub loop-f-preserved : goal.loop-f-preserved
loop-f-preserved c = (
  round_more c.loop-f.invariant.0 _ c.function_turn.result c.function_turn.ensures c.in_ok-turn.turn _ c.in_ok-turn.was refl
      (omega (arith, c.args.placed.now.law.indexed.words.functions)) c.args.placed.now.small,
  c.function_turn.auto.joined ∙ c.loop-f.invariant.1,
)

pub returns : goal.returns
returns c = round_all c.loop-f.invariant.0 (omega (arith, c.args.placed.now.law.indexed.words.functions))

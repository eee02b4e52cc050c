use Rattle.std.proofs.Common.{arith, ◌∙◌}
use Rattle.std.proofs.lemmas.Result.{err_from_is_err_and}
use Rattle.formats.proofs.FunctionSteps.{arguments_start, arguments_refused, arguments_more, arguments_all}
use Rattle.formats.proofs.infer.infer_arguments.Goals as goal

pub loop-f-init : goal.loop-f-init
loop-f-init c = (arguments_start _ _ _, c.requires.1)

pub returns-in_err-function_turn : goal.returns-in_err-function_turn
returns-in_err-function_turn c = λ found results tail h.
    let p = err_from_is_err_and c.from_residual.result c.from_residual.ensures.1 in
    rw p.1 (arguments_refused c.loop-f.invariant.0 _ c.function_turn.result c.function_turn.ensures c.in_err-function_turn.was
    (omega (arith, c.args.placed.now.law.indexed.words.functions)) found results tail h)

pub loop-f-preserved : goal.loop-f-preserved
loop-f-preserved c = (
  arguments_more c.loop-f.invariant.0 _ c.function_turn.result c.function_turn.ensures c.in_ok-function_turn.field-0 c.in_ok-function_turn.was
      (omega (arith, c.args.placed.now.law.indexed.words.functions)) c.args.placed.now.small,
  c.function_turn.auto.joined ∙ c.loop-f.invariant.1,
)

pub returns : goal.returns
returns c = arguments_all c.loop-f.invariant.0 (omega (arith, c.args.placed.now.law.indexed.words.functions))

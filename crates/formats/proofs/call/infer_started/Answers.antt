use Rattle.std.proofs.Common.{arith}
use Rattle.std.proofs.lemmas.Result.{err_from_is_err_and}
use Rattle.formats.proofs.CallLaws.{started_over, started_arguments, started_rounds}
use Rattle.formats.proofs.call.infer_started.Goals as goal

pub returns-in_err-infer_arguments : goal.returns-in_err-infer_arguments
returns-in_err-infer_arguments c = λ tail h.
    let p = err_from_is_err_and c.from_residual.result c.from_residual.ensures.1 in
    rw p.1 (started_over _ _ tail _ c.infer_arguments.result c.in_err-infer_arguments.was (c.infer_arguments.ensures _ _ tail h))

pub returns : goal.returns
returns c = λ tail h.
    let (found, is, held) = started_arguments c.args.placed.now.limit _ tail _ c.infer_arguments.result c.in_ok-infer_arguments.was (c.infer_arguments.ensures _ _ tail h) in
    started_rounds _ _ tail found _ c.infer_rounds.result _ (omega arith) is (c.infer_rounds.ensures found _ tail held)

use Rattle.std.proofs.lemmas.Result.{err_from_is_err_and}
use Rattle.formats.proofs.CallLaws.{outcome_over, outcome_formed}
use Rattle.formats.proofs.infer_accepted.Goals as goal

pub returns-in_err-inferred : goal.returns-in_err-inferred
returns-in_err-inferred c =
    let p = err_from_is_err_and c.from_residual.result c.from_residual.ensures.1 in
    rw (p.1, p.2) (outcome_over 64 _ c.args.store.now _ c.if-store.false c.infer_store.result c.infer_store.ensures c.in_err-inferred.was)

pub returns : goal.returns
returns c = outcome_formed 64 _ c.args.store.now _ c.if-store.false c.infer_store.result c.infer_store.ensures _ c.in_ok-inferred.was

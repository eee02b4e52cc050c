use Rattle.std.proofs.lemmas.Result.{err_from_is_err_and}
use Rattle.formats.proofs.CallLaws.{call_accepted, outcome_accepted, outcome_refused}
use Rattle.formats.proofs.infer_formats.Goals as goal

pub returns-in_err-read_law : goal.returns-in_err-read_law
returns-in_err-read_law c =
    let p = err_from_is_err_and c.from_residual.result c.from_residual.ensures.1 in
    rw (p.1, p.2) (outcome_refused 64 c.args.law.now _ _ c.read_law.result c.in_err-read_law.was c.read_law.ensures.0)

pub invariant_of-law : goal.invariant_of-law
invariant_of-law c =
    record { indexed = (call_accepted c.args.law.now _ c.read_law.result c.in_ok-read_law.was c.read_law.ensures.0 c.read_law.ensures.1).0 }

pub infer_accepted-requires : goal.infer_accepted-requires
infer_accepted-requires c = (call_accepted c.args.law.now _ c.read_law.result c.in_ok-read_law.was c.read_law.ensures.0 c.read_law.ensures.1).1

pub returns : goal.returns
returns c =
    outcome_accepted 64 c.args.law.now c.args.store.now _ c.read_law.result c.in_ok-read_law.was c.read_law.ensures.0 c.infer_accepted.result c.infer_accepted.ensures

use Rattle.std.proofs.lemmas.Result.{err_from_is_err_and}
use Rattle.law.proofs.Allowed.{accepted_readable}
use Rattle.lints.specs.Code.Overrides.{settings_meant}
use Rattle.listing.proofs.CollectedLaws.{prepares, infer_wide, filled_prepares, filled_store, gather_both}
use Rattle.listing.proofs.gather.gather.Goals as goal

pub invariant_of-placed : goal.invariant_of-placed
invariant_of-placed c = record { readable = accepted_readable _ c.args.accepted.now.accepted; places = c.requires.0; small = c.requires.1 }

pub gather_findings-requires : goal.gather_findings-requires
gather_findings-requires c =
    let settings = settings_meant c.args.settings.now in
    let p = prepares c.args.accepted.now c.requires.1 c.requires.2 in
    let filled = filled_prepares c.args.room settings _ c.infer_store.result p c.requires.0 c.infer_store.ensures _ c.in_ok-inferred.was in (
      c.requires.0,
      filled.small,
      filled.room,
      filled_store c.args.room settings _ c.infer_store.result p c.requires.0 c.infer_store.ensures _ c.in_ok-inferred.was,
    )

pub returns-in_err-inferred : goal.returns-in_err-inferred
returns-in_err-inferred c =
    let p = err_from_is_err_and c.from_residual.result c.from_residual.ensures.1 in
    rw (p.1, p.2)
    (infer_wide c.args.room (settings_meant c.args.settings.now) _ c.infer_store.result (prepares c.args.accepted.now c.requires.1 c.requires.2) c.requires.0
    c.infer_store.ensures _ c.in_err-inferred.was)

pub returns : goal.returns
returns c =
    gather_both c.args.room (settings_meant c.args.settings.now) _ c.infer_store.result (prepares c.args.accepted.now c.requires.1 c.requires.2) c.requires.0
    c.infer_store.ensures _ c.in_ok-inferred.was _ _ _ _ c.gather_findings.ensures

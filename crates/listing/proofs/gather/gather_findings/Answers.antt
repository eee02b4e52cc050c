use Rattle.lints.specs.Code.Overrides.{settings_meant}
use Rattle.listing.proofs.CollectedLaws.{prepares, stored, gather_wide, gather_full, gather_upto}
use Rattle.listing.proofs.gather.gather_findings.Goals as goal

pub invariant_of-formats-clause-holding : goal.invariant_of-formats-clause-holding
invariant_of-formats-clause-holding c =
    stored (prepares c.args.accepted.now c.requires.1 c.requires.2) c.requires.0 c.requires.3.made _ _ c.requires.3.inferred c.requires.3.words

pub returns-in-Err-TooWide : goal.returns-in-Err-TooWide
returns-in-Err-TooWide c =
    gather_wide c.args.room (settings_meant c.args.settings.now) c.args.out.now _ (prepares c.args.accepted.now c.requires.1 c.requires.2) c.requires.0 c.requires.3
    c.lint_all.ensures _ (rw c.in-Err-TooWide.field-0-is at c.in-Err-TooWide.is) c.clear_store.ensures

pub returns-in-Err-Full : goal.returns-in-Err-Full
returns-in-Err-Full c =
    gather_full c.args.room (settings_meant c.args.settings.now) c.args.out.now _ (prepares c.args.accepted.now c.requires.1 c.requires.2) c.requires.0 c.requires.3
    c.lint_all.ensures (rw c.in-Err-Full.field-0-is at c.in-Err-Full.is)

pub returns-in-Ok : goal.returns-in-Ok
returns-in-Ok c =
    gather_upto c.args.room (settings_meant c.args.settings.now) c.args.out.now _ (prepares c.args.accepted.now c.requires.1 c.requires.2) c.requires.0 c.requires.3
    c.lint_all.ensures _ c.in-Ok.is

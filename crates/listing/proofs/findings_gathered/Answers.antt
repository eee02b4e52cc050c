use Rattle.std.proofs.Common.{arith, refl}
use Rattle.lints.specs.Code.Overrides.{settings_meant}
use Rattle.listing.proofs.CollectedLaws.{prepares}
use Rattle.listing.proofs.ReadyLaws.{findings_listed, findings_stored, findings_collected, count_fits}
use Rattle.listing.proofs.findings_gathered.Goals as goal

pub slots_of-slots-requires : goal.slots_of-slots-requires
slots_of-slots-requires g c = c.args.accepted.now.accepted.fields

pub invariant_of-formats-clause-holding : goal.invariant_of-formats-clause-holding
invariant_of-formats-clause-holding g c =
    findings_stored (settings_meant c.args.settings.now) c.gather.ensures (prepares c.args.accepted.now c.requires.0 c.requires.1) c.slots_of-slots.ensures _
    c.in_ok-listed.was

pub hand_over-requires : goal.hand_over-requires
hand_over-requires g c =
    let settings = settings_meant c.args.settings.now in
    let p = prepares c.args.accepted.now c.requires.0 c.requires.1 in (
      findings_collected settings c.gather.ensures p c.slots_of-slots.ensures _ c.in_ok-listed.was c.gather.auto.out,
      omega (arith, count_fits settings c.gather.ensures p c.slots_of-slots.ensures _ c.in_ok-listed.was),
    )

pub returns : goal.returns
returns g c =
    findings_listed (settings_meant c.args.settings.now) c.gather.ensures (prepares c.args.accepted.now c.requires.0 c.requires.1) c.slots_of-slots.ensures _
    c.in_ok-listed.was _ _ refl c.hand_over.ensures

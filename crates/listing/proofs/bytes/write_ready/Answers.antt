use Rattle.std.proofs.Common.{arith, refl, sym}
use Rattle.lints.specs.Code.Overrides.{settings_meant}
use Rattle.listing.specs.Code.Bytes.{wanted_number, wanted_bytes}
use Rattle.listing.proofs.CollectedLaws.{prepares}
use Rattle.listing.proofs.ReadyLaws.{bytes_told, findings_stored, findings_collected, count_fits, bytes_places}
use Rattle.listing.proofs.bytes.write_ready.Goals as goal

pub slots_of-slots-requires : goal.slots_of-slots-requires
slots_of-slots-requires c = c.args.accepted.now.accepted.fields

pub invariant_of-formats-clause-holding : goal.invariant_of-formats-clause-holding
invariant_of-formats-clause-holding c =
    findings_stored (settings_meant c.args.settings.now) c.gather.ensures (prepares c.args.accepted.now c.requires.0 c.requires.1) c.slots_of-slots.ensures _
    c.in_ok-listed.was

pub write_own-requires : goal.write_own-requires
write_own-requires c =
    let settings = settings_meant c.args.settings.now in
    let p = prepares c.args.accepted.now c.requires.0 c.requires.1 in (
      (settings, findings_collected settings c.gather.ensures p c.slots_of-slots.ensures _ c.in_ok-listed.was c.gather.auto.out),
      bytes_places settings c.gather.ensures p c.slots_of-slots.ensures _ c.in_ok-listed.was (sym c.gather.auto.out),
      omega (arith, count_fits settings c.gather.ensures p c.slots_of-slots.ensures _ c.in_ok-listed.was),
    )

pub returns : goal.returns
returns c =
    let settings = settings_meant c.args.settings.now in
    let p = prepares c.args.accepted.now c.requires.0 c.requires.1 in
    bytes_told settings c.gather.ensures p c.slots_of-slots.ensures _ c.in_ok-listed.was
    (wanted_number c.args.wanted) (wanted_bytes c.args.wanted settings) c.args.buffer.now _ c.write_own.result refl
    (c.write_own.ensures settings
    (findings_collected settings c.gather.ensures p c.slots_of-slots.ensures _ c.in_ok-listed.was c.gather.auto.out))

-- A law without functions, a call that its front turns back, or what is written of a law that is ready, with its index.
use Rattle.std.proofs.Common.{refl, sym, ◌∙◌}
use Rattle.std.proofs.lemmas.Result.{err_from_is_err_and}
use Rattle.lints.specs.Code.Overrides.{settings_meant}
use Rattle.listing.specs.Outcome.{own_bytes}
use Rattle.listing.specs.Code.Bytes.{wanted_number, wanted_bytes}
use Rattle.listing.proofs.CallLaws.{front_ready, bytes_turned, bytes_goes}
use Rattle.listing.proofs.EmptyLaws.{empty_law}
use Rattle.listing.proofs.bytes.write.Goals as goal

pub returns-then-is_empty : goal.returns-then-is_empty
returns-then-is_empty c =
    c.write_none.ensures c.args.law.now (empty_law c.args.law.now (sym c.is_empty.ensures ∙ c.if-is_empty.true))

pub returns-in_err-check_front : goal.returns-in_err-check_front
returns-in_err-check_front c =
    let settings = settings_meant c.args.settings.now in
    let p = err_from_is_err_and c.from_residual.result c.from_residual.ensures.1 in
    rw (p.1, p.2)
    (bytes_turned 64 settings c.args.law.now c.args.store.now _ _ (c.check_front.ensures.0 _ refl)
    (wanted_number c.args.wanted) (own_bytes (wanted_bytes c.args.wanted settings)) c.args.buffer.now _ c.in_err-check_front.was)

pub new-accepted-requires : goal.new-accepted-requires
new-accepted-requires c =
    let p = front_ready 64 (settings_meant c.args.settings.now) c.args.law.now c.args.store.now _ _ (c.check_front.ensures.0 _ refl)
    c.in_ok-check_front.was in
    (p.indexed, p.accepted)

pub write_ready-requires : goal.write_ready-requires
write_ready-requires c =
    let p = front_ready 64 (settings_meant c.args.settings.now) c.args.law.now c.args.store.now _ _ (c.check_front.ensures.0 _ refl)
    c.in_ok-check_front.was in
    (p.small, p.room)

pub returns : goal.returns
returns c =
    let settings = settings_meant c.args.settings.now in
    bytes_goes 64 settings c.args.law.now c.args.store.now _ _ (c.check_front.ensures.0 _ refl)
    (wanted_number c.args.wanted) (own_bytes (wanted_bytes c.args.wanted settings)) c.args.buffer.now _ _ c.write_ready.result
    c.in_ok-check_front.was (rw c.new-accepted.ensures.0 at c.write_ready.ensures)

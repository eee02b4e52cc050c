-- A law without functions, a call that its front turns back, or the findings of a law that is ready, with its index.
use Rattle.std.proofs.Common.{refl, sym, ◌∙◌}
use Rattle.std.proofs.lemmas.Result.{err_from_is_err_and}
use Rattle.lints.specs.Levels.{settings_from}
use Rattle.listing.proofs.CallLaws.{front_ready, findings_turned, findings_goes}
use Rattle.listing.proofs.EmptyLaws.{empty_law}
use Rattle.listing.proofs.PromiseLaws.{promise}
use Rattle.listing.proofs.findings.Goals as goal

pub returns-then-is_empty : goal.returns-then-is_empty
returns-then-is_empty c =
    promise 64 (settings_from c.args.mode c.args.overrides.now) c.args.law.now c.args.store.now c.args.words.now _ _ c.findings_none.result
    (c.findings_none.ensures c.args.law.now c.args.words.now (empty_law c.args.law.now (sym c.is_empty.ensures ∙ c.if-is_empty.true)))

pub returns-in_err-check_front : goal.returns-in_err-check_front
returns-in_err-check_front c =
    let p = err_from_is_err_and c.from_residual.result c.from_residual.ensures.1 in
    rw (p.1, p.2)
    (findings_turned 64 (settings_from c.args.mode c.args.overrides.now) c.args.law.now c.args.store.now _ _ (c.check_front.ensures.0 _ refl) _ _
    c.in_err-check_front.was)

pub new-accepted-requires : goal.new-accepted-requires
new-accepted-requires c =
    let p = front_ready 64 (settings_from c.args.mode c.args.overrides.now) c.args.law.now c.args.store.now _ _ (c.check_front.ensures.0 _ refl)
    c.in_ok-check_front.was in
    (p.indexed, p.accepted)

pub findings_ready-requires : goal.findings_ready-requires
findings_ready-requires c =
    let p = front_ready 64 (settings_from c.args.mode c.args.overrides.now) c.args.law.now c.args.store.now _ _ (c.check_front.ensures.0 _ refl)
    c.in_ok-check_front.was in
    (p.small, p.room)

pub returns : goal.returns
returns c =
    findings_goes 64 (settings_from c.args.mode c.args.overrides.now) c.args.law.now c.args.store.now _ _ (c.check_front.ensures.0 _ refl) _ _ _
    c.findings_ready.result c.in_ok-check_front.was (rw c.new-accepted.ensures.0 at c.findings_ready.ensures)

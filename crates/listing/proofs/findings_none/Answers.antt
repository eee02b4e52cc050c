use Rattle.std.proofs.Common.{arith, ap, not}
use Rattle.lints.specs.Code.Overrides.{settings_meant}
use Rattle.listing.proofs.NoneLaws.{findings_settings, findings_short, findings_none}
use Rattle.listing.proofs.findings_none.Goals as goal

pub returns-then-not-is_allowed : goal.returns-then-not-is_allowed
returns-then-not-is_allowed c =
    λ bytes words empty. findings_settings c.args.limit (settings_meant c.args.settings.now) bytes c.args.store.now empty c.is_allowed.ensures words
    (ap not c.if-not-is_allowed.true)

pub returns-then-store-store_words : goal.returns-then-store-store_words
returns-then-store-store_words c =
    λ bytes words empty. findings_short c.args.limit (settings_meant c.args.settings.now) bytes c.args.store.now empty c.is_allowed.ensures words
    (ap not c.if-not-is_allowed.false) (omega (arith, c.if-store-store_words.true, c.store_words.ensures))

pub returns : goal.returns
returns c =
    λ bytes words empty. findings_none c.args.limit (settings_meant c.args.settings.now) bytes c.args.store.now empty c.is_allowed.ensures words
    (ap not c.if-not-is_allowed.false) _ (omega (arith, c.if-store-store_words.false, c.store_words.ensures)) c.clear_store.ensures

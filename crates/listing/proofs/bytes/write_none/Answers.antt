use Rattle.std.proofs.Common.{arith, ap, not}
use Rattle.lints.specs.Code.Overrides.{settings_meant}
use Rattle.listing.specs.Code.Bytes.{wanted_number, wanted_bytes}
use Rattle.listing.proofs.NoneLaws.{bytes_settings, bytes_short, bytes_none}
use Rattle.listing.proofs.bytes.write_none.Goals as goal

pub returns-then-not-is_allowed : goal.returns-then-not-is_allowed
returns-then-not-is_allowed c =
    let settings = settings_meant c.args.settings.now in
    λ bytes empty. bytes_settings c.args.limit settings bytes c.args.store.now empty c.is_allowed.ensures
    (wanted_number c.args.wanted) (wanted_bytes c.args.wanted settings) c.args.buffer.now (ap not c.if-not-is_allowed.true)

pub returns-then-store-store_words : goal.returns-then-store-store_words
returns-then-store-store_words c =
    let settings = settings_meant c.args.settings.now in
    λ bytes empty. bytes_short c.args.limit settings bytes c.args.store.now empty c.is_allowed.ensures
    (wanted_number c.args.wanted) (wanted_bytes c.args.wanted settings) c.args.buffer.now (ap not c.if-not-is_allowed.false)
    (omega (arith, c.if-store-store_words.true, c.store_words.ensures))

pub returns : goal.returns
returns c =
    let settings = settings_meant c.args.settings.now in
    λ bytes empty. bytes_none c.args.limit settings bytes c.args.store.now empty c.is_allowed.ensures
    (wanted_number c.args.wanted) (wanted_bytes c.args.wanted settings) c.args.buffer.now (ap not c.if-not-is_allowed.false) _ _ c.none_wanted.result
    (omega (arith, c.if-store-store_words.false, c.store_words.ensures)) c.clear_store.ensures (c.none_wanted.ensures settings)

-- One law for each way through the front (proofs/FrontLaws.antt), with the tests that led there.
use Rattle.std.proofs.Common.{arith}
use Rattle.std.proofs.lemmas.Result.{err_from_is_err_and}
use Rattle.lints.specs.Code.Overrides.{settings_meant}
use Rattle.listing.proofs.FrontLaws.{turned_settings, turned_file, turned_store, goes_on_lem}
use Rattle.listing.proofs.front.check_front.Goals as goal

pub returns-then-not-is_allowed : goal.returns-then-not-is_allowed
returns-then-not-is_allowed c =
    turned_settings c.args.limit (settings_meant c.args.settings.now) c.args.law.now c.args.words c.args.index.now c.is_allowed.ensures c.if-not-is_allowed.true

pub returns-in_err-read_law : goal.returns-in_err-read_law
returns-in_err-read_law c =
    let p = err_from_is_err_and c.from_residual.result c.from_residual.ensures.1 in
    rw (p.1, p.2)
    (turned_file c.args.limit (settings_meant c.args.settings.now) c.args.law.now c.args.words c.args.index.now c.is_allowed.ensures
    c.if-not-is_allowed.false _ c.read_law.ensures.0 c.read_law.ensures.1 _ c.in_err-read_law.was)

pub returns-then-words-store_words : goal.returns-then-words-store_words
returns-then-words-store_words c =
    turned_store c.args.limit (settings_meant c.args.settings.now) c.args.law.now c.args.words c.args.index.now c.is_allowed.ensures
    c.if-not-is_allowed.false _ c.read_law.ensures.0 c.read_law.ensures.1 c.in_ok-read_law.was
    (omega (arith, c.if-words-store_words.true, c.store_words.ensures))

pub returns : goal.returns
returns c =
    goes_on_lem c.args.limit (settings_meant c.args.settings.now) c.args.law.now c.args.words c.args.index.now c.is_allowed.ensures
    c.if-not-is_allowed.false _ c.read_law.ensures.0 c.read_law.ensures.1 c.in_ok-read_law.was c.requires.1
    (omega (arith, c.if-words-store_words.false, c.store_words.ensures))

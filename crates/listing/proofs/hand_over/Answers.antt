use Rattle.std.proofs.Common.{refl}
use Rattle.lints.specs.Code.Overrides.{settings_meant}
use Rattle.listing.proofs.CallLaws.{again, handed}
use Rattle.listing.proofs.hand_over.Goals as goal

pub returns-then-own-end : goal.returns-then-own-end
returns-then-own-end c =
    again (settings_meant c.args.settings.now) c.requires.0 c.args.words.now c.requires.1 _ _ _ refl c.lint_all.ensures

pub returns : goal.returns
returns c =
    handed (settings_meant c.args.settings.now) c.requires.0 c.args.words.now c.requires.1 _ c.if-own-end.false c.copy_words.ensures

use Rattle.std.proofs.Common.{◌∙◌, rules, tests}
use Rattle.std.proofs.lemmas.Iterator.{YieldsList-from_slice}
use Rattle.std.proofs.lemmas.Iterator.Search.{all_from_yields_List}
use Rattle.lints.specs.Levels.{override_from}
use Rattle.lints.specs.Code.Overrides.{override_allowed}
use Rattle.lints.proofs.LevelLaws.{allowed_all}
use Rattle.lints.proofs.levels.overrides_allowed.Goals as goal

pub returns : goal.returns
returns c =
    all_from_yields_List (λ w. override_allowed (override_from w)) _ _ _ c.all.ensures.ran (YieldsList-from_slice c.args.overrides.now cc)
    (λ x b q k. search (rules, tests))
    ∙ allowed_all c.args.overrides.now

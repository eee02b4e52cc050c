use Rattle.std.proofs.Common.{refl, rules, ◌∙◌}
use Rattle.std.proofs.lemmas.Iterator.Search.{all_from_yields_List}
use Rattle.law.proofs.LevelLaws.{record_stays, level_of_terms}
use Rattle.law.proofs.WholeTerms.{YieldsList-from_terms}
use Rattle.law.proofs.runs.level_fits.Goals as goal

pub returns : goal.returns
returns c = all_from_yields_List record_stays c.all.new.self _ c.all.result c.all.ensures.ran (YieldsList-from_terms c.args.level.now refl) (λ x b q k. search rules) ∙ level_of_terms c.args.level.now

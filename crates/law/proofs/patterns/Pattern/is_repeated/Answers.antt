use Rattle.std.proofs.Common.{refl, rules, ◌∙◌, ◌+◌, ◌-◌, ◌*◌}
use Rattle.std.proofs.lemmas.Iterator.{YieldsList-from_range}
use Rattle.std.proofs.lemmas.Iterator.Search.{any_from_yields_List}
use Rattle.file.specs.Head.{term_at}
use Rattle.law.specs.Variables.{variable_of, occurs}
use Rattle.law.proofs.PatternLaws.{occurs_any}
use Rattle.law.proofs.patterns.Pattern.is_repeated.Goals as goal

pub returns : goal.returns
returns c =
    let pattern = c.args.self.now in
    let later = c.args.i + 1 in
    λ v e. any_from_yields_List (λ j. occurs v (variable_of pattern.text.now (term_at pattern.records.now (24 * j)))) c.any.new.self _ c.any.result c.any.ensures.ran
    (YieldsList-from_range later pattern.count (pattern.count - later) refl refl) (λ j b q k. search (rules, e))
    ∙ occurs_any pattern.text.now pattern.records.now v (pattern.count - later) later

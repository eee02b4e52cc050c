use Rattle.std.proofs.Common.{rules, tests, refl, ◌∙◌, eqb}
use Rattle.std.proofs.lemmas.Iterator.Search.{any_from_yields_List}
use Rattle.file.specs.Word.{word_at}
use Rattle.law.proofs.WholeTerms.{YieldsList-from_terms}
use Rattle.sentences.proofs.OpenLaws.{opens_any}
use Rattle.sentences.proofs.loose.has_open.Goals as goal

pub returns : goal.returns
returns c text =
    any_from_yields_List (λ s. eqb (word_at s 0) 5) c.any.new.self _ _ c.any.ensures.ran (YieldsList-from_terms c.args.pattern.now refl) (λ x b q k. search (rules, tests))
    ∙ opens_any text c.args.pattern.now

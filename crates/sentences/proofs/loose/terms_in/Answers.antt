use Rattle.std.proofs.Common.{arith, ◌≡◌, refl, ◌∙◌, length, inl}
use Rattle.std.proofs.lemmas.Iterator.Consumers.{count_from_yields_List}
use Rattle.law.specs.Code.Whole.{term_parts}
use Rattle.law.proofs.WholeTerms.{YieldsList-from_terms}
use Rattle.sentences.proofs.OpenLaws.{terms_count, terms_few}
use Rattle.sentences.proofs.loose.terms_in.Goals as goal

pub count-requires-clause-fits : goal.count-requires-clause-fits
count-requires-clause-fits c = inl (omega (arith, terms_few c.args.part.now))

pub returns : goal.returns
returns c =
    let part = c.args.part.now in
    let counted : c.count.result ≡ length (term_parts part) = count_from_yields_List _ _ c.count.ensures.ran (YieldsList-from_terms part refl) in
    (λ text. counted ∙ terms_count text part, omega (arith, counted, terms_few part))

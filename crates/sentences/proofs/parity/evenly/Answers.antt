use Rattle.std.proofs.Common.{rules, tests, arith, refl}
use Rattle.std.proofs.lemmas.Iterator.{cases_from_all}
use Rattle.law.proofs.WholeTerms.{YieldsList-from_terms}
use Rattle.sentences.proofs.ParityLaws.{Even, even_all}
use Rattle.sentences.proofs.parity.evenly.Goals as goal

pub returns : goal.returns
returns c e v expression =
    let text = c.args.text.now in
    let pattern = c.args.pattern.now in
    let each =
    cases_from_all c.all.new.self _ c.all.result (Even text pattern) (λ s. Unit {0}) c.all.ensures.ran (YieldsList-from_terms pattern refl)
    (λ x q k. (search (rules, tests), record { often = λ five w a. search (rules, tests) })) (λ x q k. tt) in
    even_all text pattern (λ k d h. (rw e at each) k d (omega arith) h) v expression

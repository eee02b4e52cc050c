use Rattle.std.proofs.Common.{rules, tests, arith, ap, ◌∙◌, inl, eqb, ◌%◌}
use Rattle.std.proofs.lemmas.Iterator.Consumers.{YieldsList-from_filter, count_from_yields_List}
use Rattle.file.specs.Head.{term_at}
use Rattle.law.proofs.WholeTerms.{YieldsList-from_terms}
use Rattle.matching.specs.Shadow.{same_atom}
use Rattle.matching.specs.Code.Part.{atom_of}
use Rattle.matching.proofs.AtomLaws.{variable_kind_lem}
use Rattle.sentences.proofs.OpenLaws.{terms_few}
use Rattle.sentences.proofs.ParityLaws.{times_counted}
use Rattle.sentences.proofs.parity.odd_times.Goals as goal

pub count-requires-clause-fits : goal.count-requires-clause-fits
count-requires-clause-fits c = inl (rw c.filter.ensures.source (omega (arith, terms_few c.args.pattern.now)))

pub returns : goal.returns
returns c v e =
    let text = c.args.text.now in
    let atom = atom_of text (term_at c.args.first.now 0) in
    ap (λ n. eqb (n % 2) 1)
    (count_from_yields_List c.filter.result c.count.result c.count.ensures.ran
    (YieldsList-from_filter _ (λ s. same_atom atom (atom_of text (term_at s 0))) (YieldsList-from_terms c.args.pattern.now (ap (λ s. s.0.now) c.filter.ensures.source)) c.filter.ensures.closure
    (λ x b q k. search (rules, tests, variable_kind_lem text c.args.first.now e))))
    ∙ times_counted text v atom e c.args.pattern.now

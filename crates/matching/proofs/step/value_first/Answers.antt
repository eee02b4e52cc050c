use Rattle.matching.proofs.StepLaws as laws
use Rattle.matching.proofs.step.value_first.Goals as goal

pub returns-in-Some : goal.returns-in-Some
returns-in-Some c =
    let a = c.args in
    λ v vs first value. laws.value_begins a.records.now.text.now a.pattern.now a.row.now v vs c.requires.1 first
    (laws.value_cut a.records.now.text.now a.records.now.terms.now a.start a.size value) c.begins.ensures c.in-Some.is c.end_of.ensures.0

pub returns-in-None : goal.returns-in-None
returns-in-None c =
    let a = c.args in
    λ v vs first value. laws.value_differs a.records.now.text.now a.pattern.now a.row.now v vs c.requires.1 first
    (laws.value_cut a.records.now.text.now a.records.now.terms.now a.start a.size value) c.begins.ensures c.in-None.is

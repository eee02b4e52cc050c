use Rattle.std.proofs.Common.{arith, rules, ◌∙◌, ap, ◌+◌}
use Rattle.file.specs.Below.{every}
use Rattle.file.specs.Sections.{file_of}
use Rattle.file.proofs.Below.{all_in}
use Rattle.law.specs.Places.{conditions_of}
use Rattle.law.specs.Runs.{condition_fits}
use Rattle.law.proofs.IndexLaws as laws
use Rattle.law.proofs.places.Law.conditions_fit.Goals as goal

pub first_condition-first-requires : goal.first_condition-first-requires
first_condition-first-requires c = omega (arith, laws.sentences_limit _ _ c.args.self.now.indexed, c.requires)

pub overflow_add-s : goal.overflow_add-s
overflow_add-s c = omega (arith, laws.sentences_limit _ _ c.args.self.now.indexed, c.requires)

pub first_condition-end-requires : goal.first_condition-end-requires
first_condition-end-requires c = omega (arith, laws.sentences_limit _ _ c.args.self.now.indexed, c.requires)

pub returns : goal.returns
returns c =
    let file = file_of c.args.self.now.bytes.now in
    let s = c.args.s in
    let indexed = c.args.self.now.indexed in
    let first = c.first_condition-first.ensures ∙ indexed.words.first_conditions s (omega (arith, c.requires)) in
    let end = c.first_condition-end.ensures ∙ laws.conditions_before_lem _ _ indexed s c.requires in
    all_in (condition_fits file s) c.all.result c.first_condition-first.result (conditions_of file s) c.first_condition-end.result (omega (arith, first, end)) c.all.ensures.ran (λ x b q k. search rules)
    ∙ ap (λ from. every (conditions_of file s) (λ i. condition_fits file s (from + i))) first

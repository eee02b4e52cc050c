use Rattle.std.proofs.Common.{rules, ◌∙◌, ap}
use Rattle.file.specs.Below.{every}
use Rattle.file.specs.Sections.{file_of}
use Rattle.file.proofs.Below.{all_below}
use Rattle.law.specs.Runs.{sentence_fits}
use Rattle.law.proofs.places.Law.runs_fit.Goals as goal

pub returns : goal.returns
returns c =
    let fits = sentence_fits (file_of c.args.self.now.bytes.now) in
    all_below fits c.all.result c.sentences.result c.all.ensures.ran (λ x b q k. search rules)
    ∙ ap (λ n. every n fits) (c.sentences.ensures ∙ c.args.self.now.indexed.words.sentences)

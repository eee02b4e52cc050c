use Rattle.std.proofs.Common.{ℕ, Bool, rules, ◌∙◌, ap}
use lib.Dec.{leb}
use Rattle.file.specs.Below.{every}
use Rattle.file.specs.Sections.{file_of}
use Rattle.file.proofs.Below.{all_below}
use Rattle.law.specs.Variables.{distinct, pattern_variables, patterns_allowed}
use Rattle.law.proofs.places.Law.patterns_allowed.Goals as goal

pub returns : goal.returns
unfolding patterns_allowed
returns c =
    let few : ℕ → Bool = λ s. leb (distinct (pattern_variables (file_of c.args.self.now.bytes.now) s)) 32 in
    all_below few c.all.result c.sentences.result c.all.ensures.ran (λ x b q k. search rules)
    ∙ ap (λ n. every n few) (c.sentences.ensures ∙ c.args.self.now.indexed.words.sentences)

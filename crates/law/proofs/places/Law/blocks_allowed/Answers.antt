use borrow.Author.Tests.{eq-eqb}
use Rattle.std.proofs.Common.{arith, rules, ◌∙◌, ap}
use Rattle.file.specs.Below.{every}
use Rattle.file.specs.Sections.{file_of}
use Rattle.file.proofs.Below.{all_below}
use Rattle.law.specs.Runs.{sentence_blocks, blocks_allowed}
use Rattle.law.proofs.BlockLaws.{functions_have_all}
use Rattle.law.proofs.IndexLaws.{functions_limit}
use Rattle.law.proofs.places.Law.blocks_allowed.Goals as goal

pub first_sentence-requires : goal.first_sentence-requires
first_sentence-requires c =
    let indexed = c.args.self.now.indexed in
    omega (arith, indexed.words.functions, c.functions.ensures, functions_limit _ _ indexed)

pub returns-then-first_sentence-count : goal.returns-then-first_sentence-count
returns-then-first_sentence-count c =
    eq-eqb _ _ c.if-first_sentence-count.true
    ∙ functions_have_all _ _ c.args.self.now.indexed _ _ _ c.functions.ensures c.first_sentence.ensures c.sentences-count.ensures c.if-first_sentence-count.true

pub returns-else-first_sentence-count : goal.returns-else-first_sentence-count
unfolding blocks_allowed
returns-else-first_sentence-count c =
    let later = sentence_blocks (file_of c.args.self.now.bytes.now) in
    all_below later c.all.result c.sentences-count.result c.all.ensures.ran (λ x b q k. search rules)
    ∙ ap (λ n. every n later) (c.sentences-count.ensures ∙ c.args.self.now.indexed.words.sentences)

use Rattle.std.proofs.Common.{arith, ◌∙◌}
use Rattle.law.proofs.IndexLaws.{sentences_limit, sentence_word, sentence_word_inside}
use Rattle.findings.proofs.dead.field.Goals as goal

pub overflow_mul-s : goal.overflow_mul-s
overflow_mul-s c = omega (arith, sentences_limit _ _ c.args.law.now.indexed, c.requires.0)

pub overflow_add-s : goal.overflow_add-s
overflow_add-s c = omega (arith, sentences_limit _ _ c.args.law.now.indexed, c.requires.0, c.requires.1)

pub overflow_add-start : goal.overflow_add-start
overflow_add-start c = omega (arith, sentences_limit _ _ c.args.law.now.indexed, c.requires.0, c.requires.1, c.from-start.ensures)

pub word_at-requires : goal.word_at-requires
word_at-requires c =
    omega (arith, sentence_word_inside _ _ c.args.law.now.indexed c.args.s c.args.at c.requires.0 c.requires.1, c.from-start.ensures)

pub returns : goal.returns
returns c = c.word_at.ensures ∙ rw c.from-start.ensures (sentence_word _ _ c.args.law.now.indexed c.args.s c.args.at c.requires.0 c.requires.1)

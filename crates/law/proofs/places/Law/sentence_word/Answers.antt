use native.Mathlib.Omega.{arith}
use mathlib.Core.Path.{◌∙◌}
use Rattle.law.proofs.IndexLaws as laws
use Rattle.law.proofs.places.Law.sentence_word.Goals as goal

pub overflow_mul-s : goal.overflow_mul-s
overflow_mul-s c = omega (arith, laws.sentence_word_inside _ _ c.args.self.now.indexed c.args.s c.args.at c.requires.0 c.requires.1, c.word-start.ensures)

pub overflow_add-s : goal.overflow_add-s
overflow_add-s c = omega (arith, laws.sentence_word_inside _ _ c.args.self.now.indexed c.args.s c.args.at c.requires.0 c.requires.1, c.word-start.ensures)

pub overflow_add-start : goal.overflow_add-start
overflow_add-start c = omega (arith, laws.sentence_word_inside _ _ c.args.self.now.indexed c.args.s c.args.at c.requires.0 c.requires.1, c.word-start.ensures)

pub word_at-requires : goal.word_at-requires
word_at-requires c = omega (arith, laws.sentence_word_inside _ _ c.args.self.now.indexed c.args.s c.args.at c.requires.0 c.requires.1, c.word-start.ensures)

pub returns : goal.returns
returns c = c.word_at.ensures ∙ rw c.word-start.ensures.0 (laws.sentence_word _ _ c.args.self.now.indexed c.args.s c.args.at c.requires.0 c.requires.1)

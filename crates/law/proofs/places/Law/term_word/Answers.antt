use native.Mathlib.Omega.{arith}
use mathlib.Core.Path.{◌∙◌}
use Rattle.law.proofs.BlockLaws as blocks
use Rattle.law.proofs.places.Law.term_word.Goals as goal

pub overflow_mul-t : goal.overflow_mul-t
overflow_mul-t c = omega (arith, blocks.term_word_inside _ _ c.args.self.now.indexed c.args.t c.args.at c.requires.0 c.requires.1, c.word-start.ensures)

pub overflow_add-t : goal.overflow_add-t
overflow_add-t c = omega (arith, blocks.term_word_inside _ _ c.args.self.now.indexed c.args.t c.args.at c.requires.0 c.requires.1, c.word-start.ensures)

pub overflow_add-start : goal.overflow_add-start
overflow_add-start c = omega (arith, blocks.term_word_inside _ _ c.args.self.now.indexed c.args.t c.args.at c.requires.0 c.requires.1, c.word-start.ensures)

pub word_at-requires : goal.word_at-requires
word_at-requires c = omega (arith, blocks.term_word_inside _ _ c.args.self.now.indexed c.args.t c.args.at c.requires.0 c.requires.1, c.word-start.ensures)

pub returns : goal.returns
returns c = c.word_at.ensures ∙ rw c.word-start.ensures.0 (blocks.term_word _ _ c.args.self.now.indexed c.args.t c.args.at c.requires.0 c.requires.1)

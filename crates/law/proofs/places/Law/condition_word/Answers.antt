use native.Mathlib.Omega.{arith}
use mathlib.Core.Path.{◌∙◌}
use Rattle.law.proofs.IndexLaws as laws
use Rattle.law.proofs.places.Law.condition_word.Goals as goal

pub overflow_mul-c : goal.overflow_mul-c
overflow_mul-c c = omega (arith, laws.condition_word_inside _ _ c.args.self.now.indexed c.args.c c.args.at c.requires.0 c.requires.1, c.word-start.ensures)

pub overflow_add-c : goal.overflow_add-c
overflow_add-c c = omega (arith, laws.condition_word_inside _ _ c.args.self.now.indexed c.args.c c.args.at c.requires.0 c.requires.1, c.word-start.ensures)

pub overflow_add-start : goal.overflow_add-start
overflow_add-start c = omega (arith, laws.condition_word_inside _ _ c.args.self.now.indexed c.args.c c.args.at c.requires.0 c.requires.1, c.word-start.ensures)

pub word_at-requires : goal.word_at-requires
word_at-requires c = omega (arith, laws.condition_word_inside _ _ c.args.self.now.indexed c.args.c c.args.at c.requires.0 c.requires.1, c.word-start.ensures)

pub returns : goal.returns
returns c = c.word_at.ensures ∙ rw c.word-start.ensures.0 (laws.condition_word _ _ c.args.self.now.indexed c.args.c c.args.at c.requires.0 c.requires.1)

use native.Mathlib.Omega.{arith}
use mathlib.Core.Path.{◌∙◌}
use Rattle.law.proofs.IndexLaws as laws
use Rattle.law.proofs.places.Law.function_word.Goals as goal

pub overflow_mul-f : goal.overflow_mul-f
overflow_mul-f c = omega (arith, laws.function_word_inside _ _ c.args.self.now.indexed c.args.f c.args.at c.requires.0 c.requires.1, c.word-start.ensures)

pub overflow_add-f : goal.overflow_add-f
overflow_add-f c = omega (arith, laws.function_word_inside _ _ c.args.self.now.indexed c.args.f c.args.at c.requires.0 c.requires.1, c.word-start.ensures)

pub overflow_add-start : goal.overflow_add-start
overflow_add-start c = omega (arith, laws.function_word_inside _ _ c.args.self.now.indexed c.args.f c.args.at c.requires.0 c.requires.1, c.word-start.ensures)

pub word_at-requires : goal.word_at-requires
word_at-requires c = omega (arith, laws.function_word_inside _ _ c.args.self.now.indexed c.args.f c.args.at c.requires.0 c.requires.1, c.word-start.ensures)

pub returns : goal.returns
returns c = c.word_at.ensures ∙ rw c.word-start.ensures.0 (laws.function_word _ _ c.args.self.now.indexed c.args.f c.args.at c.requires.0 c.requires.1)

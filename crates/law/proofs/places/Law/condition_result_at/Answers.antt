use native.Mathlib.Omega.{arith}
use Rattle.law.proofs.IndexLaws as laws
use Rattle.law.proofs.places.Law.condition_result_at.Goals as goal

pub overflow_add-s : goal.overflow_add-s
overflow_add-s c = omega (arith, laws.sentences_limit _ _ c.args.self.now.indexed, c.requires.0)

pub word-requires : goal.word-requires
word-requires c = omega (arith, laws.sentences_limit _ _ c.args.self.now.indexed, c.requires.0)

pub overflow_add-result : goal.overflow_add-result
overflow_add-result c = omega (arith, laws.pattern_small _ _ c.args.self.now.indexed c.args.s c.requires.0, c.word.ensures.1, c.pattern_size.ensures)

pub overflow_add-c : goal.overflow_add-c
overflow_add-c c = omega (arith, laws.conditions_limit _ _ c.args.self.now.indexed, c.requires.1)

pub word-requires-2 : goal.word-requires-2
word-requires-2 c = omega (arith, laws.conditions_limit _ _ c.args.self.now.indexed, c.requires.1)

pub overflow_add-result-2 : goal.overflow_add-result-2
overflow_add-result-2 c = omega (arith, laws.pattern_small _ _ c.args.self.now.indexed c.args.s c.requires.0, c.word.ensures.1, c.word-2.ensures.1, c.pattern_size.ensures)

pub returns : goal.returns
returns c = rw (c.word.ensures.0, c.word-2.ensures.0, c.pattern_size.ensures) (laws.condition_result_is _ _ c.args.self.now.indexed c.args.s c.args.c c.requires.0 (omega (arith, c.requires.1)))

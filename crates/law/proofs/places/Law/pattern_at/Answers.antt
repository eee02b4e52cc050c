use native.Mathlib.Omega.{arith}
use Rattle.law.proofs.IndexLaws as laws
use Rattle.law.proofs.places.Law.pattern_at.Goals as goal

pub overflow_add-s : goal.overflow_add-s
overflow_add-s c = omega (arith, laws.sentences_limit _ _ c.args.self.now.indexed, c.requires)

pub word-c-requires : goal.word-c-requires
word-c-requires c = omega (arith, laws.sentences_limit _ _ c.args.self.now.indexed, c.requires)

pub overflow_add-s-2 : goal.overflow_add-s-2
overflow_add-s-2 c = omega (arith, laws.sentences_limit _ _ c.args.self.now.indexed, c.requires)

pub word-requires : goal.word-requires
word-requires c = omega (arith, laws.sentences_limit _ _ c.args.self.now.indexed, c.requires)

pub word-requires-2 : goal.word-requires-2
word-requires-2 c = omega (arith, laws.condition_place _ _ c.args.self.now.indexed c.args.s c.requires, c.word-c.ensures.0)

pub returns : goal.returns
returns c = rw (c.word.ensures.0, c.word-2.ensures.0, c.word-c.ensures.0) (laws.pattern_is _ _ c.args.self.now.indexed c.args.s c.requires)

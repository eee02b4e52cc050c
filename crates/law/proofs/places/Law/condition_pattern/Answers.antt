use native.Mathlib.Omega.{arith}
use mathlib.Core.Path.{◌∙◌}
use Rattle.law.specs.Places.{condition_pattern_part}
use Rattle.law.proofs.IndexLaws as laws
use Rattle.law.proofs.places.Law.condition_pattern.Goals as goal

pub condition_result_at-requires : goal.condition_result_at-requires
condition_result_at-requires c = (c.requires.sentence, laws.owned _ _ c.args.self.now.indexed c.args.s c.args.c c.requires)

pub condition_result_size-requires : goal.condition_result_size-requires
condition_result_size-requires c = laws.owned _ _ c.args.self.now.indexed c.args.s c.args.c c.requires

pub overflow_add-at : goal.overflow_add-at
overflow_add-at c = omega (arith, laws.condition_result_fits _ _ c.args.self.now.indexed c.args.s c.args.c c.requires, laws.terms_limit _ _ c.args.self.now.indexed, c.condition_result_at.ensures, c.condition_result_size.ensures)

pub condition_word-requires : goal.condition_word-requires
condition_word-requires c = (laws.owned _ _ c.args.self.now.indexed c.args.s c.args.c c.requires, omega arith)

pub records-requires : goal.records-requires
records-requires c = omega (arith, laws.condition_result_fits _ _ c.args.self.now.indexed c.args.s c.args.c c.requires, c.condition_result_at.ensures, c.condition_result_size.ensures, c.condition_word.ensures)

pub returns : goal.returns
unfolding condition_pattern_part
returns c = c.records.ensures ∙ rw (c.condition_result_at.ensures, c.condition_result_size.ensures, c.condition_word.ensures)

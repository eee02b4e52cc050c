use native.Mathlib.Omega.{arith}
use mathlib.Core.Path.{◌∙◌}
use Rattle.law.specs.Places.{condition_result_part}
use Rattle.law.proofs.IndexLaws as laws
use Rattle.law.proofs.places.Law.condition_result.Goals as goal

pub condition_result_at-at-requires : goal.condition_result_at-at-requires
condition_result_at-at-requires c = (c.requires.sentence, laws.owned _ _ c.args.self.now.indexed c.args.s c.args.c c.requires)

pub condition_result_size-requires : goal.condition_result_size-requires
condition_result_size-requires c = laws.owned _ _ c.args.self.now.indexed c.args.s c.args.c c.requires

pub records-requires : goal.records-requires
records-requires c = omega (arith, laws.condition_result_fits _ _ c.args.self.now.indexed c.args.s c.args.c c.requires, c.condition_result_at-at.ensures, c.condition_result_size.ensures)

pub returns : goal.returns
unfolding condition_result_part
returns c = c.records.ensures ∙ rw (c.condition_result_at-at.ensures, c.condition_result_size.ensures)

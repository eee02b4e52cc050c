use native.Mathlib.Omega.{arith}
use Rattle.law.proofs.IndexLaws as laws
use Rattle.law.proofs.places.Law.records.Goals as goal

pub overflow_mul-start : goal.overflow_mul-start
overflow_mul-start c = omega (arith, laws.records_inside _ _ c.args.self.now.indexed c.args.at c.args.count c.requires, c.word.ensures)

pub overflow_add-start : goal.overflow_add-start
overflow_add-start c = omega (arith, laws.records_inside _ _ c.args.self.now.indexed c.args.at c.args.count c.requires, c.word.ensures)

pub overflow_mul-end : goal.overflow_mul-end
overflow_mul-end c = omega (arith, laws.records_inside _ _ c.args.self.now.indexed c.args.at c.args.count c.requires, c.word.ensures)

pub overflow_add-end : goal.overflow_add-end
overflow_add-end c = omega (arith, laws.records_inside _ _ c.args.self.now.indexed c.args.at c.args.count c.requires, c.word.ensures)

pub slice_bounds-result-end : goal.slice_bounds-result-end
slice_bounds-result-end c = omega (arith, laws.records_inside _ _ c.args.self.now.indexed c.args.at c.args.count c.requires, c.word.ensures)

pub returns : goal.returns
returns c = rw c.word.ensures.0 (laws.records_are _ _ c.args.self.now.indexed c.args.at c.args.count c.requires)

use native.Mathlib.Omega.{arith}
use Rattle.law.proofs.IndexLaws as laws
use Rattle.law.proofs.places.Law.text.Goals as goal

pub slice_bounds-result-end : goal.slice_bounds-result-end
slice_bounds-result-end c = omega (arith, laws.text_inside _ _ c.args.self.now.indexed, c.word-end.ensures.0)

pub returns : goal.returns
returns c = rw c.word-end.ensures.0 (laws.text_is _ _ c.args.self.now.indexed)

use native.Mathlib.Omega.{arith}
use mathlib.Core.Path.{◌∙◌}
use Rattle.law.specs.Places.{pattern_part}
use Rattle.law.proofs.IndexLaws as laws
use Rattle.law.proofs.places.Law.pattern.Goals as goal

pub records-requires : goal.records-requires
records-requires c = omega (arith, laws.pattern_fits _ _ c.args.self.now.indexed c.args.s c.requires, c.pattern_at-at.ensures, c.pattern_size.ensures)

pub returns : goal.returns
unfolding pattern_part
returns c = c.records.ensures ∙ rw (c.pattern_at-at.ensures, c.pattern_size.ensures)

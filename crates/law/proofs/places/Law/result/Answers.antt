use native.Mathlib.Omega.{arith}
use mathlib.Core.Path.{◌∙◌}
use Rattle.law.specs.Places.{result_part}
use Rattle.law.proofs.IndexLaws as laws
use Rattle.law.proofs.places.Law.result.Goals as goal

pub records-requires : goal.records-requires
records-requires c = omega (arith, laws.result_fits _ _ c.args.self.now.indexed c.args.s c.requires, c.result_at-at.ensures, c.sentence_word.ensures)

pub returns : goal.returns
unfolding result_part
returns c = c.records.ensures ∙ rw (c.result_at-at.ensures, c.sentence_word.ensures)

-- The length decides; where it is allowed, the bytes do.
use Rattle.std.proofs.Common.{◌∙◌, rules, tests}
use Rattle.std.proofs.lemmas.Iterator.{YieldsList-from_slice}
use Rattle.std.proofs.lemmas.Iterator.Search.{all_from_yields_List}
use Rattle.names.specs.Name.{digit_byte}
use Rattle.names.proofs.Laws.{all_every}
use Rattle.names.proofs.is_number.Goals as goal

pub returns-then-length_allowed : goal.returns-then-length_allowed
returns-then-length_allowed c =
    rw (← c.length_allowed.ensures, c.if-length_allowed.true) (all_from_yields_List digit_byte _ _ _ c.all.ensures.ran (YieldsList-from_slice c.args.s.now cc) (λ x b q k. search (rules, tests)) ∙ all_every _ _)

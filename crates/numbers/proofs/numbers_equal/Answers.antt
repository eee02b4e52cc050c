-- The law for numbers of one length, and the promise for the others, either way round.
use Rattle.std.proofs.Common.{◌∙◌, sym, ap}
use Rattle.std.specs.Ordering.{is_ne}
use Rattle.names.proofs.Laws.{cmp_equal, same_flip}
use Rattle.numbers.proofs.StrippedLaws.{same_length}
use Rattle.numbers.proofs.numbers_equal.Goals as goal

pub returns-in-Equal : goal.returns-in-Equal
returns-in-Equal c =
    c.digits_equal.ensures ∙ sym (same_length c.args.a.now c.args.b.now (cmp_equal _ _ (sym (ap is_ne c.in-Equal.ensures))))

pub returns-in-Less : goal.returns-in-Less
returns-in-Less c = c.padded_equal.ensures ∙ same_flip _ _

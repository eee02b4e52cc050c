use Rattle.std.proofs.Common.{arith, ap, ◌∙◌}
use Rattle.std.specs.Int.{from_bool}
use Rattle.formats.proofs.SlotLaws.{count_next, count_before}
use Rattle.formats.proofs.slots.place.Goals as goal

pub loop-g-preserved : goal.loop-g-preserved
loop-g-preserved c = count_next _ _ _ _ _ c.loop-g.invariant (omega (arith, c.args.allowed.now.law.indexed.words.functions))
    (c.from-found.ensures ∙ ap from_bool (rw c.function_name-name.ensures at c.is_counted.ensures))

pub returns : goal.returns
returns c = count_before _ _ c.requires.1 _ _ c.loop-g.invariant (omega (arith, c.args.allowed.now.law.indexed.words.functions))

use Rattle.std.proofs.Common.{arith}
use Rattle.formats.proofs.SlotLaws.{named_here, named_next, named_end}
use Rattle.formats.proofs.slots.first_named.Goals as goal

pub returns-then-names_equal : goal.returns-then-names_equal
returns-then-names_equal c =
    named_here _ _ _ _ _ _ c.loop-f.invariant (omega (arith, c.args.allowed.now.law.indexed.words.functions)) c.function_name.ensures c.names_equal.ensures c.if-names_equal.true

pub loop-f-preserved : goal.loop-f-preserved
loop-f-preserved c =
    named_next _ _ _ _ _ _ c.loop-f.invariant (omega (arith, c.args.allowed.now.law.indexed.words.functions)) c.function_name.ensures c.names_equal.ensures c.if-names_equal.false

pub returns : goal.returns
returns c = named_end _ _ _ _ c.loop-f.invariant (omega (arith, c.args.allowed.now.law.indexed.words.functions))

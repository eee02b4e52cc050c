use Rattle.std.proofs.Common.{length}
use Rattle.searches.proofs.LiteralParts.{LeftOf}
use Rattle.searches.proofs.literal.+is_literal.Given as goal

abbrev pub invariant-loop-term : goal.invariant-loop-term
invariant-loop-term l = LeftOf l.part l.term-iterator.0.now

-- the contents of a bracket are shorter
abbrev pub decreases-is_literal : goal.decreases-is_literal
decreases-is_literal l = length l.part.now

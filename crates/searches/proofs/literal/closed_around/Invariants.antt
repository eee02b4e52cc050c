use Rattle.searches.proofs.AroundLaws.{Looked}
use Rattle.searches.proofs.literal.closed_around.Given as goal

-- none of the variables of the levels that were looked at has a value in the places from `sure` on
abbrev pub invariant-loop-n : goal.invariant-loop-n
invariant-loop-n l = Looked l.records.text.now l.records.terms.now l.outer l.at l.b l.sure l.from l.n

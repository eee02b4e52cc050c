use Rattle.matching.proofs.BoundLaws.{NotFrom}
use Rattle.matching.proofs.Bindings.place_of.Given as goal

-- none of the places that were looked at has the variable
abbrev pub invariant-loop-i : goal.invariant-loop-i
invariant-loop-i l = NotFrom l.records.text.now l.records.terms.now l.pattern l.self l.i

use Rattle.std.proofs.Common.{◌≡◌, ℕ}
use Rattle.matching.specs.Code.Part.{from}
use Rattle.searches.proofs.RecordLaws.{Across}
use Rattle.searches.proofs.repeats.disjoint_variables.Given as goal

-- the records up to i are gone through, and the others are left
abbrev pub invariant-loop-record : goal.invariant-loop-record
invariant-loop-record l = (i : ℕ) × (Across l.text l.part l.behind i × (l.record-iterator.rest.now ≡ from i l.part) × (l.record-iterator.size ≡ 24))

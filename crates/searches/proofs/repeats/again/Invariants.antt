use Rattle.std.proofs.Common.{◌≡◌, ℕ}
use Rattle.matching.specs.Code.Part.{from}
use Rattle.searches.proofs.RecordLaws.{Past}
use Rattle.searches.proofs.repeats.again.Given as goal

-- the records up to i are gone through, and the others are left
abbrev pub invariant-loop-record : goal.invariant-loop-record
invariant-loop-record l = (i : ℕ) × (Past l.text l.first l.part i × (l.record-iterator.rest.now ≡ from i l.part) × (l.record-iterator.size ≡ 24))

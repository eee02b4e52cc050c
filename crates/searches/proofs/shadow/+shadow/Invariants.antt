-- The measure is five times the pattern's length, with up to 4 more for those that hand the same pattern on.
use Rattle.std.proofs.Common.{◌≡◌, false, ◌+◌, ◌*◌, ◌-◌, length}
use Rattle.matching.specs.Code.Part.{Begin}
use Rattle.matching.specs.Code.Bound.{values_of}
use Rattle.matching.specs.Code.Step.{each_length}
use Rattle.searches.specs.Code.Asked.{first_in}
use Rattle.searches.specs.Code.Failed.{first_values, Failed, Remembers}
use Rattle.searches.proofs.LengthLaws.{left_at}
use Rattle.searches.proofs.shadow.+shadow.Given as goal

abbrev pub invariant-shadow_lengths-loop-rest : goal.invariant-shadow_lengths-loop-rest
invariant-shadow_lengths-loop-rest l =
    let vs = values_of l.records.text.now l.records.terms.now l.b in
    Begin l.row l.n × (first_in (each_length l.records.text.now false l.pattern l.row vs) ≡ first_in (left_at l.records.text.now false l.pattern l.row vs l.n))
    × Remembers (Failed l.records.text.now l.records.terms.now (first_values l.records.text.now l.records.terms.now l.b l.sure.fixed)) l.failed.places

abbrev pub decreases-shadow_lengths-loop-rest : goal.decreases-shadow_lengths-loop-rest
decreases-shadow_lengths-loop-rest l = length l.row - l.n

abbrev pub decreases-shadow_anew : goal.decreases-shadow_anew
decreases-shadow_anew l = 5 * length l.pattern.now + 1

abbrev pub decreases-shadow_first : goal.decreases-shadow_first
decreases-shadow_first l = 5 * length l.pattern.now + 3

abbrev pub decreases-shadow_inside : goal.decreases-shadow_inside
decreases-shadow_inside l = 5 * length l.pattern.now

abbrev pub decreases-shadow_lengths : goal.decreases-shadow_lengths
decreases-shadow_lengths l = 5 * length l.pattern.now

abbrev pub decreases-shadow_run : goal.decreases-shadow_run
decreases-shadow_run l = 5 * length l.pattern.now + 4

abbrev pub decreases-shadow_tries : goal.decreases-shadow_tries
decreases-shadow_tries l = 5 * length l.pattern.now + 2

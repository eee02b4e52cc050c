-- The measure is five times the bytes of the term records from the pattern's position on, and five times the levels around, with up to 4 more for those that hand
-- the same pattern on: gone into brackets, a level is more, but the pattern's position is further on.
use Rattle.std.proofs.Common.{◌≡◌, true, ◌+◌, ◌*◌, ◌-◌, length}
use Rattle.matching.specs.Code.Part.{Begin}
use Rattle.matching.specs.Code.Bound.{values_of}
use Rattle.matching.specs.Code.Step.{each_length}
use Rattle.searches.specs.Code.Asked.{some_holds, resume, levels_of}
use Rattle.searches.specs.Code.Failed.{Remembered}
use Rattle.searches.proofs.LengthLaws.{left_at}
use Rattle.searches.proofs.literal.+literal.Given as goal

abbrev pub invariant-literal_lengths-loop-rest : goal.invariant-literal_lengths-loop-rest
invariant-literal_lengths-loop-rest l =
    let around = levels_of l.records.text.now l.records.terms.now l.outer (l.at + length l.pattern) (l.start + length l.row) in
    let vs = values_of l.records.text.now l.records.terms.now l.b in
    Begin l.row l.n
    × (some_holds (resume around) (each_length l.records.text.now true l.pattern l.row vs) ≡ some_holds (resume around) (left_at l.records.text.now true l.pattern l.row vs l.n))
    × Remembered l.records.text.now l.records.terms.now around l.b l.sure l.fn.failed.places l.failed.places

abbrev pub decreases-literal_lengths-loop-rest : goal.decreases-literal_lengths-loop-rest
decreases-literal_lengths-loop-rest l = length l.row - l.n

abbrev pub decreases-literal_anew : goal.decreases-literal_anew
decreases-literal_anew l = 5 * (length l.records.now.terms.now - l.at) + 5 * l.outer.now.count + 1

abbrev pub decreases-literal_apart : goal.decreases-literal_apart
decreases-literal_apart l = 5 * (length l.records.now.terms.now - l.at) + 5 * l.outer.now.count

abbrev pub decreases-literal_bracket : goal.decreases-literal_bracket
decreases-literal_bracket l = 5 * (length l.records.now.terms.now - l.at) + 5 * l.outer.now.count + 2

abbrev pub decreases-literal_end : goal.decreases-literal_end
decreases-literal_end l = 5 * (length l.records.now.terms.now - l.at) + 5 * l.outer.now.count + 1

abbrev pub decreases-literal_first : goal.decreases-literal_first
decreases-literal_first l = 5 * (length l.records.now.terms.now - l.at) + 5 * l.outer.now.count + 3

abbrev pub decreases-literal_inside : goal.decreases-literal_inside
decreases-literal_inside l = 5 * (length l.records.now.terms.now - l.at) + 5 * l.outer.now.count

abbrev pub decreases-literal_lengths : goal.decreases-literal_lengths
decreases-literal_lengths l = 5 * (length l.records.now.terms.now - l.at) + 5 * l.outer.now.count

abbrev pub decreases-literal_out : goal.decreases-literal_out
decreases-literal_out l = 5 * (length l.records.now.terms.now - l.at) + 5 * l.outer.now.count

abbrev pub decreases-literal_run : goal.decreases-literal_run
decreases-literal_run l = 5 * (length l.records.now.terms.now - l.at) + 5 * l.outer.now.count + 4

abbrev pub decreases-literal_tries : goal.decreases-literal_tries
decreases-literal_tries l = 5 * (length l.records.now.terms.now - l.at) + 5 * l.outer.now.count + 2

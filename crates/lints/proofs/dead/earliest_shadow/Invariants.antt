use Rattle.std.proofs.Common.{[], ◌+◌, ◌-◌, ◌≤◌, ◌≡◌}
use mathlib.Core.Option.{none}
use Rattle.file.specs.Sections.{file_of}
use Rattle.sentences.specs.Entry.{pattern_in}
use Rattle.lints.specs.Dead.{earliest}
use Rattle.lints.specs.Code.Records.{earlier_at}
use Rattle.lints.proofs.dead.earliest_shadow.Given as goal

abbrev pub invariant-loop-i : goal.invariant-loop-i
invariant-loop-i l =
    (l.i ≤ l.later)
    × (earliest [] (earlier_at (file_of l.accepted.law.bytes.now) l.first l.i) (pattern_in (file_of l.accepted.law.bytes.now) (l.first + l.later)) ≡ none)

abbrev pub decreases-loop-i : goal.decreases-loop-i
decreases-loop-i l = l.later - l.i

-- The variables that were counted, and the different ones from record i on, are all different ones.
use Rattle.std.proofs.Common.{◌≡◌, ◌+◌, ◌-◌, ◌≤◌}
use Rattle.law.specs.Variables.{variables_from, distinct}
use Rattle.law.proofs.patterns.Pattern.is_allowed.Given as goal

abbrev pub invariant-loop-i : goal.invariant-loop-i
invariant-loop-i l =
    let text = l.self.text.now in
    let records = l.self.records.now in
    let count = l.self.count in
    (l.found ≤ 32) × (distinct (variables_from text records count 0) ≡ l.found + distinct (variables_from text records (count - l.i) l.i))

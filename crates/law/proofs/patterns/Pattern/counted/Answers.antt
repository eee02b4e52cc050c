-- No variable below kind 3 or above kind 5, a variable that is repeated, and one that is not.
use Rattle.std.proofs.Common.{arith, ◌≡◌, ◌*◌, []}
use Rattle.file.specs.Head.{term_at}
use Rattle.law.specs.Variables.{variable_of}
use Rattle.law.proofs.PatternLaws.{variable_below, variable_above, distinct_skip, distinct_repeated, distinct_new}
use Rattle.law.proofs.patterns.Pattern.counted.Goals as goal
use Rattle.law.proofs.patterns.Pattern.counted.Goals.{then-kind-lt3-via-then-kind-lt3, then-kind-lt3-via-else-kind-lt3+then-kind-gt5}

pub returns-then-kind-lt3 : goal.returns-then-kind-lt3
returns-then-kind-lt3 c =
    let text = c.args.self.now.text.now in
    let records = c.args.self.now.records.now in
    let none = elim c.then-kind-lt3.branch as (λ _. variable_of text (term_at records (24 * c.args.i)) ≡ []) [
      | then-kind-lt3-via-then-kind-lt3 w ↦ variable_below text records c.args.i _ c.word_at-kind.ensures w.if-kind-lt3.true
      | then-kind-lt3-via-else-kind-lt3+then-kind-gt5 w ↦ variable_above text records c.args.i _ c.word_at-kind.ensures w.if-kind-gt5.true
    ] in
    (distinct_skip text records c.args.self.now.count c.args.i c.requires none, omega arith)

pub returns-then-is_repeated : goal.returns-then-is_repeated
returns-then-is_repeated c =
    let pattern = c.args.self.now in (
      distinct_repeated pattern.text.now pattern.records.now pattern.count c.args.i _ _ c.requires c.word_at-kind.ensures c.if-kind-lt3.false
          c.if-kind-gt5.false c.is_repeated.ensures c.if-is_repeated.true,
      omega arith,
    )

pub returns-else-is_repeated : goal.returns-else-is_repeated
returns-else-is_repeated c =
    let pattern = c.args.self.now in (
      distinct_new pattern.text.now pattern.records.now pattern.count c.args.i _ _ c.requires c.word_at-kind.ensures c.if-kind-lt3.false
          c.if-kind-gt5.false c.is_repeated.ensures c.if-is_repeated.false,
      omega arith,
    )

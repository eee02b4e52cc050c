use Rattle.matching.proofs.StepLaws as laws
use Rattle.matching.proofs.step.free_first.Goals as goal
use Rattle.matching.proofs.step.free_first.Goals.{then-row-lt24-via-then-row-lt24, then-row-lt24-via-else-row-lt24+then-not-may_stand}

pub returns-then-is_open : goal.returns-then-is_open
returns-then-is_open c = λ text v vs e without. laws.free_tries text c.args.pattern.now c.args.row.now v vs c.requires e without
    (laws.open_told c.term_at-variable.ensures c.is_open.ensures) c.if-is_open.true

pub returns-then-row-lt24 : goal.returns-then-row-lt24
returns-then-row-lt24 c = λ text v vs e without. elim c.then-row-lt24.branch [
  | then-row-lt24-via-then-row-lt24 w ↦ laws.free_short text c.args.pattern.now c.args.row.now v vs c.requires e without
      (laws.open_told c.term_at-variable.ensures c.is_open.ensures) c.if-is_open.false w.if-row-lt24.true
  | then-row-lt24-via-else-row-lt24+then-not-may_stand w ↦ laws.free_differs text c.args.pattern.now c.args.row.now v vs c.requires e without
      (laws.open_told c.term_at-variable.ensures c.is_open.ensures) c.if-is_open.false w.if-row-lt24.false
      (laws.stand_told c.term_at-variable.ensures w.term_at.ensures w.may_stand.ensures) w.if-not-may_stand.true
]

pub returns : goal.returns
returns c = λ text v vs e without. laws.free_binds text c.args.pattern.now c.args.row.now v vs c.requires e without
    (laws.open_told c.term_at-variable.ensures c.is_open.ensures) c.if-is_open.false c.if-row-lt24.false
    (laws.stand_told c.term_at-variable.ensures c.term_at.ensures c.may_stand.ensures) c.if-not-may_stand.false c.end_of.ensures.0 c.end_of.ensures.2

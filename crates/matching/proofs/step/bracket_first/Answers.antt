use Rattle.matching.proofs.StepLaws as laws
use Rattle.matching.proofs.step.bracket_first.Goals as goal
use Rattle.matching.proofs.step.bracket_first.Goals.{else-row-ge24-via-then-row-ge24+else-is_bracket, else-row-ge24-via-else-row-ge24}

pub returns-then-is_bracket : goal.returns-then-is_bracket
returns-then-is_bracket c = λ text pattern vs some e. laws.bracket_inside text pattern c.args.row.now vs some e c.if-row-ge24.true c.is_bracket.ensures c.if-is_bracket.true

pub returns-else-row-ge24 : goal.returns-else-row-ge24
returns-else-row-ge24 c = λ text pattern vs some e. elim c.else-row-ge24.branch [
  | else-row-ge24-via-then-row-ge24+else-is_bracket w ↦ laws.bracket_differs text pattern c.args.row.now vs some e w.if-row-ge24.true w.is_bracket.ensures w.if-is_bracket.false
  | else-row-ge24-via-else-row-ge24 w ↦ laws.bracket_short text pattern c.args.row.now vs some e w.if-row-ge24.false
]

-- No macrodigit, a function that does not divide, and one that does: `second_none`, `second_decides` and `second_zeros`.
use Rattle.lints.proofs.PartLaws.{second_none, second_decides, second_zeros}
use Rattle.lints.proofs.builtin.second_fails.Goals as goal
use Rattle.lints.proofs.builtin.second_fails.Goals.{else-divides-via-then-divides+else-eq, else-divides-via-else-divides}

pub returns-then-part-lt24 : goal.returns-then-part-lt24
returns-then-part-lt24 c = second_none _ _ _ c.if-part-lt24.true

pub returns-then-eq : goal.returns-then-eq
returns-then-eq c = rw c.if-eq.true at (second_zeros c.args.text.now c.args.part.now c.if-part-lt24.false c.if-divides.true c.zeros.ensures c.eq.ensures)

pub returns-else-divides : goal.returns-else-divides
returns-else-divides c = elim c.else-divides.branch [
  | else-divides-via-then-divides+else-eq w ↦
      rw w.if-eq.false at (second_zeros c.args.text.now c.args.part.now c.if-part-lt24.false w.if-divides.true w.zeros.ensures w.eq.ensures)
  | else-divides-via-else-divides w ↦ second_decides _ _ c.if-part-lt24.false w.if-divides.false
]

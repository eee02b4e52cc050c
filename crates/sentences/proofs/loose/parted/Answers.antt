use Rattle.std.proofs.Common.{arith}
use Rattle.sentences.proofs.OpenLaws.{parted_not}
use Rattle.sentences.proofs.loose.parted.Goals as goal

pub returns-in-0 : goal.returns-in-0
returns-in-0 c e =
    let a = c.args in
    parted_not a.text.now a.pattern.now a.row.now c.if-pattern-lt24.false c.if-row-lt24.false c.word_at.ensures (omega (arith, c.in-0.is))
    (c.characters_same.ensures a.text.now) e

pub returns-in-1 : goal.returns-in-1
returns-in-1 c e =
    let a = c.args in
    parted_not a.text.now a.pattern.now a.row.now c.if-pattern-lt24.false c.if-row-lt24.false c.word_at.ensures (omega (arith, c.in-1)) c.atoms_same.ensures e

-- The first macrodigit and the rest: `zeros_node`.
use Rattle.std.proofs.Common.{refl}
use Rattle.lints.proofs.PartLaws.{zeros_none, zeros_node}
use Rattle.lints.proofs.builtin.+zeros.Goals as goal

pub returns-then-part-lt24 : goal.returns-then-part-lt24
returns-then-part-lt24 t c = zeros_none _ _ c.if-part-lt24.true

pub returns-in_err-first : goal.returns-in_err-first
returns-in_err-first t c =
    rw c.from_residual.ensures
    (zeros_node c.args.text.now c.args.part.now c.if-part-lt24.false refl c.term_at.ensures c.operand_of.ensures c.zero_of.ensures refl
    (rw c.in_err-first.was))

pub returns-in_err-rest : goal.returns-in_err-rest
returns-in_err-rest t c =
    rw c.from_residual-in_err-rest.ensures
    (zeros_node c.args.text.now c.args.part.now c.if-part-lt24.false c.end_of-end.ensures.0 c.term_at.ensures c.operand_of.ensures
    c.zero_of.ensures c.zeros.ensures (rw (c.in_ok-first.was, c.in_err-rest.was)))

pub returns-then-first : goal.returns-then-first
returns-then-first t c =
    zeros_node c.args.text.now c.args.part.now c.if-part-lt24.false c.end_of-end.ensures.0 c.term_at.ensures c.operand_of.ensures
    c.zero_of.ensures c.zeros.ensures (rw (c.in_ok-first.was, c.in_ok-rest.was, c.if-first.true))

pub returns-else-first : goal.returns-else-first
returns-else-first t c =
    zeros_node c.args.text.now c.args.part.now c.if-part-lt24.false c.end_of-end.ensures.0 c.term_at.ensures c.operand_of.ensures
    c.zero_of.ensures c.zeros.ensures (rw (c.in_ok-first.was, c.in_ok-rest.was, c.if-first.false))

-- The first character and the rest: `digits_node`.
use Rattle.std.proofs.Common.{refl}
use Rattle.lints.proofs.PartLaws.{digits_none, digits_node}
use Rattle.lints.proofs.builtin.+all_digits.Goals as goal

pub returns-then-part-lt24 : goal.returns-then-part-lt24
returns-then-part-lt24 t c = digits_none _ c.if-part-lt24.true

pub returns-in_err-first : goal.returns-in_err-first
returns-in_err-first t c =
    rw c.from_residual.ensures
    (λ text. digits_node text c.args.part.now c.if-part-lt24.false refl c.term_at.ensures c.digit_of.ensures refl (rw c.in_err-first.was))

pub returns-in_err-rest : goal.returns-in_err-rest
returns-in_err-rest t c =
    rw c.from_residual-in_err-rest.ensures
    (λ text. digits_node text c.args.part.now c.if-part-lt24.false c.end_of-end.ensures.0 c.term_at.ensures c.digit_of.ensures
    (c.all_digits.ensures text) (rw (c.in_ok-first.was, c.in_err-rest.was)))

pub returns-then-first : goal.returns-then-first
returns-then-first t c = λ text.
    digits_node text c.args.part.now c.if-part-lt24.false c.end_of-end.ensures.0 c.term_at.ensures c.digit_of.ensures
    (c.all_digits.ensures text) (rw (c.in_ok-first.was, c.in_ok-rest.was, c.if-first.true))

pub returns-else-first : goal.returns-else-first
returns-else-first t c = λ text.
    digits_node text c.args.part.now c.if-part-lt24.false c.end_of-end.ensures.0 c.term_at.ensures c.digit_of.ensures
    (c.all_digits.ensures text) (rw (c.in_ok-first.was, c.in_ok-rest.was, c.if-first.false))

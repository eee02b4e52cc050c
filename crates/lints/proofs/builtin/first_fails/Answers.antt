-- Nothing is decided unless the first operand is a macrodigit; then the second decides: `first_macrodigit`.
use Rattle.std.proofs.Common.{refl}
use Rattle.lints.proofs.PartLaws.{first_none, first_sign, first_macrodigit, first_other}
use Rattle.lints.proofs.builtin.first_fails.Goals as goal

pub returns-then-part-lt24 : goal.returns-then-part-lt24
returns-then-part-lt24 c = first_none _ _ _ c.if-part-lt24.true

pub returns-in-Some-Macrodigit : goal.returns-in-Some-Macrodigit
returns-in-Some-Macrodigit c =
    first_macrodigit _ _ c.if-part-lt24.false c.end_of-end.ensures.0 c.term_at.ensures c.operand_of.ensures _ _
    {n = c.in-Some-Macrodigit.field-0-0} (rw (c.in-Some-Macrodigit.is, c.in-Some-Macrodigit.field-0-is)) c.without_sign.ensures c.second_fails.ensures

pub returns-in-Some-Sign : goal.returns-in-Some-Sign
returns-in-Some-Sign c =
    first_sign _ _ c.if-part-lt24.false refl c.term_at.ensures c.operand_of.ensures _ (rw (c.in-Some-Sign.is, c.in-Some-Sign.field-0-is))

pub returns-in-None : goal.returns-in-None
returns-in-None c = first_other _ _ c.if-part-lt24.false refl c.term_at.ensures c.operand_of.ensures _ c.in-None.is

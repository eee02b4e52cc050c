-- A sign is taken once: `sign_taken`; anything else is kept.
use Rattle.std.proofs.Common.{refl}
use Rattle.lints.proofs.PartLaws.{sign_none, sign_taken, macrodigit_kept, other_kept}
use Rattle.lints.proofs.builtin.without_sign.Goals as goal

pub returns-then-part-lt24 : goal.returns-then-part-lt24
returns-then-part-lt24 c = sign_none _ _ c.if-part-lt24.true

pub returns-in-Some-Sign : goal.returns-in-Some-Sign
returns-in-Some-Sign c =
    sign_taken _ _ c.if-part-lt24.false c.end_of-end.ensures.0 c.term_at.ensures c.operand_of.ensures
    (rw (c.in-Some-Sign.is, c.in-Some-Sign.field-0-is))

pub returns-in-Some-Macrodigit : goal.returns-in-Some-Macrodigit
returns-in-Some-Macrodigit c =
    macrodigit_kept _ _ c.if-part-lt24.false refl c.term_at.ensures c.operand_of.ensures
    {n = c.in-Some-Macrodigit.field-0-0} (rw (c.in-Some-Macrodigit.is, c.in-Some-Macrodigit.field-0-is))

pub returns-in-None : goal.returns-in-None
returns-in-None c = other_kept _ _ c.if-part-lt24.false refl c.term_at.ensures c.operand_of.ensures c.in-None.is

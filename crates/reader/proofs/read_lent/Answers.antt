use Rattle.std.proofs.Common.{◌≡◌}
use Rattle.reader.specs.declared.Unread.TheVariants.{Outside}
use Rattle.reader.proofs.ReadLaws.{passed_on, sliced, lexer_outside}
use Rattle.reader.proofs.read_lent.Goals as goal

pub returns-in_err-n : goal.returns-in_err-n
returns-in_err-n c =
    let why = rw c.in_err-n.ensures.ok_part at c.in_err-n.ensures.value in
    let outside : c.in_err-n.field-0.0 ≡ Outside = cc in
    rw (passed_on c.in_err-n.field-0.0 c.from_residual.result c.from_residual.ensures.1, outside)
    (lexer_outside c.args.text.now c.args.law.now c.lex_text.new.tokens (rw c.in_err-n.ensures.ok_part at c.lex_text.ensures.1))

pub deliver_text-requires : goal.deliver_text-requires
deliver_text-requires c =
    let lexes = rw c.in_ok-n.ensures.ok_part at c.lex_text.ensures.1 in
    (c.requires.0, c.requires.2, c.requires.3, (sliced c.args.text.now c.in_ok-n.n c.lex_text.new.tokens c.lex_text.ensures.0 lexes).1)

use Rattle.std.proofs.Common.{arith, sym, ◌∙◌}
use Rattle.tokens.proofs.PieceLaws.{sign_here, blank_here, nothing_here}
use Rattle.tokens.proofs.pieces.next_piece.Goals as goal

pub returns-then-is_blank : goal.returns-then-is_blank
returns-then-is_blank c = blank_here c.args.text.now c.args.at c.requires.1 (sym c.is_blank.ensures ∙ c.if-is_blank.true)

pub returns-in_ok-of_sign-in_default-4 : goal.returns-in_ok-of_sign-in_default-4
returns-in_ok-of_sign-in_default-4 c = sign_here c.args.text.now c.args.at _ c.requires.1 (sym c.in_ok-of_sign-in_default-4.ensures)

pub returns-in_err-of_sign-in_default-4 : goal.returns-in_err-of_sign-in_default-4
returns-in_err-of_sign-in_default-4 c =
    rw c.from_residual.ensures
    (nothing_here c.args.text.now c.args.at c.requires.1 (sym c.digit_byte.ensures ∙ c.if-digit_byte.false) (sym c.letter_byte.ensures ∙ c.if-letter_byte.false)
    (sym c.is_blank.ensures ∙ c.if-is_blank.false) (λ e. omega arith) (λ e. omega arith) (λ e. omega arith) (sym c.in_err-of_sign-in_default-4.ensures))

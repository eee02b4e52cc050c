use Rattle.std.proofs.Common.{◌≡◌, sym, ◌∙◌, ap, length}
use Rattle.tokens.specs.Token.{utf8}
use Rattle.tokens.proofs.CharacterLaws.{same_bytes, rest_of, past_end, nothing_left, no_scalar, other_width, whole_character, byte_character}
use Rattle.tokens.proofs.characters.character_at.Goals as goal

pub returns-in_err-bytes : goal.returns-in_err-bytes
returns-in_err-bytes c = rw c.from_residual.ensures (nothing_left _ (past_end _ _ c.in_err-bytes.ensures.lookup.0))

pub returns-in_err-first : goal.returns-in_err-first
returns-in_err-first c =
    let rest = rest_of c.args.text.now c.args.at _ c.in_ok-bytes.ensures.lookup.0.2 in
    rw (c.from_residual-in_err-first.ensures, ← rest) (nothing_left _ (c.in_err-first.ensures.item.3))

pub returns-then-first-lt128 : goal.returns-then-first-lt128
returns-then-first-lt128 c =
    let rest = rest_of c.args.text.now c.args.at _ c.in_ok-bytes.ensures.lookup.0.2 in
    rw (← rest, c.from.ensures) (byte_character _ _ c.if-first-lt128.true c.in_ok-first.ensures.value)

pub returns-in_err-code : goal.returns-in_err-code
returns-in_err-code c =
    let rest = rest_of c.args.text.now c.args.at _ c.in_ok-bytes.ensures.lookup.0.2 in
    rw (c.from_residual-in_err-code.ensures, ← rest) c.in_err-code.ensures

pub returns-in_err-c : goal.returns-in_err-c
returns-in_err-c c =
    let rest = rest_of c.args.text.now c.args.at _ c.in_ok-bytes.ensures.lookup.0.2 in
    rw (c.from_residual-in_err-c.ensures, ← rest) (no_scalar _ _ _ c.in_ok-code.ensures c.in_err-c.ensures.value)

pub returns-then-len_utf8-width : goal.returns-then-len_utf8-width
returns-then-len_utf8-width c =
    let rest = rest_of c.args.text.now c.args.at _ c.in_ok-bytes.ensures.lookup.0.2 in
    let size : c.len_utf8.result ≡ length (utf8 c.in_ok-code.code) = c.len_utf8.ensures.len ∙ ap length (same_bytes c.in_ok-c.c) ∙ ap (λ x. length (utf8 x)) c.in_ok-c.ensures.value.1 in
    rw (← rest) (other_width _ _ _ c.in_ok-code.ensures (λ e. c.if-len_utf8-width.true (size ∙ e)))

pub returns : goal.returns
returns c =
    let rest = rest_of c.args.text.now c.args.at _ c.in_ok-bytes.ensures.lookup.0.2 in
    let size : c.len_utf8.result ≡ length (utf8 c.in_ok-code.code) = c.len_utf8.ensures.len ∙ ap length (same_bytes c.in_ok-c.c) ∙ ap (λ x. length (utf8 x)) c.in_ok-c.ensures.value.1 in
    rw (← rest) (whole_character _ _ _ c.in_ok-code.ensures c.in_ok-c.c c.in_ok-c.ensures.value.0 c.in_ok-c.ensures.value.1 (sym size ∙ c.if-len_utf8-width.false))

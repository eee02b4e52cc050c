use Rattle.std.proofs.Common.{arith}
use Rattle.tokens.proofs.LexLaws.{lexing_start, lexing_end, lexing_nothing, lexing_between, between_within, token_within, lexing_token}
use Rattle.tokens.proofs.lex_text.Goals as goal

pub loop-at-init : goal.loop-at-init
loop-at-init c = lexing_start c.args.text.now c.args.tokens.now c.requires.0 c.requires.1

pub returns-in_err-end : goal.returns-in_err-end
returns-in_err-end c = (c.loop-at.invariant.long, rw c.from_residual.ensures (lexing_nothing c.loop-at.invariant c.loop-at-test.true c.in_err-end.ensures))

pub loop-at-preserved-in-Between : goal.loop-at-preserved-in-Between
loop-at-preserved-in-Between c = lexing_between c.loop-at.invariant c.loop-at-test.true (rw c.in-Between.is at c.in_ok-end.ensures)

pub loop-at-smaller-in-Between : goal.loop-at-smaller-in-Between
loop-at-smaller-in-Between c = omega (arith, between_within c.loop-at.invariant c.loop-at-test.true (rw c.in-Between.is at c.in_ok-end.ensures))

pub overflow_cast-tokens-in-Token : goal.overflow_cast-tokens-in-Token
overflow_cast-tokens-in-Token c = omega (arith, token_within c.loop-at.invariant c.loop-at-test.true (rw c.in-Token.is at c.in_ok-end.ensures))

pub loop-at-smaller : goal.loop-at-smaller
loop-at-smaller c = omega (arith, token_within c.loop-at.invariant c.loop-at-test.true (rw c.in-Token.is at c.in_ok-end.ensures))

pub loop-at-preserved : goal.loop-at-preserved
loop-at-preserved c = lexing_token c.loop-at.invariant c.loop-at-test.true (rw c.in-Token.is at c.in_ok-end.ensures)

pub returns : goal.returns
returns c = (c.loop-at.invariant.long, lexing_end c.loop-at.invariant c.loop-at-test.false)

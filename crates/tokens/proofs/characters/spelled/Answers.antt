use Rattle.std.proofs.Common.{arith}
use Rattle.tokens.proofs.CharacterLaws.{no_second, no_third, no_fourth, two_bytes, three_bytes, four_bytes}
use Rattle.tokens.proofs.characters.spelled.Goals as goal

pub returns-in_err-second : goal.returns-in_err-second
returns-in_err-second c = rw c.from_residual.ensures (no_second _ c.requires.1 c.in_err-second.ensures)

pub returns-then-first-lt224 : goal.returns-then-first-lt224
returns-then-first-lt224 c = two_bytes c.args.bytes.now _ _ c.requires.1 (omega arith) c.in_ok-second.ensures (omega arith)

pub returns-in_err-third : goal.returns-in_err-third
returns-in_err-third c = rw c.from_residual-in_err-third.ensures (no_third _ (omega arith) c.in_err-third.ensures)

pub returns-then-first-lt240 : goal.returns-then-first-lt240
returns-then-first-lt240 c = three_bytes c.args.bytes.now _ _ _ (omega arith) (omega arith) c.in_ok-second.ensures c.in_ok-third.ensures (omega arith)

pub returns-in_err-fourth : goal.returns-in_err-fourth
returns-in_err-fourth c = rw c.from_residual-in_err-fourth.ensures (no_fourth _ (omega arith) c.in_err-fourth.ensures)

pub returns : goal.returns
returns c = four_bytes c.args.bytes.now _ _ _ _ (omega arith) c.in_ok-second.ensures c.in_ok-third.ensures c.in_ok-fourth.ensures (omega arith)

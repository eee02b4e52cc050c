-- One text for each failure.
use Rattle.std.proofs.Common.{arith}
use Rattle.law.specs.Text.{bytes_of}
use Rattle.messages.proofs.texts.failure_words.Goals as goal

pub returns-in-TwoIntegersWanted : goal.returns-in-TwoIntegersWanted
unfolding bytes_of
returns-in-TwoIntegersWanted c = (rw c.in-TwoIntegersWanted.is, omega arith)

pub returns-in-DivisionByZero : goal.returns-in-DivisionByZero
unfolding bytes_of
returns-in-DivisionByZero c = (rw c.in-DivisionByZero.is, omega arith)

pub returns-in-DigitsWanted : goal.returns-in-DigitsWanted
unfolding bytes_of
returns-in-DigitsWanted c = (rw c.in-DigitsWanted.is, omega arith)

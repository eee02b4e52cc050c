-- `bilzarko_digit`: the step of `numbers`, with the number of its answer.
use Rattle.bilzarko.proofs.ExportLaws.{digit_taken}
use Rattle.bilzarko.proofs.bilzarko_digit.Goals as goal

pub returns : goal.returns
returns c = digit_taken c.digit_step-step.ensures c.tested_number.ensures

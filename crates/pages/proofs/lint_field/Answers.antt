-- One word for each lint.
use Rattle.std.proofs.Common.{arith}
use Rattle.law.specs.Text.{bytes_of}
use Rattle.pages.specs.Page.{left}
use Rattle.pages.proofs.LineLaws.{other_lint}
use Rattle.pages.proofs.lint_field.Goals as goal

pub returns-in-1 : goal.returns-in-1
unfolding bytes_of left
returns-in-1 c = rw c.in-1.is

pub returns-in-2 : goal.returns-in-2
unfolding bytes_of left
returns-in-2 c = rw c.in-2.is

pub returns-in-3 : goal.returns-in-3
unfolding bytes_of left
returns-in-3 c = rw c.in-3.is

pub returns-in_default : goal.returns-in_default
unfolding bytes_of left
returns-in_default c = rw (other_lint c.args.lint (λ e. omega (arith, e)) (λ e. omega (arith, e)) (λ e. omega (arith, e)))

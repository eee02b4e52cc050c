-- One word for each severity.
use Rattle.std.proofs.Common.{arith}
use Rattle.law.specs.Text.{bytes_of}
use Rattle.pages.specs.Page.{left}
use Rattle.pages.proofs.LineLaws.{other_severity}
use Rattle.pages.proofs.severity_field.Goals as goal

pub returns-in-0 : goal.returns-in-0
unfolding bytes_of left
returns-in-0 c = rw c.in-0.is

pub returns-in-1 : goal.returns-in-1
unfolding bytes_of left
returns-in-1 c = rw c.in-1.is

pub returns-in-2 : goal.returns-in-2
unfolding bytes_of left
returns-in-2 c = rw c.in-2.is

pub returns-in_default : goal.returns-in_default
unfolding bytes_of left
returns-in_default c = rw (other_severity c.args.severity (λ e. omega (arith, e)) (λ e. omega (arith, e)) (λ e. omega (arith, e)))

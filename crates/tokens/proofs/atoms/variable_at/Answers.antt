use Rattle.std.proofs.Common.{sym}
use Rattle.tokens.proofs.AtomLaws.{identifier_plain, identifier_short, variable_found}
use Rattle.tokens.proofs.atoms.variable_at.Goals as goal

pub returns : goal.returns
returns c = variable_found c.args.text.now c.args.at _ _ c.requires.0 c.requires.1 (sym c.in_ok-kind.ensures) (sym c.in_ok-end.ensures)

pub returns-in_err-kind : goal.returns-in_err-kind
returns-in_err-kind c = rw c.from_residual.ensures (identifier_plain c.args.text.now c.args.at c.requires.0 c.requires.1 (sym c.in_err-kind.ensures))

pub returns-in_err-end : goal.returns-in_err-end
returns-in_err-end c = rw c.from_residual-in_err-end.ensures (identifier_short c.args.text.now c.args.at c.requires.0 c.requires.1 (sym c.in_err-end.ensures))

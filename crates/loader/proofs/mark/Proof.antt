-- `mark`: the rows from the contract of `bilzarko_digit`.
use borrow.Author.Rules.{rules}
use Rattle.loader.proofs.MarkedLaws.{marked}
use Rattle.loader.proofs.mark.Statement.{statement}
use Rattle.loader.proofs.mark.Tie as tie

pub mark_spec : {M : Type 1} → statement M
mark_spec =
    tie.close
    (tie.spec
    (λ c κs. search rules)
    (λ c.
    let the_args = c.args in
    marked the_args.state.now the_args.byte _ c.bilzarko_digit.ensures))

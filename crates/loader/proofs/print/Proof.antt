-- `print`: the rows from the contract of `bilzarko_page`.
use borrow.Author.Rules.{rules}
use Rattle.loader.proofs.PrintedLaws.{printed}
use Rattle.loader.proofs.print.Statement.{statement}
use Rattle.loader.proofs.print.Tie as tie

pub print_spec : {M : Type 1} → statement M
print_spec =
    tie.close
    (tie.spec
    (λ c κs. search rules)
    (λ c. search rules)
    (λ c. search rules)
    (λ c.
    printed _ c.args.law.now c.args.store.now c.args.page.now c.args.answer.now _
    c.bilzarko_page.ensures))

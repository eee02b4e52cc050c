-- `read`: the rows from the contract of `bilzarko_read`.
use borrow.Author.Rules.{rules}
use Rattle.loader.proofs.TypedLaws.{typed}
use Rattle.loader.proofs.read.Statement.{statement}
use Rattle.loader.proofs.read.Tie as tie

pub read_spec : {M : Type 1} → statement M
read_spec =
    tie.close
    (tie.spec
    (λ c κs. search rules)
    (λ c. search rules)
    (λ c.
    typed c.args.text.now c.args.law.now c.args.answer.now _ c.bilzarko_read.ensures))

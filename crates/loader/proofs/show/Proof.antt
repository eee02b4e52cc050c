-- `show`: the rows from the contract of `bilzarko_text`.
use borrow.Author.Rules.{rules}
use Rattle.loader.proofs.ShownLaws.{shown}
use Rattle.loader.proofs.show.Statement.{statement}
use Rattle.loader.proofs.show.Tie as tie

pub show_spec : {M : Type 1} → statement M
show_spec =
    tie.close
    (tie.spec
    (λ c κs. search rules)
    (λ c. search rules)
    (λ c. search rules)
    (λ c.
    shown _ c.args.law.now c.args.store.now c.args.position c.args.text.now c.args.answer.now _
    c.bilzarko_text.ensures))

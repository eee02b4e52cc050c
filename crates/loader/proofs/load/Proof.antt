-- `load`: the rows and demand 3 from the contract of `bilzarko_findings`.
use borrow.Author.Rules.{rules}
use Rattle.loader.proofs.LoadedLaws.{loaded}
use Rattle.loader.proofs.load.Statement.{statement}
use Rattle.loader.proofs.load.Tie as tie

pub load_spec : {M : Type 1} → statement M
load_spec =
    tie.close
    (tie.spec
    (λ c κs. search rules)
    (λ c. search rules)
    (λ c. search rules)
    (λ c.
    loaded _ c.args.law.now c.args.store.now c.args.words.now c.args.answer.now _ c.bilzarko_findings.ensures))

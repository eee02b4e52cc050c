use Rattle.sentences.proofs.ParityLaws.{uneven_counted}
use Rattle.sentences.proofs.parity.uneven.Goals as goal

pub returns-then-terms_in : goal.returns-then-terms_in
returns-then-terms_in c e =
    let text = c.args.text.now in
    uneven_counted _ _ (c.evenly.ensures e) (c.terms_in.ensures.0 text) (c.terms_in-2.ensures.0 text) c.if-terms_in.true

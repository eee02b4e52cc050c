use Rattle.sentences.proofs.SentenceLaws.{shadow_none, shadow_answered}
use Rattle.sentences.proofs.shadow_accepted.Goals as goal

pub returns-then-count-earlier : goal.returns-then-count-earlier
returns-then-count-earlier c = shadow_none _ _ c.args.accepted.now.law.indexed _ c.sentences-count.ensures _ _ c.then-count-earlier.either

pub returns : goal.returns
returns c =
    shadow_answered _ _ c.args.accepted.now.law.indexed _ c.sentences-count.ensures _ _ _ c.if-count-earlier.false c.if-count-later.false c.sentence_shadows.ensures

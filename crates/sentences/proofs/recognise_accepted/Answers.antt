use Rattle.sentences.proofs.SentenceLaws.{sentence_inside, call_is, recognise_none, recognise_other, recognise_answered}
use Rattle.sentences.proofs.recognise_accepted.Goals as goal

pub returns-then-sentences-sentence : goal.returns-then-sentences-sentence
returns-then-sentences-sentence c = recognise_none _ _ c.args.accepted.now.law.indexed _ c.sentences.ensures _ _ c.if-sentences-sentence.true

pub returns-then-not-is_literal_call : goal.returns-then-not-is_literal_call
returns-then-not-is_literal_call c =
    recognise_other _ _ c.args.accepted.now.law.indexed _ c.sentences.ensures _ _ _ c.if-sentences-sentence.false c.is_literal_call.ensures c.if-not-is_literal_call.true

pub sentence_matches-requires : goal.sentence_matches-requires
sentence_matches-requires c =
    let indexed = c.args.accepted.now.law.indexed in
    let call = call_is _ _ indexed _ _ c.is_literal_call.ensures c.if-not-is_literal_call.false in
    (sentence_inside _ _ indexed _ c.sentences.ensures _ c.if-sentences-sentence.false, call.0, call.1)

pub returns : goal.returns
returns c =
    recognise_answered _ _ c.args.accepted.now.law.indexed _ c.sentences.ensures _ _ _ _ c.if-sentences-sentence.false c.is_literal_call.ensures
    c.if-not-is_literal_call.false c.sentence_matches.ensures

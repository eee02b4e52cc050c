use Rattle.listing.proofs.TellLaws.{tell_none, spoken, tell_short, tell_written}
use Rattle.listing.proofs.bytes.tell.Goals as goal

pub returns-then-count-position : goal.returns-then-count-position
returns-then-count-position c = λ settings held. tell_none settings held c.args.position c.args.text.now c.if-count-position.true

pub put_message-length-requires : goal.put_message-length-requires
put_message-length-requires c = spoken c.requires.0.0 c.requires.0.1 c.requires.1 c.args.position c.if-count-position.false

pub returns-then-room-length : goal.returns-then-room-length
returns-then-room-length c =
    λ settings held. tell_short settings held c.requires.1 c.args.position c.if-count-position.false c.args.text.now c.put_message-length.auto.out
    c.put_message-length.ensures c.if-room-length.true

pub put_message-requires : goal.put_message-requires
put_message-requires c = spoken c.requires.0.0 c.requires.0.1 c.requires.1 c.args.position c.if-count-position.false

pub returns : goal.returns
returns c =
    λ settings held. tell_written settings held c.requires.1 c.args.position c.if-count-position.false c.args.text.now _ c.put_message-length.auto.out
    c.put_message-length.ensures c.if-room-length.false c.put_message.ensures

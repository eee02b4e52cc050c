-- The name lies inside the text (`call_inside`), and is the one that the record says (`call_read`).
use Rattle.messages.proofs.NameLaws.{call_inside, call_read}
use Rattle.messages.proofs.call_name.Goals as goal

pub name_in-requires : goal.name_in-requires
name_in-requires c =
    call_inside c.args.accepted.now.law.indexed c.requires c.term_word-start.ensures c.term_word-len.ensures c.text.ensures c.args.accepted.now.accepted.fields

pub returns : goal.returns
returns c =
    call_read c.args.accepted.now.law.indexed c.requires c.term_word-start.ensures c.term_word-len.ensures c.text.ensures c.name_in.ensures

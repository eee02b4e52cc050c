-- The records inside a record are term records (`record_inside`).
use Rattle.std.proofs.Common.{arith}
use Rattle.law.proofs.IndexLaws.{terms_limit}
use Rattle.sentences.proofs.SentenceLaws.{argument_ends, argument_is}
use Rattle.sentences.proofs.argument_of.Goals as goal

pub overflow_add-term : goal.overflow_add-term
overflow_add-term c = omega (arith, terms_limit _ _ c.args.accepted.now.law.indexed, c.requires)

pub records-requires : goal.records-requires
records-requires c = let a = c.args.accepted.now in argument_ends _ _ a.law.indexed a.accepted _ _ c.requires c.term_word-n.ensures

pub returns : goal.returns
returns c = let a = c.args.accepted.now in argument_is _ _ a.law.indexed a.accepted _ _ _ c.term_word-n.ensures c.records.ensures

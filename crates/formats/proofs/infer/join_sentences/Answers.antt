use Rattle.std.proofs.Common.{arith, refl}
use Rattle.std.proofs.lemmas.Result.{err_from_is_err_and}
use Rattle.law.proofs.IndexLaws.{sentences_limit}
use Rattle.formats.proofs.SentenceLaws.{rows_start, rows_format, rows_refused, made_format, rows_more, rows_all}
use Rattle.formats.proofs.TurnLaws.{lent_length}
use Rattle.formats.proofs.infer.join_sentences.Goals as goal

pub loop-i-init : goal.loop-i-init
loop-i-init c =
    let placed = c.args.placed.now in
    (rw c.width.ensures (lent_length placed.limit placed.small), rows_start placed.small c.requires.2)

pub overflow_add-first : goal.overflow_add-first
overflow_add-first c = omega (arith, c.requires.1, sentences_limit _ _ c.args.placed.now.law.indexed)

pub returns-in_err-sentence_format : goal.returns-in_err-sentence_format
returns-in_err-sentence_format c =
    let p = err_from_is_err_and c.from_residual.result c.from_residual.ensures.1 in
    rw p.1 (rows_refused c.loop-i.invariant.1 c.sentence_format.ensures c.in_err-sentence_format.was c.args.placed.now.readable c.requires.1 c.loop-i-test.true)

pub join_into-requires : goal.join_into-requires
join_into-requires c = (
  c.args.placed.now.small,
  rows_format c.loop-i.invariant.1,
  made_format c.loop-i.invariant.1 c.sentence_format.ensures c.in_ok-sentence_format.was,
)

pub loop-i-preserved : goal.loop-i-preserved
loop-i-preserved c =
    let placed = c.args.placed.now in (
      c.sentence_format.ensures.kept,
      rows_more c.loop-i.invariant.1 c.sentence_format.ensures c.in_ok-sentence_format.was placed.small placed.readable c.requires.1 c.loop-i-test.true refl
          c.join_into.ensures,
    )

pub returns : goal.returns
returns c = rows_all c.loop-i.invariant.1 c.loop-i-test.false

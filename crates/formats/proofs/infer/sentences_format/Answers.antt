use Rattle.std.proofs.Common.{length, arith}
use Rattle.std.proofs.lemmas.Result.{err_from_is_err_and}
use Rattle.law.proofs.IndexLaws.{sentences_limit}
use Rattle.formats.proofs.SentenceLaws.{rows_none, first_refused, first_alone, first_format, first_joined}
use Rattle.formats.proofs.infer.sentences_format.Goals as goal

pub returns-then-number-eq0 : goal.returns-then-number-eq0
returns-then-number-eq0 c =
    rows_none _ _ _ _ _ _ (length c.args.out.now) c.if-number-eq0.true (c.fill.ensures.after (λ y e. e)) c.requires.2

pub returns-in_err-sentence_format : goal.returns-in_err-sentence_format
returns-in_err-sentence_format c =
    let p = err_from_is_err_and c.from_residual.result c.from_residual.ensures.1 in
    rw p.1 (first_refused _ _ _ _ _ _ c.sentence_format.ensures c.args.placed.now.readable c.requires.1 (omega (arith, c.if-number-eq0.false)) c.in_err-sentence_format.was)

pub returns-then-number-eq1 : goal.returns-then-number-eq1
returns-then-number-eq1 c =
    let placed = c.args.placed.now in
    first_alone _ _ _ _ _ _ c.sentence_format.ensures placed.readable c.requires.1 (omega (arith, c.if-number-eq0.false)) placed.small c.in_ok-sentence_format.was
    c.if-number-eq1.true

pub overflow_add-from : goal.overflow_add-from
overflow_add-from c = omega (arith, c.requires.1, sentences_limit _ _ c.args.placed.now.law.indexed)

pub join_sentences-requires : goal.join_sentences-requires
join_sentences-requires c =
    let placed = c.args.placed.now in (
      c.requires.0,
      omega (arith, c.if-number-eq0.false, c.requires.1),
      first_format _ _ _ _ _ _ c.sentence_format.ensures placed.readable c.requires.1 (omega (arith, c.if-number-eq0.false)) placed.small c.in_ok-sentence_format.was,
    )

pub returns : goal.returns
returns c =
    let placed = c.args.placed.now in
    first_joined _ _ _ _ _ _ c.sentence_format.ensures placed.readable c.requires.1 (omega (arith, c.if-number-eq0.false)) placed.small c.in_ok-sentence_format.was
    _ _ c.join_sentences.ensures

use Rattle.std.proofs.Common.{arith, sym, ◌∙◌}
use Rattle.file.specs.Sections.{file_of}
use Rattle.law.proofs.Allowed.{accepted_readable}
use Rattle.lints.proofs.RecognitionLaws.{argument_literal, function_few, matches_start, matches_here, matches_next, matches_end}
use Rattle.lints.proofs.recognition.some_matches.Goals as goal

pub first_sentence-s-requires : goal.first_sentence-s-requires
first_sentence-s-requires c = omega (arith, function_few c.args.accepted.now.law.indexed c.args.f c.requires.f_bound.0)

pub overflow_add-f : goal.overflow_add-f
overflow_add-f c = omega (arith, function_few c.args.accepted.now.law.indexed c.args.f c.requires.f_bound.0)

pub first_sentence-s-end-requires : goal.first_sentence-s-end-requires
first_sentence-s-end-requires c = function_few c.args.accepted.now.law.indexed c.args.f c.requires.f_bound.0

pub loop-s-init : goal.loop-s-init
loop-s-init c = matches_start c.args.accepted.now.law.indexed c.args.f c.requires.f_bound.0 _ _ c.first_sentence-s.ensures c.first_sentence-s-end.ensures

pub sentence_matches-requires : goal.sentence_matches-requires
sentence_matches-requires c = (
  omega (arith, c.loop-s-test.true, c.loop-s.invariant.few),
  c.requires.f_bound.1,
  sym (argument_literal (file_of c.args.accepted.now.law.bytes.now) c.args.t) ∙ c.requires.f_bound.2,
)

pub returns-then-sentence_matches : goal.returns-then-sentence_matches
returns-then-sentence_matches c =
    matches_here c.args.t c.loop-s.invariant (accepted_readable _ c.args.accepted.now.accepted) c.loop-s-test.true c.sentence_matches.ensures c.if-sentence_matches.true

pub loop-s-preserved : goal.loop-s-preserved
loop-s-preserved c =
    matches_next c.args.t c.loop-s.invariant (accepted_readable _ c.args.accepted.now.accepted) c.loop-s-test.true c.sentence_matches.ensures c.if-sentence_matches.false

pub returns : goal.returns
returns c = matches_end c.args.t c.loop-s.invariant (accepted_readable _ c.args.accepted.now.accepted) c.loop-s-test.false

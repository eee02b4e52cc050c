-- The way through a run, its first term, a pattern, sentences, one sentence and its conditions, by a law of proofs/WalkSteps.antt for each return.
use Rattle.std.proofs.Common.{◌-◌, refl, ap, ◌∙◌, arith}
use Rattle.file.specs.Sections.{file_of}
use Rattle.law.specs.Places.{conditions_of, first_condition}
use Rattle.law.specs.Code.Terms.{sentences_in}
use Rattle.lints.specs.Code.Records.{formats_in}
use Rattle.findings.specs.Code.Events.{sink_of}
use Rattle.findings.proofs.Prepared.{prepared}
use Rattle.findings.proofs.WalkSteps as steps
use Rattle.findings.proofs.walk.+walk_conditions_walk_pattern_walk_run_walk_sentence_walk_sentences_walk_term.Goals as goal

pub walk_conditions-first_condition-first-requires :
    goal.walk_conditions-first_condition-first-requires
walk_conditions-first_condition-first-requires t c = omega (arith, steps.sentences_small (prepared c.args.way.now), c.requires)

pub walk_conditions-first_condition-requires : goal.walk_conditions-first_condition-requires
walk_conditions-first_condition-requires t c = omega (arith, steps.sentences_small (prepared c.args.way.now), c.requires)

pub walk_conditions-overflow_sub-count : goal.walk_conditions-overflow_sub-count
walk_conditions-overflow_sub-count t c =
    let the_first_condition = c.first_condition-first in
    let the_first_condition2 = c.first_condition in
    omega (
      arith,
      steps.conditions_first_reads (prepared c.args.way.now) c.args.s c.requires the_first_condition.result
          the_first_condition.ensures,
      steps.conditions_next_reads (prepared c.args.way.now) c.args.s c.requires the_first_condition2.result
          the_first_condition2.ensures,
    )

pub walk_conditions-loop-i-init : goal.walk_conditions-loop-i-init
walk_conditions-loop-i-init t c =
    let before = sink_of c.args.tally c.args.out.now in
    let file = file_of c.args.way.now.formats.now.law.law.bytes.now in
    let formats = formats_in file c.args.way.now.task.limit c.args.way.now.formats.now.store.now in
    let the_first_condition = c.first_condition-first in
    let the_first_condition2 = c.first_condition in
    let count = the_first_condition2.result - the_first_condition.result in
    let first = the_first_condition.result in
    let read = steps.conditions_first_reads (prepared c.args.way.now) _ c.requires _ the_first_condition.ensures in
    let counted = steps.conditions_count (prepared c.args.way.now) _ c.requires _ _ the_first_condition.ensures the_first_condition2.ensures in
    (read, counted, omega arith, refl, steps.conditions_start_lem file formats c.args.way.now.task c.args.s count first before read counted)

pub walk_conditions-condition_result_at-at-requires :
    goal.walk_conditions-condition_result_at-at-requires
walk_conditions-condition_result_at-at-requires t c =
    let asked = (prepared c.args.way.now).asked in
    let the_loop = c.loop-i in
    let the_loop_test = c.loop-i-test in (
      c.requires,
      steps.condition_inside (prepared c.args.way.now) _ c.requires _ _ _ the_loop.invariant.0
          the_loop.invariant.1 the_loop_test.true,
    )

pub walk_conditions-walk_run-left-requires : goal.walk_conditions-walk_run-left-requires
walk_conditions-walk_run-left-requires t c =
    let the_loop = c.loop-i in
    let the_loop_test = c.loop-i-test in
    let the_condition_result_at = c.condition_result_at-at in
    let the_condition_result = c.condition_result-part in (
      steps.asked_falls (prepared c.args.way.now) _ c.requires _ _ _ the_loop.invariant.0 the_loop.invariant.1 the_loop_test.true
          the_condition_result_at.result t the_condition_result.result.now the_condition_result_at.ensures the_condition_result.ensures c.decreases,
      steps.condition_result_reads (prepared c.args.way.now) _ c.requires _ _ _ the_loop.invariant.0 the_loop.invariant.1 the_loop_test.true
          the_condition_result_at.result the_condition_result.result.now the_condition_result_at.ensures the_condition_result.ensures,
    )

pub walk_conditions-condition_result_size-requires :
    goal.walk_conditions-condition_result_size-requires
walk_conditions-condition_result_size-requires t c =
    let asked = (prepared c.args.way.now).asked in
    let the_loop = c.loop-i in
    let the_loop_test = c.loop-i-test in
    (steps.condition_inside (prepared c.args.way.now) _ c.requires _ _ _ the_loop.invariant.0 the_loop.invariant.1 the_loop_test.true)

pub walk_conditions-overflow_add-next : goal.walk_conditions-overflow_add-next
walk_conditions-overflow_add-next t c =
    let the_loop = c.loop-i in
    let the_loop_test = c.loop-i-test in
    let the_condition_result_at = c.condition_result_at-at in
    let the_condition_result_size = c.condition_result_size in
    omega (
      arith,
      steps.condition_pattern_small (prepared c.args.way.now) _ c.requires _ _ _ the_loop.invariant.0 the_loop.invariant.1 the_loop_test.true
          the_condition_result_at.result the_condition_result_size.result the_condition_result_at.ensures the_condition_result_size.ensures,
    )

pub walk_conditions-walk_pattern-so_far-requires :
    goal.walk_conditions-walk_pattern-so_far-requires
walk_conditions-walk_pattern-so_far-requires t c =
    let the_loop = c.loop-i in
    let the_loop_test = c.loop-i-test in
    let the_condition_result_at = c.condition_result_at-at in
    let the_condition_result_size = c.condition_result_size in
    let the_condition_pattern = c.condition_pattern-whole in (
      steps.wanted_falls (prepared c.args.way.now) _ c.requires _ _ _ the_loop.invariant.0 the_loop.invariant.1 the_loop_test.true
          the_condition_result_at.result the_condition_result_size.result t the_condition_pattern.result.now the_condition_result_at.ensures
          the_condition_result_size.ensures the_condition_pattern.ensures c.decreases,
      steps.condition_pattern_reads (prepared c.args.way.now) _ c.requires _ _ _ the_loop.invariant.0 the_loop.invariant.1 the_loop_test.true
          the_condition_result_at.result the_condition_result_size.result the_condition_pattern.result.now the_condition_result_at.ensures
          the_condition_result_size.ensures the_condition_pattern.ensures,
    )

pub walk_conditions-loop-i-preserved : goal.walk_conditions-loop-i-preserved
walk_conditions-loop-i-preserved t c =
    let task = c.args.way.now.task in
    let before = sink_of c.args.tally c.args.out.now in
    let file = file_of c.args.way.now.formats.now.law.law.bytes.now in
    let formats = formats_in file c.args.way.now.task.limit c.args.way.now.formats.now.store.now in
    let the_loop = c.loop-i in
    let the_loop_test = c.loop-i-test in
    let the_walk_pattern = c.walk_pattern-so_far in
    let out-after-pattern = the_walk_pattern.new.out in
    let out-kept-by-pattern = the_walk_pattern.auto.out in
    let the_walk_run = c.walk_run-left in
    let out-after-run = the_walk_run.new.out in
    let out-kept-by-run = the_walk_run.auto.out in
    let the_first_condition2 = c.first_condition in
    let the_first_condition = c.first_condition-first in
    let count = the_first_condition2.result - the_first_condition.result in
    let the_condition_result_at = c.condition_result_at-at in
    let the_condition_result_size = c.condition_result_size in
    let the_condition_result = c.condition_result-part in
    let the_condition_pattern = c.condition_pattern-whole in (
      the_loop.invariant.0,
      the_loop.invariant.1,
      omega (arith, the_loop_test.true),
      out-kept-by-pattern ∙ out-kept-by-run ∙ the_loop.invariant.3,
      steps.conditions_next file formats task c.args.s count the_first_condition.result the_loop.i the_condition_result_at.result
          the_condition_result_size.result the_condition_result.result.now the_condition_pattern.result.now
          (steps.after file formats task before (steps.conditions_met file formats task c.args.s (conditions_of file c.args.s)
          (first_condition file c.args.s))) (sink_of the_loop.so_far the_loop.out) (sink_of the_walk_run.result out-after-run)
          (sink_of the_walk_pattern.result out-after-pattern) the_loop_test.true the_condition_result_at.ensures the_condition_result.ensures
          the_condition_result_size.ensures the_condition_pattern.ensures the_loop.invariant.4 the_walk_run.ensures the_walk_pattern.ensures,
    )

pub walk_conditions-returns : goal.walk_conditions-returns
walk_conditions-returns t c =
    let task = c.args.way.now.task in
    let before = sink_of c.args.tally c.args.out.now in
    let file = file_of c.args.way.now.formats.now.law.law.bytes.now in
    let formats = formats_in file c.args.way.now.task.limit c.args.way.now.formats.now.store.now in
    let the_first_condition2 = c.first_condition in
    let the_first_condition = c.first_condition-first in
    let count = the_first_condition2.result - the_first_condition.result in
    let the_loop = c.loop-i in
    let the_loop_test = c.loop-i-test in
    steps.conditions_end file formats task c.args.s count the_first_condition.result the_loop.i
    (steps.after file formats task before (steps.conditions_met file formats task c.args.s (conditions_of file c.args.s)
    (first_condition file c.args.s))) (sink_of the_loop.so_far the_loop.out) the_loop_test.false the_loop.invariant.4

pub walk_pattern-returns-in-Dead : goal.walk_pattern-returns-in-Dead
walk_pattern-returns-in-Dead t c =
    let before = sink_of c.args.tally c.args.out.now in
    let file = file_of c.args.way.now.formats.now.law.law.bytes.now in
    let formats = formats_in file c.args.way.now.task.limit c.args.way.now.formats.now.store.now in
    steps.pattern_walked file formats c.args.way.now.task c.args.at c.args.part.now before _ (steps.is_dead_lint c.in-Dead.is) c.walk_run.ensures

pub walk_pattern-returns-in_default : goal.walk_pattern-returns-in_default
walk_pattern-returns-in_default t c =
    let before = sink_of c.args.tally c.args.out.now in
    let file = file_of c.args.way.now.formats.now.law.law.bytes.now in
    let formats = formats_in file c.args.way.now.task.limit c.args.way.now.formats.now.store.now in
    steps.pattern_passed file formats c.args.way.now.task c.args.at c.args.part.now before (steps.not_dead_lint _ c.in_default.not-Dead)

pub walk_pattern-walk_run-requires : goal.walk_pattern-walk_run-requires
walk_pattern-walk_run-requires t c = (steps.run_less (file_of c.args.way.now.formats.now.law.law.bytes.now) c.args.at t c.args.part.now c.decreases, c.requires)

pub walk_run-loop-i-init : goal.walk_run-loop-i-init
walk_run-loop-i-init t c =
    let before = sink_of c.args.tally c.args.out.now in
    let file = file_of c.args.way.now.formats.now.law.law.bytes.now in
    let formats = formats_in file c.args.way.now.task.limit c.args.way.now.formats.now.store.now in
    (refl, steps.left_start file formats c.args.way.now.task c.args.at c.args.part.now before c.requires)

pub walk_run-word_at-requires : goal.walk_run-word_at-requires
walk_run-word_at-requires t c =
    let asked = (prepared c.args.way.now).asked in
    omega (arith, steps.left_more c.loop-i.invariant.1 asked.readable c.loop-i-test.true)

pub walk_run-loop-i-preserved-then-word_at-lt6 : goal.walk_run-loop-i-preserved-then-word_at-lt6
walk_run-loop-i-preserved-then-word_at-lt6 t c =
    let the_loop = c.loop-i in
    let readable = (prepared c.args.way.now).asked.readable in
    let the_word_at = c.word_at in (
      the_loop.invariant.0,
      steps.leaf_next the_loop.invariant.1 (steps.left_more the_loop.invariant.1 readable c.loop-i-test.true) readable
          c.requires the_word_at.result the_word_at.ensures c.if-word_at-lt6.true,
    )

pub walk_run-walk_term-so_far-requires : goal.walk_run-walk_term-so_far-requires
walk_run-walk_term-so_far-requires t c =
    let the_loop_test = c.loop-i-test in
    let asked = (prepared c.args.way.now).asked in
    let the_left = c.loop-i.invariant.1 in
    let more = steps.left_more the_left asked.readable the_loop_test.true in
    (steps.first_less the_left more t c.decreases, (the_left.part, steps.left_some the_left more))

pub walk_run-end_of-i-requires : goal.walk_run-end_of-i-requires
walk_run-end_of-i-requires t c =
    let the_loop_test = c.loop-i-test in
    let asked = (prepared c.args.way.now).asked in
    let the_left = c.loop-i.invariant.1 in
    steps.left_some the_left (steps.left_more the_left asked.readable the_loop_test.true)

pub walk_run-loop-i-preserved : goal.walk_run-loop-i-preserved
walk_run-loop-i-preserved t c =
    let the_loop_test = c.loop-i-test in
    let the_loop = c.loop-i in
    let readable = (prepared c.args.way.now).asked.readable in
    let more = steps.left_more the_loop.invariant.1 readable the_loop_test.true in
    let the_walk_term = c.walk_term-so_far in
    let out-after = the_walk_term.new.out in
    let out-kept = the_walk_term.auto.out in (
      out-kept ∙ the_loop.invariant.0,
      steps.left_next the_loop.invariant.1 more readable c.requires c.end_of-i.result (sink_of the_walk_term.result out-after) c.end_of-i.ensures.0
          the_walk_term.ensures,
    )

pub walk_run-returns : goal.walk_run-returns
walk_run-returns t c = steps.left_end c.loop-i.invariant.1 c.loop-i-test.false

pub walk_sentence-walk_pattern-left-requires : goal.walk_sentence-walk_pattern-left-requires
walk_sentence-walk_pattern-left-requires t c =
    let file = file_of c.args.way.now.formats.now.law.law.bytes.now in
    let asked = (prepared c.args.way.now).asked in
    let the_pattern_at = c.pattern_at-at in
    let the_pattern = c.pattern-first in (
      steps.pattern_less file asked.readable c.args.s the_pattern_at.result t the_pattern.result.now c.requires
          the_pattern_at.ensures the_pattern.ensures c.decreases,
      steps.pattern_reads (prepared c.args.way.now) c.args.s c.requires the_pattern_at.result the_pattern.result.now
          the_pattern_at.ensures the_pattern.ensures,
    )

pub walk_sentence-walk_conditions-asked-requires :
    goal.walk_sentence-walk_conditions-asked-requires
walk_sentence-walk_conditions-asked-requires t c =
    let file = file_of c.args.way.now.formats.now.law.law.bytes.now in
    let asked = (prepared c.args.way.now).asked in
    (steps.conditions_less file asked.readable c.args.s t c.requires c.decreases, c.requires)

pub walk_sentence-walk_run-requires : goal.walk_sentence-walk_run-requires
walk_sentence-walk_run-requires t c =
    let file = file_of c.args.way.now.formats.now.law.law.bytes.now in
    let asked = (prepared c.args.way.now).asked in
    let the_result_at = c.result_at-next in
    let the_result = c.result-last in (
      steps.result_less file asked.readable c.args.s the_result_at.result t the_result.result.now c.requires the_result_at.ensures
          the_result.ensures c.decreases,
      steps.result_reads (prepared c.args.way.now) c.args.s c.requires the_result_at.result the_result.result.now
          the_result_at.ensures the_result.ensures,
    )

pub walk_sentence-returns : goal.walk_sentence-returns
walk_sentence-returns t c =
    let before = sink_of c.args.tally c.args.out.now in
    let file = file_of c.args.way.now.formats.now.law.law.bytes.now in
    let formats = formats_in file c.args.way.now.task.limit c.args.way.now.formats.now.store.now in
    let asked = (prepared c.args.way.now).asked in
    let the_pattern_at = c.pattern_at-at in
    let the_result_at = c.result_at-next in
    let the_pattern = c.pattern-first in
    let the_result = c.result-last in
    let the_walk_pattern = c.walk_pattern-left in
    let out-after-pattern = the_walk_pattern.new.out in
    let the_walk_conditions = c.walk_conditions-asked in
    let out-after-conditions = the_walk_conditions.new.out in
    let the_walk_run = c.walk_run in
    let out-after-run = the_walk_run.new.out in
    steps.sentence_steps file formats c.args.way.now.task asked.readable c.args.s the_pattern_at.result the_result_at.result
    the_pattern.result.now the_result.result.now before (sink_of the_walk_pattern.result out-after-pattern)
    (sink_of the_walk_conditions.result out-after-conditions) (sink_of the_walk_run.result out-after-run) c.requires the_pattern_at.ensures
    the_pattern.ensures the_result_at.ensures the_result.ensures the_walk_pattern.ensures the_walk_conditions.ensures the_walk_run.ensures

pub walk_sentences-loop-i-init : goal.walk_sentences-loop-i-init
walk_sentences-loop-i-init t c =
    let before = sink_of c.args.tally c.args.out.now in
    let file = file_of c.args.way.now.formats.now.law.law.bytes.now in
    let formats = formats_in file c.args.way.now.task.limit c.args.way.now.formats.now.store.now in
    (omega arith, refl, steps.sentences_start_lem file formats c.args.way.now.task c.args.count c.args.first before)

pub walk_sentences-walk_sentence-so_far-requires :
    goal.walk_sentences-walk_sentence-so_far-requires
walk_sentences-walk_sentence-so_far-requires t c =
    let file = file_of c.args.way.now.formats.now.law.law.bytes.now in
    let asked = (prepared c.args.way.now).asked in
    let the_loop = c.loop-i in
    let the_loop_test = c.loop-i-test in (
      steps.sentence_less file asked.readable c.args.count c.args.first the_loop.i t the_loop_test.true c.requires
          c.decreases,
      omega (arith, c.requires, the_loop_test.true),
    )

pub walk_sentences-loop-i-preserved : goal.walk_sentences-loop-i-preserved
walk_sentences-loop-i-preserved t c =
    let task = c.args.way.now.task in
    let before = sink_of c.args.tally c.args.out.now in
    let file = file_of c.args.way.now.formats.now.law.law.bytes.now in
    let formats = formats_in file c.args.way.now.task.limit c.args.way.now.formats.now.store.now in
    let asked = (prepared c.args.way.now).asked in
    let the_loop_test = c.loop-i-test in
    let the_walk_sentence = c.walk_sentence-so_far in
    let out-after = the_walk_sentence.new.out in
    let out-kept = the_walk_sentence.auto.out in
    let the_loop = c.loop-i in (
      omega (arith, the_loop_test.true),
      out-kept ∙ the_loop.invariant.1,
      steps.sentences_next file formats task asked.readable c.args.count c.args.first the_loop.i
          (steps.after file formats task before (steps.sentences_met file formats task c.args.count c.args.first))
          (sink_of the_loop.so_far the_loop.out) (sink_of the_walk_sentence.result out-after) the_loop_test.true c.requires the_loop.invariant.2
          the_walk_sentence.ensures,
    )

pub walk_sentences-returns : goal.walk_sentences-returns
walk_sentences-returns t c =
    let task = c.args.way.now.task in
    let before = sink_of c.args.tally c.args.out.now in
    let file = file_of c.args.way.now.formats.now.law.law.bytes.now in
    let formats = formats_in file c.args.way.now.task.limit c.args.way.now.formats.now.store.now in
    let the_loop = c.loop-i in
    let the_loop_test = c.loop-i-test in
    steps.sentences_end file formats task c.args.count c.args.first the_loop.i
    (steps.after file formats task before (steps.sentences_met file formats task c.args.count c.args.first))
    (sink_of the_loop.so_far the_loop.out) the_loop_test.false the_loop.invariant.2

pub walk_term-walk_run-walked-requires : goal.walk_term-walk_run-walked-requires
walk_term-walk_run-walked-requires t c =
    let file = file_of c.args.way.now.formats.now.law.law.bytes.now in
    let asked = (prepared c.args.way.now).asked in
    let the_end_of = c.end_of in (
      steps.inside_less file asked.readable c.args.at the_end_of.result t c.args.part.now c.requires.0 c.requires.1
          the_end_of.ensures.0 c.decreases,
      (steps.inside_part (prepared c.args.way.now) _ _ c.requires.0 c.requires.1 the_end_of.result the_end_of.ensures.0),
    )

pub walk_term-returns-then-count-eq0 : goal.walk_term-returns-then-count-eq0
walk_term-returns-then-count-eq0 t c =
    let before = sink_of c.args.tally c.args.out.now in
    let file = file_of c.args.way.now.formats.now.law.law.bytes.now in
    let formats = formats_in file c.args.way.now.task.limit c.args.way.now.formats.now.store.now in
    let asked = (prepared c.args.way.now).asked in
    let the_sentences_in = c.sentences_in-count in
    let the_term_at = c.term_at in
    let the_walk_run = c.walk_run-walked in
    let out-after-run = the_walk_run.new.out in
    let the_end_of = c.end_of in
    let the_note_call = c.note_call-called in
    let out-after-call = the_note_call.new.out in
    steps.term_ends file formats c.args.way.now.task asked.readable c.args.at the_end_of.result the_sentences_in.result
    c.args.part.now before (sink_of the_note_call.result out-after-call) (sink_of the_walk_run.result out-after-run) c.requires.0
    c.requires.1 the_end_of.ensures.0 (the_sentences_in.ensures ∙ ap sentences_in the_term_at.ensures) c.if-count-eq0.true
    the_note_call.ensures the_walk_run.ensures

pub walk_term-block_first-first-requires : goal.walk_term-block_first-first-requires
walk_term-block_first-first-requires t c = steps.at_small (prepared c.args.way.now) _ _ c.requires.0 c.requires.1

pub walk_term-note_block-own-requires : goal.walk_term-note_block-own-requires
walk_term-note_block-own-requires t c =
    let asked = (prepared c.args.way.now).asked in
    let the_block_first = c.block_first-first in
    let the_sentences_in = c.sentences_in-count in
    let the_term_at = c.term_at in
    steps.block_inside (prepared c.args.way.now) _ _ c.requires.0 c.requires.1 the_block_first.result the_sentences_in.result
    the_block_first.ensures (the_sentences_in.ensures ∙ ap sentences_in the_term_at.ensures)

pub walk_term-walk_sentences-requires : goal.walk_term-walk_sentences-requires
walk_term-walk_sentences-requires t c =
    let file = file_of c.args.way.now.formats.now.law.law.bytes.now in
    let asked = (prepared c.args.way.now).asked in
    let the_block_first = c.block_first-first in
    let the_sentences_in = c.sentences_in-count in
    let the_term_at = c.term_at in (
      steps.entered_less file asked.readable c.args.at the_sentences_in.result the_block_first.result t c.args.part.now
          c.requires.0 c.requires.1 (the_sentences_in.ensures ∙ ap sentences_in the_term_at.ensures) (steps.block_reads (prepared c.args.way.now) _ _
          c.requires.0 c.requires.1 the_block_first.result the_block_first.ensures) c.decreases,
      steps.block_inside (prepared c.args.way.now) _ _ c.requires.0 c.requires.1 the_block_first.result the_sentences_in.result
          the_block_first.ensures (the_sentences_in.ensures ∙ ap sentences_in the_term_at.ensures),
    )

pub walk_term-returns : goal.walk_term-returns
walk_term-returns t c =
    let before = sink_of c.args.tally c.args.out.now in
    let file = file_of c.args.way.now.formats.now.law.law.bytes.now in
    let formats = formats_in file c.args.way.now.task.limit c.args.way.now.formats.now.store.now in
    let asked = (prepared c.args.way.now).asked in
    let the_walk_sentences = c.walk_sentences in
    let out-after-sentences = the_walk_sentences.new.out in
    let the_note_block = c.note_block-own in
    let out-after-block = the_note_block.new.out in
    let the_block_first = c.block_first-first in
    let the_sentences_in = c.sentences_in-count in
    let the_term_at = c.term_at in
    let the_walk_run = c.walk_run-walked in
    let out-after-run = the_walk_run.new.out in
    let the_end_of = c.end_of in
    let the_note_call = c.note_call-called in
    let out-after-call = the_note_call.new.out in
    steps.term_steps file formats c.args.way.now.task asked.readable c.args.at the_end_of.result the_sentences_in.result
    the_block_first.result c.args.part.now before (sink_of the_note_call.result out-after-call) (sink_of the_walk_run.result out-after-run)
    (sink_of the_note_block.result out-after-block) (sink_of the_walk_sentences.result out-after-sentences) c.requires.0 c.requires.1
    the_end_of.ensures.0 (the_sentences_in.ensures ∙ ap sentences_in the_term_at.ensures)
    (steps.block_reads (prepared c.args.way.now) _ _ c.requires.0 c.requires.1 the_block_first.result the_block_first.ensures)
    the_note_call.ensures the_walk_run.ensures the_note_block.ensures the_walk_sentences.ensures

pub walk_conditions-overflow_add-s : goal.walk_conditions-overflow_add-s
walk_conditions-overflow_add-s t c = omega (arith, steps.sentences_small (prepared c.args.way.now), c.requires)

pub walk_run-overflow_add-t : goal.walk_run-overflow_add-t
walk_run-overflow_add-t t c =
    let asked = (prepared c.args.way.now).asked in
    let the_left = c.loop-i.invariant.1 in
    let more = steps.left_more the_left asked.readable c.loop-i-test.true in
    omega (arith, steps.at_small (prepared c.args.way.now) _ _ the_left.part (steps.left_some the_left more))

pub walk_sentences-overflow_add-first : goal.walk_sentences-overflow_add-first
walk_sentences-overflow_add-first t c = omega (arith, steps.sentences_small (prepared c.args.way.now), c.requires, c.loop-i-test.true)

pub walk_term-overflow_add-at : goal.walk_term-overflow_add-at
walk_term-overflow_add-at t c = omega (arith, steps.at_small (prepared c.args.way.now) _ _ c.requires.0 c.requires.1)

-- The measure is eight times the size of the tree that is left, and up to six more, so that a function may hand all of it on to one further down.
use Rattle.std.proofs.Common.{length, ◌+◌, ◌-◌, ◌≡◌, ◌≤◌}
use Rattle.file.specs.Sections.{file_of}
use Rattle.law.specs.Places.{conditions_of, first_condition}
use Rattle.lints.specs.Code.Records.{formats_in}
use Rattle.findings.specs.Code.Events.{sink_of}
use Rattle.findings.proofs.WalkSteps as steps
use Rattle.findings.proofs.walk.+walk_conditions_walk_pattern_walk_run_walk_sentence_walk_sentences_walk_term.Given as goal

abbrev pub decreases-walk_conditions : goal.decreases-walk_conditions
decreases-walk_conditions l = steps.conditions_work (file_of l.way.now.formats.now.law.law.bytes.now) l.s

abbrev pub decreases-walk_pattern : goal.decreases-walk_pattern
decreases-walk_pattern l = steps.pattern_work (file_of l.way.now.formats.now.law.law.bytes.now) l.at l.part.now

abbrev pub decreases-walk_run : goal.decreases-walk_run
decreases-walk_run l = steps.run_work (file_of l.way.now.formats.now.law.law.bytes.now) l.at l.part.now

abbrev pub decreases-walk_sentence : goal.decreases-walk_sentence
decreases-walk_sentence l = steps.sentence_work (file_of l.way.now.formats.now.law.law.bytes.now) l.s

abbrev pub decreases-walk_sentences : goal.decreases-walk_sentences
decreases-walk_sentences l = steps.sentences_work (file_of l.way.now.formats.now.law.law.bytes.now) l.count l.first

abbrev pub decreases-walk_term : goal.decreases-walk_term
decreases-walk_term l = steps.term_work (file_of l.way.now.formats.now.law.law.bytes.now) l.at l.part.now

abbrev pub invariant-walk_conditions-loop-i : goal.invariant-walk_conditions-loop-i
invariant-walk_conditions-loop-i l =
    (l.first ≡ first_condition (file_of l.way.formats.now.law.law.bytes.now) l.s)
    × (l.count ≡ conditions_of (file_of l.way.formats.now.law.law.bytes.now) l.s)
    × (l.i ≤ l.count)
    × (length l.out ≡ length l.initial.out)
    × (steps.after (file_of l.way.formats.now.law.law.bytes.now) (formats_in (file_of l.way.formats.now.law.law.bytes.now) l.way.task.limit l.way.formats.now.store.now) l.way.task (sink_of l.initial.so_far l.initial.out)
    (steps.conditions_met (file_of l.way.formats.now.law.law.bytes.now) (formats_in (file_of l.way.formats.now.law.law.bytes.now) l.way.task.limit l.way.formats.now.store.now) l.way.task l.s (conditions_of (file_of l.way.formats.now.law.law.bytes.now) l.s) (first_condition (file_of l.way.formats.now.law.law.bytes.now) l.s))
    ≡ steps.after (file_of l.way.formats.now.law.law.bytes.now) (formats_in (file_of l.way.formats.now.law.law.bytes.now) l.way.task.limit l.way.formats.now.store.now) l.way.task (sink_of l.so_far l.out)
    (steps.conditions_met (file_of l.way.formats.now.law.law.bytes.now) (formats_in (file_of l.way.formats.now.law.law.bytes.now) l.way.task.limit l.way.formats.now.store.now) l.way.task l.s (l.count - l.i) (l.first + l.i)))

abbrev pub decreases-walk_conditions-loop-i : goal.decreases-walk_conditions-loop-i
decreases-walk_conditions-loop-i l = l.count - l.i

abbrev pub invariant-walk_run-loop-i : goal.invariant-walk_run-loop-i
invariant-walk_run-loop-i l =
    (length l.out ≡ length l.initial.out)
    × steps.Left (file_of l.way.formats.now.law.law.bytes.now) (formats_in (file_of l.way.formats.now.law.law.bytes.now) l.way.task.limit l.way.formats.now.store.now) l.way.task l.at l.part (sink_of l.initial.so_far l.initial.out) (sink_of l.so_far l.out) l.i

abbrev pub decreases-walk_run-loop-i : goal.decreases-walk_run-loop-i
decreases-walk_run-loop-i l = length l.part - l.i

abbrev pub invariant-walk_sentences-loop-i : goal.invariant-walk_sentences-loop-i
invariant-walk_sentences-loop-i l =
    (l.i ≤ l.count)
    × (length l.out ≡ length l.initial.out)
    × (steps.after (file_of l.way.formats.now.law.law.bytes.now) (formats_in (file_of l.way.formats.now.law.law.bytes.now) l.way.task.limit l.way.formats.now.store.now) l.way.task (sink_of l.initial.so_far l.initial.out)
    (steps.sentences_met (file_of l.way.formats.now.law.law.bytes.now) (formats_in (file_of l.way.formats.now.law.law.bytes.now) l.way.task.limit l.way.formats.now.store.now) l.way.task l.count l.first)
    ≡ steps.after (file_of l.way.formats.now.law.law.bytes.now) (formats_in (file_of l.way.formats.now.law.law.bytes.now) l.way.task.limit l.way.formats.now.store.now) l.way.task (sink_of l.so_far l.out)
    (steps.sentences_met (file_of l.way.formats.now.law.law.bytes.now) (formats_in (file_of l.way.formats.now.law.law.bytes.now) l.way.task.limit l.way.formats.now.store.now) l.way.task (l.count - l.i) (l.first + l.i)))

abbrev pub decreases-walk_sentences-loop-i : goal.decreases-walk_sentences-loop-i
decreases-walk_sentences-loop-i l = l.count - l.i

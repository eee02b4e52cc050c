-- What a way through a law meets, by the numbers of records, as contracts say it.
use Rattle.std.specs.Prelude.{ℕ, Bool, List, eqb}
use Rattle.file.specs.Sections.{File, file_of}
use Rattle.law.specs.Tree.{Law, keep}
use Rattle.law.specs.Places.{sentences_of, first_sentence}
use Rattle.law.specs.Reading.{run_of, own, sentences_at, tree_of}
use Rattle.formats.specs.Infer.{Formats}
use Rattle.matching.specs.Match.{when, each}
use Rattle.lints.specs.Builtin.{builtin_on}
use Rattle.lints.specs.Code.Records.{formats_in, call_at, conditions_at}
use Rattle.findings.specs.declared.way.Way.{Way}
use Rattle.findings.specs.Code.Events.{Event}
use Rattle.findings.specs.Code.Tasks as tasks
use Rattle.findings.specs.Code.Tasks.{number_of, remark_events, recognition_events, call_events, block_events, calls_at, run_events, term_events, inside_events}
use Rattle.findings.specs.Code.Tasks.{condition_events, function_events, lint_events}

-- its file, its law, and the formats of the law's names
abbrev pub file_in : Way → File
file_in w = file_of w.formats.now.law.law.bytes.now

abbrev pub law_in : Way → Law
law_in w = tree_of (file_in w)

abbrev pub formats_of : Way → Formats
formats_of w = formats_in (file_in w) w.task.limit w.formats.now.store.now

-- at the term record t, by lint 2, by lint 3, and by the task's lint
abbrev pub recognition_met : Way → ℕ → List Event
recognition_met w t = recognition_events (law_in w) (formats_of w) w.task (call_at (file_in w) t)

abbrev pub builtin_met : Way → ℕ → List Event
builtin_met w t = remark_events w.task (builtin_on (law_in w) (call_at (file_in w) t))

abbrev pub call_met : Way → ℕ → List Event
call_met w t = each (call_events (law_in w) (formats_of w) w.task) (calls_at (file_in w) t)

-- at a block's own sentences
abbrev pub block_met : Way → ℕ → ℕ → List Event
block_met w first count = block_events w.task (keep count (sentences_at (file_in w) first))

-- in a part of the term records whose first record is number `at`: as a run, in its first term, and as a pattern
abbrev pub run_met : Way → ℕ → List ℕ → List Event
run_met w at part = run_events (law_in w) (formats_of w) w.task (run_of (file_in w) (own (file_in w)) at part)

abbrev pub term_met : Way → ℕ → List ℕ → List Event
term_met w at part = term_events (law_in w) (formats_of w) w.task (run_of (file_in w) (own (file_in w)) at part)

abbrev pub pattern_met : Way → ℕ → List ℕ → List Event
pattern_met w at part = when (eqb (number_of w.task) 1) (run_met w at part)

-- in so many sentences from one on, and in a sentence's conditions
abbrev pub sentences_met : Way → ℕ → ℕ → List Event
sentences_met w first count = inside_events (law_in w) (formats_of w) w.task (keep count (sentences_at (file_in w) first))

abbrev pub conditions_met : Way → ℕ → List Event
conditions_met w s = condition_events (law_in w) (formats_of w) w.task (conditions_at (file_in w) s)

-- in the function f, and in all of them
abbrev pub function_met : Way → ℕ → List Event
function_met w f =
    function_events (law_in w) (formats_of w) w.task (keep (sentences_of (file_in w) f) (sentences_at (file_in w) (first_sentence (file_in w) f)))

abbrev pub law_met : Way → List Event
law_met w = lint_events (law_in w) (formats_of w) w.task

-- is nothing met inside the functions' sentences?
abbrev pub none_inside : Way → Bool
none_inside w = tasks.none_inside w.formats.now.law.law.index.now w.formats.now.slots.now (number_of w.task)

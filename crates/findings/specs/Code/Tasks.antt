-- What each lint meets, by the task that the code is given: the lint's number, the severity that its findings have, whether they are shown, the position
-- of the function that is gone through, the words that there is room for, and the most shapes of a format.
use Rattle.std.specs.Prelude.{ℕ, suc, ◌+◌, ◌*◌, Bool, not, cond, List, [], ◌∷◌, ◌++◌, map, get_or, eqb, ltb}
use Rattle.file.specs.Word.{word_at}
use Rattle.file.specs.Sections.{File}
use Rattle.law.specs.Tree.{Run, Sentences, Conditions, Law}
use Rattle.shapes.specs.Format.{size}
use Rattle.formats.specs.Infer.{Formats}
use Rattle.formats.specs.declared.slots.Slots.{Slots}
use Rattle.matching.specs.Match.{when}
use Rattle.lints.specs.Lint.{lint_number}
use Rattle.lints.specs.Code.Overrides.{lint_meant}
use Rattle.lints.specs.Finding.{word_a, word_b, eight_words, Remark}
use Rattle.lints.specs.Calls.{Call}
use Rattle.lints.specs.Dead.{own_dead, block_dead}
use Rattle.lints.specs.Recognition.{compared, passed, judged}
use Rattle.lints.specs.Builtin.{builtin_on}
use Rattle.lints.specs.Open.{open_in}
use Rattle.lints.specs.Code.Records.{call_at}
use Rattle.findings.specs.declared.Task.{Task}
use Rattle.findings.specs.declared.Note.{Note}
use Rattle.findings.specs.Code.Events.{Event, noting, too_wide}
use Rattle.findings.specs.Code.Walk.{walked, walked_term, walked_sentences, walked_conditions}

-- document 01's number of its lint
abbrev pub number_of : Task → ℕ
number_of task = lint_number (lint_meant task.lint)

-- the eight words of a finding
abbrev pub note_words : Task → Note → List ℕ
note_words task note = eight_words (number_of task) task.severity note.start note.end note.a note.b task.position note.subject

-- a remark, as the eight words of a finding
abbrev pub remark_event : Task → Remark → Event
remark_event task r =
    noting (eight_words (number_of task) task.severity r.subject.span_start r.subject.span_end (word_a r.claim) (word_b r.claim)
    task.position r.subject.at)

unfoldable pub remark_events : Task → List Remark → List Event
remark_events task rs = map (remark_event task) rs

-- ---- at a call, and at a block's own sentences

-- lint 2: refusal 10 comes before levels, so that it is met also where findings are hidden
unfoldable pub recognition_events : Law → Formats → Task → Call → List Event
recognition_events law formats task c =
    when (compared law c) (cond (ltb task.limit (size (passed formats c))) (too_wide ∷ []) (when task.shown (remark_events task (judged formats c))))

unfoldable pub call_events : Law → Formats → Task → Call → List Event
call_events law formats task c =
    cond (eqb (number_of task) 2) (recognition_events law formats task c)
    (when (eqb (number_of task) 3) (remark_events task (builtin_on law c)))

unfoldable pub block_events : Task → Sentences → List Event
block_events task ss = when (eqb (number_of task) 1) (remark_events task (block_dead ss))

-- the calls at a term record: one, where it is a call
abbrev pub calls_at : File → ℕ → List Call
calls_at file t = when (eqb (word_at file.terms.records (24 * t)) 7) (call_at file t ∷ [])

-- ---- in the law

-- in a run, in its first term, and in sentences
abbrev pub run_events : Law → Formats → Task → Run → List Event
run_events law formats task r = walked (call_events law formats task) (block_events task) (eqb (number_of task) 1) r

abbrev pub term_events : Law → Formats → Task → Run → List Event
term_events law formats task r = walked_term (call_events law formats task) (block_events task) (eqb (number_of task) 1) r

abbrev pub inside_events : Law → Formats → Task → Sentences → List Event
inside_events law formats task ss = walked_sentences (call_events law formats task) (block_events task) (eqb (number_of task) 1) ss

abbrev pub condition_events : Law → Formats → Task → Conditions → List Event
condition_events law formats task cs = walked_conditions (call_events law formats task) (block_events task) (eqb (number_of task) 1) cs

-- of a function: lint 1 begins with its own sentences; lint 4 looks only at these
unfoldable pub function_events : Law → Formats → Task → Sentences → List Event
function_events law formats task ss =
    cond (eqb (number_of task) 4) (remark_events task (open_in ss))
    (when (eqb (number_of task) 1) (remark_events task (own_dead ss)) ++ inside_events law formats task ss)

-- by the words of the index and the slots, and by a lint's number: the functions have all sentences, so that no block has any (lint 1); there is no call
-- (lints 2 and 3)
abbrev pub none_inside : List ℕ → Slots → ℕ → Bool
none_inside index slots lint = cond (eqb lint 1) (eqb (get_or index (8 + get_or index 4 0) 0) (get_or index 5 0)) (not slots.has_call)

-- a task at another position
abbrev pub at_position : Task → ℕ → Task
at_position task position = record {
  lint = task.lint;
  severity = task.severity;
  shown = task.shown;
  position = position;
  room = task.room;
  limit = task.limit;
}

-- function by function, from the position of the first of them on
unfoldable pub functions_events : Law → Formats → Task → ℕ → Law → List Event
functions_events law formats task position [] = []
functions_events law formats task position (f ∷ fs) =
    function_events law formats (at_position task position) f.sentences ++ functions_events law formats task (suc position) fs

-- one lint
abbrev pub lint_events : Law → Formats → Task → List Event
lint_events law formats task = functions_events law formats task 0 law

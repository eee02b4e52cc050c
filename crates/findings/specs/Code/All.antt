-- All lints under given settings.
use Rattle.std.specs.Prelude.{ℕ, Bool, ◌||◌, List, eqb}
use Rattle.law.specs.Tree.{Law}
use Rattle.formats.specs.Infer.{Formats}
use Rattle.matching.specs.Match.{when, each}
use Rattle.lints.specs.Lint.{Lint, lints}
use Rattle.lints.specs.Code.Overrides.{lint_coded}
use Rattle.lints.specs.Levels.{Settings, severity_of, is_shown}
use Rattle.findings.specs.declared.Task.{Task}
use Rattle.findings.specs.Code.Events.{Event}
use Rattle.findings.specs.Code.Tasks.{number_of, lint_events}
use Rattle.findings.specs.declared.way.Way.{Way}
use Rattle.findings.specs.Code.Ways.{law_in, formats_of}
use Rattle.formats.specs.declared.held.Formats as held
use Rattle.lints.specs.Code.Records.{formats_in}
use Rattle.file.specs.Sections.{file_of}
use Rattle.law.specs.Reading.{tree_of}

-- the task of a lint, where findings have this much room and formats at most so many shapes
abbrev pub task_for : Settings → ℕ → ℕ → Lint → Task
task_for settings room limit lint = record {
  lint = lint_coded lint;
  severity = severity_of settings lint;
  shown = is_shown settings lint;
  position = 0;
  room = room;
  limit = limit;
}

-- what a task meets: nothing where its findings are hidden, but for lint 2, which may meet refusal 10
abbrev pub is_due : Task → Bool
is_due task = task.shown || eqb (number_of task) 2

unfoldable pub task_events : Law → Formats → Task → List Event
task_events law formats task = when (is_due task) (lint_events law formats task)

-- of a lint, and of all
abbrev pub events_by : Law → Formats → Settings → ℕ → ℕ → Lint → List Event
events_by law formats settings room limit lint = task_events law formats (task_for settings room limit lint)

unfoldable pub all_events : Law → Formats → Settings → ℕ → ℕ → List Event
all_events law formats settings room limit = each (events_by law formats settings room limit) lints

-- of a way through a law, and of a law with its formats, as contracts say it
abbrev pub task_met : Way → List Event
task_met w = task_events (law_in w) (formats_of w) w.task

abbrev pub all_met : held.Formats → Settings → ℕ → List Event
all_met formats settings room =
    all_events (tree_of (file_of formats.law.law.bytes.now)) (formats_in (file_of formats.law.law.bytes.now) formats.limit formats.store.now) settings room formats.limit

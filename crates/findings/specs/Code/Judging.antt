-- What the code of lints 2 and 3 finds on its way at one call.
use Rattle.std.specs.Prelude.{ℕ, ◌+◌, ◌*◌, Bool, true, false, List, [], ◌∷◌}
use Rattle.std.proofs.Math.Option.{Option, none, some}
use Rattle.file.specs.Word.{word_at}
use Rattle.file.specs.Sections.{File}
use Rattle.matching.specs.Match.{when}
use Rattle.lints.specs.Finding.{Failure, failure_number}
use Rattle.std.specs.Prelude.{Ok, Err, Some, None}
use Rattle.lints.specs.Code.Verdicts.{Verdict, reason_number}
use Rattle.findings.specs.declared.Ended.TheVariants as ended
use Rattle.findings.specs.declared.Task.{Task}
use Rattle.findings.specs.declared.Note.{Note}
use Rattle.findings.specs.Code.Events.{Tally, Event, noting, too_wide}
use Rattle.findings.specs.Code.Tasks.{note_words}

-- ---- what is noted of the call at a term record

-- a finding about it: it has a word a of its own, and its b is 0
abbrev pub call_note : File → ℕ → ℕ → Note
call_note file t a = record {
  start = word_at file.terms.records (24 * t + 16);
  end = word_at file.terms.records (24 * t + 16 + 4);
  a = a;
  b = 0;
  subject = t;
}

abbrev pub call_found : File → Task → ℕ → ℕ → Event
call_found file task t a = noting (note_words task (call_note file t a))

-- by what lint 2 says of it
abbrev pub verdict_events : File → Task → ℕ → Verdict → List Event
verdict_events file task t (Err e) = too_wide ∷ []
verdict_events file task t (Ok None) = []
verdict_events file task t (Ok (Some reason)) = when task.shown (call_found file task t (reason_number reason) ∷ [])

-- by why it fails
abbrev pub failure_events : File → Task → ℕ → Option Failure → List Event
failure_events file task t none = []
failure_events file task t (some why) = call_found file task t (failure_number why) ∷ []

-- did the count of findings end?
abbrev pub is_over : Tally → Bool
is_over (Ok n) = false
is_over (Err ended.TooWide) = true
is_over (Err ended.Full) = false

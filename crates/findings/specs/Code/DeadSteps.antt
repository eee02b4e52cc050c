-- Lint 1, a sentence at a time, by the numbers of records.
use Rattle.std.specs.Prelude.{ℕ, suc, ◌+◌, ◌*◌, ◌-◌, Bool, List, []}
use Rattle.file.specs.Word.{word_at}
use Rattle.file.specs.Sections.{File}
use Rattle.law.specs.Tree.{keep}
use Rattle.law.specs.Reading.{mark_at, sentences_at}
use Rattle.sentences.specs.Entry.{pattern_in}
use Rattle.lints.specs.Finding.{eight_words}
use Rattle.lints.specs.Dead.{earliest, dead_by, dead_after}
use Rattle.lints.specs.Code.Records.{earlier_at}
use Rattle.findings.specs.declared.Task.{Task}
use Rattle.findings.specs.Code.Events.{Event}
use Rattle.findings.specs.Code.Tasks.{number_of, remark_events}

module _ (file : File) where
  -- the eight words of a finding on the sentence s
  abbrev pub sentence_words : Task → ℕ → ℕ → ℕ → List ℕ
  sentence_words task s a b =
      eight_words (number_of task) task.severity (word_at file.sentences.records (20 * s + 12)) (word_at file.sentences.records (20 * s + 12 + 4))
      a b task.position s

  -- what is met at the sentence that has `later` sentences before it, from `first` on
  unfoldable pub dead_events : Task → Bool → ℕ → ℕ → List Event
  dead_events task in_block first later =
      remark_events task
      (dead_by in_block (mark_at (first + later) file.sentences.records (20 * (first + later) + 12)) (suc later)
      (earliest [] (earlier_at file first later) (pattern_in file (first + later))))

  -- and at those from that sentence on, of so many sentences
  unfoldable pub dead_from : Task → Bool → ℕ → ℕ → ℕ → List Event
  dead_from task in_block first count later =
      remark_events task (dead_after in_block [] (earlier_at file first later) (suc later) (keep (count - later) (sentences_at file (first + later))))

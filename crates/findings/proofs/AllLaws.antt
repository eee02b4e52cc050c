-- One lint after the other.
use Prim.Native.Nat.{ℕ, zero, suc, ◌+◌, ◌≤◌, ◌<◌}
use mathlib.Core.Bool.{Bool, true, false}
use mathlib.Core.List.{List, [], ◌∷◌}
use mathlib.Core.Path.{◌≡◌, refl, sym, ◌∙◌}
use native.Mathlib.Omega.{arith}
use lib.ListN.{drop, get_or, drop_of_length-le}
use Rattle.file.specs.Sections.{File}
use Rattle.law.specs.Tree.{Law}
use Rattle.law.specs.Reading.{tree_of}
use Rattle.formats.specs.Infer.{Formats}
use Rattle.matching.specs.Match.{each}
use Rattle.lints.specs.Lint.{Lint, lints}
use Rattle.lints.specs.Levels.{Settings}
use Rattle.lints.specs.Code.Overrides.{lint_meant}
use Rattle.lints.specs.declared.levels.Lint as coded
use Rattle.lints.specs.Code.Records.{formats_in}
use Rattle.findings.specs.declared.Task.{Task}
use Rattle.findings.specs.Code.Events.{Sink, collect}
use Rattle.findings.specs.Code.Tasks.{lint_events}
use Rattle.findings.specs.Code.All.{task_for, is_due, task_events, events_by, all_events}
use Rattle.findings.proofs.CollectLaws.{collect_none, collect_append}

-- a task that has nothing to meet, or something
pub not_due : (law : Law) (formats : Formats) (task : Task) {due : Bool} (room : ℕ) (s : Sink) → due ≡ is_due task → due ≡ false
    → s ≡ collect room s (task_events law formats task)
unfolding task_events
not_due law formats task room s e q = rw (← e, q) (collect_none room s)

pub is_due_lem : (law : Law) (formats : Formats) (task : Task) {due : Bool} (room : ℕ) (s : Sink) {t : Sink} → due ≡ is_due task → due ≡ true
    → t ≡ collect room s (lint_events law formats task) → t ≡ collect room s (task_events law formats task)
unfolding task_events
is_due_lem law formats task room s e q h = rw (← e, q) h

-- ---- what `lint_all` has gone through

-- the lints in the order of the code
abbrev pub all : List coded.Lint
all = coded.TheVariants.Dead ∷ coded.TheVariants.Recognition ∷ coded.TheVariants.Builtin ∷ coded.TheVariants.Open ∷ []

lints_from : (i : ℕ) (d : coded.Lint) → i < 4 → drop i lints ≡ lint_meant (get_or all i d) ∷ drop (i + 1) lints
lints_from zero d h = refl
lints_from (suc zero) d h = refl
lints_from (suc (suc zero)) d h = refl
lints_from (suc (suc (suc zero))) d h = refl
lints_from (suc (suc (suc (suc i)))) d h = absurd (omega (arith, h))

-- what is left to meet is what the lints from one on meet
pub record Linted (settings : Settings) (room limit : ℕ) (file : File) (store : List ℕ) (start : Sink) (i : ℕ) (now : Sink) : Type 0 where
  pub left : collect room start (each (events_by (tree_of file) (formats_in file limit store) settings room limit) lints)
      ≡ collect room now (each (events_by (tree_of file) (formats_in file limit store) settings room limit) (drop i lints))

pub linted_begun : (settings : Settings) (room limit : ℕ) (file : File) (store : List ℕ) (start : Sink) → Linted settings room limit file store start 0 start
linted_begun settings room limit file store start = record { left = refl }

module _ {settings : Settings} {room limit : ℕ} {file : File} {store : List ℕ} {start : Sink} {i : ℕ} {now : Sink}
    (so_far : Linted settings room limit file store start i now) where
  pub linted_next : (d : coded.Lint) {task : Task} {after : Sink} → i < 4 → task ≡ task_for settings room limit (lint_meant (get_or all i d))
      → after ≡ collect task.room now (task_events (tree_of file) (formats_in file task.limit store) task)
      → Linted settings room limit file store start (i + 1) after
  linted_next d {after} more is h =
      let lint : Lint = lint_meant (get_or all i d) in
      let met : after ≡ collect room now (events_by (tree_of file) (formats_in file limit store) settings room limit lint) = rw is at h in
      record {
        left =
            so_far.left
            ∙ rw (lints_from i d more, collect_append room now (events_by (tree_of file) (formats_in file limit store) settings room limit lint) _, ← met);
      }

  pub linted_all : 4 ≤ i → now ≡ collect room start (all_events (tree_of file) (formats_in file limit store) settings room limit)
  unfolding all_events collect
  linted_all end = sym (so_far.left ∙ rw (drop_of_length-le lints {i = i} end))

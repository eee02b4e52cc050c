-- Lint 1, a sentence at a time (src/dead.rt): what is noted of each sentence.
use Prim.Native.Nat.{ℕ, suc, ◌+◌, ◌*◌, ◌-◌, ◌≤◌, ◌<◌}
use mathlib.Core.Bool.{Bool, true}
use mathlib.Core.List.{List, [], ◌∷◌, ◌++◌}
use mathlib.Core.Option.{Option}
use mathlib.Core.Path.{◌≡◌, refl, sym, ap, ◌∙◌}
use native.Mathlib.Omega.{arith}
use native.Mathlib.Nat.{add-zero, sub-zero}
use native.Mathlib.Numerals.{add-one}
use Rattle.file.specs.Word.{word_at}
use Rattle.file.specs.Sections.{File}
use Rattle.law.specs.Tree.{keep}
use Rattle.law.specs.Reading.{sentences_at}
use Rattle.law.specs.Code.Index.{Readable}
use Rattle.law.proofs.Functions.{kept_reads}
use Rattle.sentences.specs.Entry.{pattern_in}
use Rattle.lints.specs.Finding.{Remark}
use Rattle.lints.specs.Dead.{earliest, dead_after}
use Rattle.lints.specs.Code.Records.{earlier_at, earliest_from}
use Rattle.findings.specs.declared.Task.{Task}
use Rattle.std.specs.Prelude.{Ok, Err, Some, None}
use Rattle.std.specs.Result.{is_err}
use Rattle.findings.specs.declared.Ended.{Ended}
use Rattle.findings.specs.declared.Ended.TheVariants as ended
use Rattle.findings.specs.Code.Events.{Tally, noting, Sink, sink_of, met, collect}
use Rattle.findings.specs.Code.Tasks.{note_words, remark_event, remark_events}
use Rattle.findings.proofs.CollectLaws.{collect_append}
use Rattle.findings.specs.Code.DeadSteps.{sentence_words, dead_events, dead_from}

pub remarks_append : (task : Task) (rs qs : List Remark) → remark_events task (rs ++ qs) ≡ remark_events task rs ++ remark_events task qs
unfolding remark_events
remarks_append task [] qs = refl
remarks_append task (r ∷ rs) qs = ap (λ es. remark_event task r ∷ es) (remarks_append task rs qs)

-- no finding counts after the end, or where there are too many
ended_stays : (room : ℕ) (words : List ℕ) (task : Task) (why : Ended) (rs : List Remark)
    → collect room (sink_of (Err why) words) (remark_events task rs) ≡ sink_of (Err why) words
unfolding collect remark_events
ended_stays room words task why [] = refl
ended_stays room words task ended.TooWide (r ∷ rs) = ended_stays room words task ended.TooWide rs
ended_stays room words task ended.Full (r ∷ rs) = ended_stays room words task ended.Full rs

-- the eight words of a finding on a sentence, as the code reads its span
pub sentence_noted : (file : File) (task : Task) (s a b start stop : ℕ) (tally : Tally) (words : List ℕ) {after : Sink}
    → start ≡ word_at file.sentences.records (20 * s + 12) → stop ≡ word_at file.sentences.records (20 * s + 16)
    → after ≡ met task.room (noting (note_words task (record { start = start; end = stop; a = a; b = b; subject = s }))) tally words
    → after ≡ met task.room (noting (sentence_words file task s a b)) tally words
sentence_noted file task s a b start stop tally words p q h =
    let place : 20 * s + 12 + 4 ≡ 20 * s + 16 = omega arith in
    rw (place, ← p, ← q) h

module _ (file : File) (task : Task) (first : ℕ) where
  -- one sentence, where no finding counts
  pub sentence_ended : (words : List ℕ) (later : ℕ) (tally : Tally) → is_err tally ≡ true → (in_block : Bool)
      → sink_of tally words ≡ collect task.room (sink_of tally words) (dead_events file task in_block first later)
  unfolding dead_events
  sentence_ended words later (Ok n) h in_block = cc
  sentence_ended words later (Err why) h in_block = sym (ended_stays task.room words task why _)

  -- the earliest sentence that shadows it
  abbrev earliest_before : ℕ → Option ℕ
  earliest_before later = earliest [] (earlier_at file first later) (pattern_in file (first + later))

  module _ (words : List ℕ) (tally : Tally) (later : ℕ) where
    -- no sentence shadows it
    pub not_dead : earliest_from None ≡ earliest_before later → (in_block : Bool)
        → sink_of tally words ≡ collect task.room (sink_of tally words) (dead_events file task in_block first later)
    unfolding dead_events collect remark_events
    not_dead h in_block = rw (← h)

    -- one does
    pub is_dead : {n : ℕ} {after : Sink} → earliest_from (Some n) ≡ earliest_before later
        → after ≡ met task.room (noting (sentence_words file task (first + later) (later + 1) n)) tally words → (in_block : Bool)
        → after ≡ collect task.room (sink_of tally words) (dead_events file task in_block first later)
    unfolding dead_events collect remark_events
    is_dead h e in_block = rw (← h, ← add-one later) e

  -- so many sentences: at the start, after one more, and at the end
  module _ (count : ℕ) where
    pub dead_starts : (in_block : Bool) → remark_events task (dead_after in_block [] [] 1 (keep count (sentences_at file first))) ≡ dead_from file task in_block first count 0
    unfolding dead_from earlier_at
    dead_starts in_block = rw (add-zero first, sub-zero count)

    dead_next : Readable file → (later : ℕ) → later < count → first + count ≤ file.sentences.count → (in_block : Bool)
        → dead_from file task in_block first count later ≡ dead_events file task in_block first later ++ dead_from file task in_block first count (later + 1)
    unfolding dead_from dead_events dead_after earlier_at pattern_in
    dead_next readable later h l in_block =
        let left : count - later ≡ suc (count - suc later) = omega arith in
        let next : first + suc later ≡ suc (first + later) = omega arith in
        rw (add-one later, left, next, kept_reads file readable (count - suc later) (first + later) (omega arith))
        (remarks_append task _ _)

    pub dead_again : Readable file → (later : ℕ) → later < count → first + count ≤ file.sentences.count → (whole : Bool → Sink) (s r : Sink)
        → ((in_block : Bool) → whole in_block ≡ collect task.room s (dead_from file task in_block first count later))
        → ((in_block : Bool) → r ≡ collect task.room s (dead_events file task in_block first later))
        → (in_block : Bool) → whole in_block ≡ collect task.room r (dead_from file task in_block first count (later + 1))
    dead_again readable later h l whole s r before step in_block =
        before in_block
        ∙ rw (dead_next readable later h l in_block)
        (collect_append task.room s (dead_events file task in_block first later) (dead_from file task in_block first count (later + 1)) ∙ rw (← step in_block))

    pub dead_ends : (later : ℕ) → count ≤ later → (whole : Bool → Sink) (s : Sink)
        → ((in_block : Bool) → whole in_block ≡ collect task.room s (dead_from file task in_block first count later))
        → (in_block : Bool) → s ≡ whole in_block
    unfolding dead_from keep dead_after collect remark_events
    dead_ends later h whole s before in_block =
        let none : count - later ≡ 0 = omega arith in
        sym (before in_block ∙ rw none)

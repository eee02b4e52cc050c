-- Lint 4, a sentence at a time (src/open.rt).
use Prim.Native.Nat.{ℕ, suc, ◌+◌, ◌*◌, ◌-◌, ◌≤◌, ◌<◌}
use mathlib.Core.List.{List, [], ◌∷◌, ◌++◌, append-nil}
use mathlib.Core.Path.{◌≡◌, sym, ◌∙◌}
use native.Mathlib.Omega.{arith}
use native.Mathlib.Nat.{add-zero, sub-zero}
use lib.ListN.{length, length-take, length-drop}
use lib.Dec.{leb}
use borrow.Author.Tests.{le-leb, lt-leb}
use Rattle.file.specs.Sections.{File, file_of}
use Rattle.law.specs.Tree.{keep}
use Rattle.law.specs.Places.{pattern_at, pattern_part}
use Rattle.law.specs.Reading.{mark_at, run_of, own, sentences_at}
use Rattle.law.specs.Code.Index.{Indexed, Readable}
use Rattle.law.proofs.Functions.{kept_reads}
use Rattle.law.proofs.IndexLaws.{terms_limit}
use Rattle.matching.specs.Match.{when}
use Rattle.lints.specs.Finding.{open_pattern, Remark}
use Rattle.lints.specs.Open.{e_occurrences, open_in}
use Rattle.lints.specs.Code.Part.{argument_of}
use Rattle.lints.proofs.PartLaws.{e_same}
use Rattle.findings.specs.declared.Task.{Task}
use Rattle.findings.specs.Code.Events.{Tally, Event, noting, Sink, sink_of, met, collect}
use Rattle.findings.specs.Code.Tasks.{remark_events}
use Rattle.findings.specs.Code.DeadSteps.{sentence_words}
use Rattle.findings.proofs.CollectLaws.{collect_append}
use Rattle.findings.proofs.DeadLaws.{remarks_append}

-- a pattern has at most as many occurrences as there are term records
pub occurrences_few : (bytes index : List ℕ) → Indexed bytes index → Readable (file_of bytes) → (s n : ℕ) (part : List ℕ)
    → part ≡ pattern_part (file_of bytes) s → 24 * n ≤ length part → n ≤ 512
unfolding pattern_part
occurrences_few bytes index indexed readable s n part same h =
    let long : length part ≤ length (file_of bytes).terms.records = rw (same, length-take, length-drop) (omega arith) in
    omega (arith, readable.whole, terms_limit bytes index indexed)

-- what is met at n sentences from s on
abbrev pub open_from : File → Task → ℕ → ℕ → List Event
open_from file task n s = remark_events task (open_in (keep n (sentences_at file s)))

module _ (file : File) (readable : Readable file) (task : Task) where
  -- what is said of the sentence s
  abbrev open_at : ℕ → List Remark
  open_at s =
      let n : ℕ = e_occurrences (run_of file (own file) (pattern_at file s) (pattern_part file s)) in
      when (leb 2 n) (record { subject = mark_at s file.sentences.records (20 * s + 12); claim = open_pattern n } ∷ [])

  open_reads : (n s : ℕ) → s < file.sentences.count → open_in (keep (suc n) (sentences_at file s)) ≡ open_at s ++ open_in (keep n (sentences_at file (suc s)))
  unfolding open_in
  open_reads n s h = rw (kept_reads file readable n s h)

  open_one : (s : ℕ) → s < file.sentences.count → open_in (keep 1 (sentences_at file s)) ≡ open_at s
  unfolding open_in keep
  open_one s h = open_reads 0 s h ∙ append-nil (open_at s)

  module _ (s n : ℕ) (part words : List ℕ) (tally : Tally) (inside : s < file.sentences.count) (same : part ≡ pattern_part file s)
      (is : (text : List ℕ) → n ≡ e_occurrences (argument_of text part)) where
    number_is : e_occurrences (run_of file (own file) (pattern_at file s) (pattern_part file s)) ≡ n
    number_is = e_same file.text.records (own file) (pattern_at file s) (pattern_part file s) ∙ sym (rw same at (is file.text.records))

    -- fewer than two occurrences
    pub open_few : n < 2 → sink_of tally words ≡ collect task.room (sink_of tally words) (open_from file task 1 s)
    unfolding collect remark_events
    open_few h = rw (open_one s inside, number_is, lt-leb 2 n h)

    -- two or more
    pub open_many : (after : Sink) → 2 ≤ n → after ≡ met task.room (noting (sentence_words file task s n 0)) tally words
        → after ≡ collect task.room (sink_of tally words) (open_from file task 1 s)
    unfolding collect remark_events
    open_many after h e = rw (open_one s inside, number_is, le-leb 2 n h) e

  -- so many sentences from `first` on: at the start, after one more, and at the end
  module _ (first count : ℕ) where
    pub open_starts : open_from file task count first ≡ open_from file task (count - 0) (first + 0)
    open_starts = rw (add-zero first, sub-zero count)

    open_next : (i : ℕ) → i < count → first + count ≤ file.sentences.count
        → open_from file task (count - i) (first + i) ≡ open_from file task 1 (first + i) ++ open_from file task (count - (i + 1)) (first + (i + 1))
    open_next i h l =
        let left : count - i ≡ suc (count - (i + 1)) = omega arith in
        let next : first + (i + 1) ≡ suc (first + i) = omega arith in
        rw (left, next, open_reads (count - (i + 1)) (first + i) (omega arith), open_one (first + i) (omega arith))
        (remarks_append task (open_at (first + i)) (open_in (keep (count - (i + 1)) (sentences_at file (suc (first + i))))))

    pub open_again : (i : ℕ) → i < count → first + count ≤ file.sentences.count → (whole s r : Sink)
        → whole ≡ collect task.room s (open_from file task (count - i) (first + i)) → r ≡ collect task.room s (open_from file task 1 (first + i))
        → whole ≡ collect task.room r (open_from file task (count - (i + 1)) (first + (i + 1)))
    open_again i h l whole s r before step =
        before
        ∙ rw (open_next i h l)
        (collect_append task.room s (open_from file task 1 (first + i)) (open_from file task (count - (i + 1)) (first + (i + 1))) ∙ rw (← step))

    pub open_ends : (i : ℕ) → count ≤ i → (whole s : Sink) → whole ≡ collect task.room s (open_from file task (count - i) (first + i)) → s ≡ whole
    unfolding keep open_in collect remark_events
    open_ends i h whole s before =
        let none : count - i ≡ 0 = omega arith in
        sym (before ∙ rw none)

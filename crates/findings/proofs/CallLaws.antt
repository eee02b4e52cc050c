-- What lints 2 and 3 note of one call (src/calls.rt): the events of a verdict and of a failure are those of the lint's remarks.
use Prim.Native.Nat.{ℕ, ◌+◌, ◌*◌, ◌≤◌, ◌<◌}
use mathlib.Core.Bool.{Bool, true, false, cond, not}
use mathlib.Core.List.{List, [], ◌∷◌, append-nil}
use mathlib.Core.Option.{Option, none, some}
use mathlib.Core.Path.{◌≡◌, refl, sym, ap, ◌∙◌}
use native.Mathlib.Omega.{arith}
use lib.ListN.{length, take, drop}
use lib.Dec.{eqb, ltb}
use borrow.Author.Tests.{eq-eqb, ne_eqb, not-true, not-false}
use Rattle.names.specs.Name.{folded}
use Rattle.file.specs.Word.{word_at}
use Rattle.file.specs.Sections.{File}
use Rattle.file.specs.Fields.{fields_allowed}
use Rattle.law.specs.Tree.{Law}
use Rattle.law.specs.Places.{terms_at}
use Rattle.law.specs.Reading.{own}
use Rattle.law.proofs.IndexLaws.{zero_offset}
use Rattle.law.proofs.Parts.{terms_length, terms_word}
use Rattle.shapes.specs.Format.{of, size}
use Rattle.shapes.specs.Disjoint.{disjoint_formats}
use Rattle.formats.specs.Infer.{Formats}
use Rattle.formats.specs.Code.Slots.{call_folded}
use Rattle.formats.proofs.SlotLaws.{call_name_inside, call_name_read}
use Rattle.matching.specs.Match.{when, each}
use Rattle.matching.specs.Literal.{is_literal}
use Rattle.sentences.specs.Entry.{argument_part, argument_in}
use Rattle.lints.specs.Finding.{by_formats, by_literals, Failure}
use Rattle.lints.specs.Recognition.{compared, passed, accepted, remark, judged}
use Rattle.lints.specs.Calls.{Call}
use Rattle.lints.specs.Builtin.{builtins, domain_in, failure, failed, builtin_on}
use Rattle.lints.specs.Code.Part.{argument_of}
use Rattle.lints.specs.Code.Records.{call_at}
use Rattle.lints.proofs.PartLaws.{failure_same}
use Rattle.lints.specs.Lint.{lint_number}
use Rattle.lints.specs.Code.Overrides.{lint_meant}
use Rattle.lints.specs.declared.levels.Lint.{Lint}
use Rattle.lints.specs.declared.levels.Lint.TheVariants.{Dead, Recognition, Builtin, Open}
use Rattle.findings.specs.declared.Task.{Task}
use Rattle.findings.specs.declared.Note.{Note}
use Rattle.std.specs.Prelude.{Ok, Err}
use Rattle.findings.specs.declared.Ended.TheVariants as ended
use Rattle.findings.specs.Code.Events.{Tally, Over, Event, noting, too_wide, Sink, sink_of, met, collect}
use Rattle.findings.specs.Code.Tasks.{note_words, remark_events, recognition_events, call_events, calls_at}
use Rattle.findings.specs.Code.Judging.{call_note, call_found, verdict_events, failure_events, is_over}
use Rattle.lints.specs.Code.Verdicts.{Verdict, Wide, ByFormats, ByLiterals, Nothing, verdict_of, comparison}
use Rattle.findings.proofs.CollectLaws.{collect_none, collect_one}

-- ---- collecting

-- one thing is met
pub collect_met : (room : ℕ) (e : Event) (tally : Tally) (words : List ℕ) {s : Sink} → s ≡ met room e tally words → s ≡ collect room (sink_of tally words) (e ∷ [])
collect_met room e tally words h = h ∙ collect_one room (sink_of tally words) e

-- what is met by a value that is known
pub met_by : {X : Type 0} (f : X → List Event) (room : ℕ) (s : Sink) {x v : X} {r : Sink} → x ≡ v → r ≡ collect room s (f v) → r ≡ collect room s (f x)
met_by f room s e h = rw e h

-- an argument that is too wide ends the count
pub collect_wide : (room : ℕ) (tally : Tally) (words : List ℕ) → sink_of Over words ≡ collect room (sink_of tally words) (too_wide ∷ [])
unfolding collect
collect_wide room (Err ended.TooWide) words = refl
collect_wide room (Err ended.Full) words = refl
collect_wide room (Ok n) words = refl

-- a count that has ended stays
collect_ended : (room : ℕ) (words : List ℕ) (es : List Event) → sink_of Over words ≡ collect room (sink_of Over words) es
unfolding collect
collect_ended room words [] = refl
collect_ended room words (e ∷ es) = collect_ended room words es

pub collect_over : (room : ℕ) (tally : Tally) (words : List ℕ) (es : List Event) → is_over tally ≡ true → sink_of tally words ≡ collect room (sink_of tally words) es
collect_over room (Ok n) words es h = cc
collect_over room (Err ended.TooWide) words es h = collect_ended room words es
collect_over room (Err ended.Full) words es h = cc

-- ---- a finding about a call

module _ (file : File) (whole : length file.terms.records ≡ 24 * file.terms.count) (t : ℕ) (inside : t < file.terms.count) {part : List ℕ}
    (same : part ≡ terms_at file t 1) where
  -- its record's length
  pub record_length : length part ≡ 24
  record_length = rw same (terms_length file whole t 1 (omega arith))

  -- its words
  pub note_is : {start stop : ℕ} (a : ℕ) → start ≡ word_at part 16 → stop ≡ word_at part 20
      → ◌≡◌ {A = Note} (record { start = start; end = stop; a = a; b = 0; subject = t }) (call_note file t a)
  note_is a p q =
      let later : 24 * t + 20 ≡ 24 * t + 16 + 4 = omega arith in
      rw (p, q, same, terms_word file whole t 1 (omega arith) 16 (omega arith), terms_word file whole t 1 (omega arith) 20 (omega arith), later)

-- a finding as it is put
pub put_met : (file : File) (task : Task) (t a room : ℕ) (tally : Tally) (words : List ℕ) {note : Note} {s : Sink} → note ≡ call_note file t a
    → s ≡ met room (noting (note_words task note)) tally words → s ≡ met room (call_found file task t a) tally words
put_met file task t a room tally words e h = h ∙ ap (λ n. met room (noting (note_words task n)) tally words) e

-- findings that are hidden, or shown
pub shown_not : (room : ℕ) (s : Sink) (shown : Bool) (es : List Event) → not shown ≡ true → s ≡ collect room s (when shown es)
shown_not room s shown es h = rw (not-true shown h) (collect_none room s)

pub shown_one : (room : ℕ) (e : Event) (tally : Tally) (words : List ℕ) (shown : Bool) {s : Sink} → not shown ≡ false → s ≡ met room e tally words
    → s ≡ collect room (sink_of tally words) (when shown (e ∷ []))
shown_one room e tally words shown h is = rw (not-false shown h) (collect_met room e tally words is)

-- ---- lint 2

when_none : (b : Bool) → [] ≡ when {X = Event} b []
when_none true = refl
when_none false = refl

-- what is met by the verdict on a call
verdict_events_lem : (file : File) (task : Task) (formats : Formats) (law : Law) (t : ℕ)
    → verdict_events file task t (verdict_of task.limit law formats (call_at file t)) ≡ recognition_events law formats task (call_at file t)
unfolding verdict_of comparison recognition_events judged remark_events
verdict_events_lem file task formats law t =
    go (compared law (call_at file t)) (ltb task.limit (size (passed formats (call_at file t))))
    (disjoint_formats (of (passed formats (call_at file t))) (accepted formats (call_at file t))) (is_literal (argument_in file t))
  where
    go : (a b c d : Bool)
        → verdict_events file task t (cond a (cond b Wide (cond c ByFormats (cond d ByLiterals Nothing))) Nothing)
        ≡ when a (cond b (too_wide ∷ []) (when task.shown (remark_events task (cond c
        (remark (call_at file t) (by_formats (call_at file t).name (accepted formats (call_at file t)) (of (passed formats (call_at file t)))) ∷ [])
        (when d (remark (call_at file t) (by_literals (call_at file t).name) ∷ []))))))
    go false b c d = refl
    go true true c d = refl
    go true false true d = refl
    go true false false true = refl
    go true false false false = when_none task.shown

pub recognition_met : (file : File) (task : Task) (formats : Formats) (law : Law) (t : ℕ) (room : ℕ) (s : Sink) {verdict : Verdict} {r : Sink}
    → verdict ≡ verdict_of task.limit law formats (call_at file t) → r ≡ collect room s (verdict_events file task t verdict)
    → r ≡ collect room s (recognition_events law formats task (call_at file t))
recognition_met file task formats law t room s e is = is ∙ ap (collect room s) (ap (verdict_events file task t) e ∙ verdict_events_lem file task formats law t)

-- ---- lint 3

failed_events : (file : File) (task : Task) (t : ℕ) (o : Option Failure) → failure_events file task t o ≡ remark_events task (failed (call_at file t) o)
unfolding remark_events
failed_events file task t none = refl
failed_events file task t (some why) = refl

module _ (file : File) (t : ℕ) where
  -- its name lies inside the text
  pub name_inside : {text : List ℕ} {start len : ℕ} → fields_allowed file ≡ true → t < file.terms.count → word_at file.terms.records (24 * t) ≡ 7
      → text ≡ file.text.records → start ≡ word_at file.terms.records (24 * t + 4) → len ≡ word_at file.terms.records (24 * t + 8)
      → start + len ≤ length text
  name_inside {text} {start} {len} fields inside kind e a b =
      rw e (call_name_inside file t start len fields inside kind a b)

  -- why a call fails, as it is asked
  failure_is : {name text part : List ℕ} {start len : ℕ} {o : Option Failure} → text ≡ file.text.records → start ≡ word_at file.terms.records (24 * t + 4)
      → len ≡ word_at file.terms.records (24 * t + 8) → name ≡ take len (drop start text) → part ≡ argument_part file t
      → o ≡ failure (domain_in builtins (folded name)) (argument_of text part)
      → o ≡ failure (domain_in builtins (call_folded file t)) (argument_in file t)
  unfolding argument_in
  failure_is {name} {text} {part} {start} {len} e a b q same is =
      is
      ∙ rw (call_name_read file t start len text name e a b q, e, same)
      (sym (failure_same file.text.records (own file) (t + 1) (argument_part file t) (domain_in builtins (call_folded file t))))

  -- what is met by that
  pub builtin_met : (task : Task) (law : Law) (room : ℕ) (s : Sink) {name text part : List ℕ} {start len : ℕ} {o : Option Failure} {r : Sink}
      → text ≡ file.text.records → start ≡ word_at file.terms.records (24 * t + 4) → len ≡ word_at file.terms.records (24 * t + 8)
      → name ≡ take len (drop start text) → part ≡ argument_part file t → o ≡ failure (domain_in builtins (folded name)) (argument_of text part)
      → r ≡ collect room s (failure_events file task t o) → r ≡ collect room s (remark_events task (builtin_on law (call_at file t)))
  unfolding builtin_on
  builtin_met task law room s e a b q same is h =
      h
      ∙ ap (collect room s)
      (ap (failure_events file task t) (failure_is e a b q same is)
      ∙ failed_events file task t (failure (domain_in builtins (call_folded file t)) (argument_in file t)))

-- ---- both

module _ (file : File) (t : ℕ) {kind : ℕ} (read : kind ≡ word_at file.terms.records (24 * t + 0)) where
  kind_is : kind ≡ word_at file.terms.records (24 * t)
  kind_is = read ∙ zero_offset file.terms.records (24 * t)

  -- a call's kind
  pub kind_call : kind ≡ 7 → word_at file.terms.records (24 * t) ≡ 7
  kind_call e = sym kind_is ∙ e

  -- no call
  pub met_none : (room : ℕ) (s : Sink) (f : Call → List Event) → (kind ≡ 7 → ⊥) → s ≡ collect room s (each f (calls_at file t))
  met_none room s f d = rw (ne_eqb (word_at file.terms.records (24 * t)) 7 (λ e. d (kind_is ∙ e))) (collect_none room s)

  module _ (law : Law) (formats : Formats) (task : Task) (e : kind ≡ 7) where
    call_events_lem : each (call_events law formats task) (calls_at file t) ≡ call_events law formats task (call_at file t)
    call_events_lem = rw (eq-eqb (word_at file.terms.records (24 * t)) 7 (kind_call e)) (append-nil (call_events law formats task (call_at file t)))

    -- lint 2, lint 3, and the others
    pub met_recognition : (room : ℕ) (s : Sink) {r : Sink} → task.lint ≡ Recognition → r ≡ collect room s (recognition_events law formats task (call_at file t))
        → r ≡ collect room s (each (call_events law formats task) (calls_at file t))
    unfolding call_events
    met_recognition room s two is = is ∙ rw (call_events_lem, two)

    pub met_builtin : (room : ℕ) (s : Sink) {r : Sink} → task.lint ≡ Builtin → r ≡ collect room s (remark_events task (builtin_on law (call_at file t)))
        → r ≡ collect room s (each (call_events law formats task) (calls_at file t))
    unfolding call_events
    met_builtin room s three is = is ∙ rw (call_events_lem, three)

    pub met_other : (room : ℕ) (s : Sink) → (task.lint ≡ Recognition → ⊥) → (task.lint ≡ Builtin → ⊥)
        → s ≡ collect room s (each (call_events law formats task) (calls_at file t))
    unfolding call_events
    met_other room s a b = rw call_events_lem (go task.lint a b)
      where
        go : (l : Lint) → (l ≡ Recognition → ⊥) → (l ≡ Builtin → ⊥)
            → s ≡ collect room s (cond (eqb (lint_number (lint_meant l)) 2) (recognition_events law formats task (call_at file t))
            (when (eqb (lint_number (lint_meant l)) 3) (remark_events task (builtin_on law (call_at file t)))))
        go Dead a b = collect_none room s
        go Recognition a b = absurd (a refl)
        go Builtin a b = absurd (b refl)
        go Open a b = collect_none room s

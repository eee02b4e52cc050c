-- Laws of what is collected in a buffer (specs/Code/Events.antt): a finding's eight words, one finding, and events one after another.
use Prim.Native.Nat.{ℕ, ◌+◌, ◌*◌, ◌-◌, ◌≤◌, ◌<◌, ◌/◌}
use mathlib.Core.List.{List, [], ◌∷◌, ◌++◌, append_assoc}
use mathlib.Core.Path.{◌≡◌, refl}
use native.Mathlib.Omega.{arith}
use lib.ListN.{length}
use lib.Seq.{drop-drop}
use borrow.Author.Tests.{le-leb, lt-leb}
use borrow.Rule.Slice.PartMut.{put_mid}
use Rattle.lints.specs.Finding.{eight_words}
use Rattle.buffers.specs.Written.{written}
use Rattle.std.specs.Prelude.{Err}
use Rattle.findings.specs.declared.Ended.{Ended}
use Rattle.findings.specs.declared.Ended.TheVariants as ended
use Rattle.findings.specs.Code.Events.{Full, Upto, Event, noting, Sink, sink_of, after_note, met, collect}

-- ---- writing

-- eight words in the place of those from a position on
pub note_written : (old : List ℕ) (at : ℕ) {new : List ℕ} {lint number severity start stop a b position subject : ℕ} → at + 8 ≤ length old
    → new ≡ lint ∷ severity ∷ start ∷ stop ∷ a ∷ b ∷ position ∷ subject ∷ [] → lint ≡ number
    → put_mid at (at + 8 - at) old new ≡ written old at (eight_words number severity start stop a b position subject)
unfolding written
note_written old at h e q =
    let eight : at + 8 - at ≡ 8 = omega arith in
    rw (e, q, eight, drop-drop) (simp append_assoc)

-- ---- one finding

-- there is room in the buffer for the finding after n of them
pub note_fits : (words after finding : List ℕ) (n : ℕ) → n < length words / 8 → after ≡ written words (8 * n) finding → after ≡ after_note words n finding
note_fits words after finding n h e = rw (le-leb (8 * n + 8) (length words) (omega arith)) e

-- there is none
pub note_left : (words after finding : List ℕ) (n : ℕ) → length words / 8 ≤ n → after ≡ words → after ≡ after_note words n finding
note_left words after finding n h e = rw (lt-leb (8 * n + 8) (length words) (omega arith)) e

-- no finding counts after the end, or where there are too many
pub note_ended : (room : ℕ) (why : Ended) (words finding : List ℕ) → sink_of (Err why) words ≡ met room (noting finding) (Err why) words
note_ended room ended.TooWide words finding = refl
note_ended room ended.Full words finding = refl

-- after n of them
pub note_none : (room n : ℕ) (words finding : List ℕ) → room / 8 ≤ n → sink_of Full words ≡ met room (noting finding) (Upto n) words
note_none room n words finding h = rw (lt-leb (8 * n + 8) room (omega (arith, h)))

pub note_one : (room n : ℕ) (words after finding : List ℕ) → n < room / 8 → after ≡ after_note words n finding
    → sink_of (Upto (n + 1)) after ≡ met room (noting finding) (Upto n) words
note_one room n words after finding h p = rw (le-leb (8 * n + 8) room (omega (arith, h)), p)

-- ---- events one after another

pub collect_append : (room : ℕ) (s : Sink) (es fs : List Event) → collect room s (es ++ fs) ≡ collect room (collect room s es) fs
unfolding collect
collect_append room s [] fs = refl
collect_append room s (e ∷ es) fs = collect_append room (met room e s.tally s.words) es fs

pub collect_none : (room : ℕ) (s : Sink) → s ≡ collect room s []
unfolding collect
collect_none room s = refl

pub collect_one : (room : ℕ) (s : Sink) (e : Event) → met room e s.tally s.words ≡ collect room s (e ∷ [])
unfolding collect
collect_one room s e = refl

-- the events of two parts, where what the first leaves is what the second starts from
pub collect_then : (room : ℕ) (s t u : Sink) (es fs : List Event) → t ≡ collect room s es → u ≡ collect room t fs → u ≡ collect room s (es ++ fs)
collect_then room s t u es fs p q = rw (collect_append room s es fs, ← p) q

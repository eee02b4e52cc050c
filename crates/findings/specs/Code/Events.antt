-- What the lints meet on their way through a law, in order, and what is left of it in a lent buffer.
use Rattle.std.specs.Prelude.{ℕ, ◌+◌, ◌*◌, cond, List, [], ◌∷◌, ◌≡◌, length, leb, Result, Ok, Err}
use Rattle.buffers.specs.Written.{written}
use Rattle.findings.specs.declared.Ended.{Ended}
use Rattle.findings.specs.declared.Ended.TheVariants as ended

-- a finding, by its eight words, or an argument with too many shapes to be compared (refusal 10)
pub data Event : Type 0 where
  noting : List ℕ → Event
  too_wide : Event

-- how far the count of findings has come: an argument was too wide, there are more findings than there is room for, or there are so many
abbrev pub Tally : Type 0
Tally = Result ℕ Ended

abbrev pub Over : Tally
Over = Err ended.TooWide

abbrev pub Full : Tally
Full = Err ended.Full

abbrev pub Upto : ℕ → Tally
Upto n = Ok n

-- the count, and the buffer
pub record Sink : Type 0 where
  pub tally : Tally
  pub words : List ℕ

abbrev pub sink_of : Tally → List ℕ → Sink
sink_of tally words = record { tally = tally; words = words }

-- the buffer after a finding, of which n came before it: it is written where there is room for it
abbrev pub after_note : List ℕ → ℕ → List ℕ → List ℕ
after_note words n finding = cond (leb (8 * n + 8) (length words)) (written words (8 * n) finding) words

-- a finding after n of them is counted where there is room for its eight words
abbrev pub with_note : ℕ → ℕ → List ℕ → List ℕ → Sink
with_note room n words finding = cond (leb (8 * n + 8) room) (sink_of (Upto (n + 1)) (after_note words n finding)) (sink_of Full words)

-- what is met; an argument that is too wide ends it all, also where findings do not fit: refusal 10 comes before 11
abbrev pub met : ℕ → Event → Tally → List ℕ → Sink
met room e (Err ended.TooWide) words = sink_of Over words
met room (noting finding) (Err ended.Full) words = sink_of Full words
met room too_wide (Err ended.Full) words = sink_of Over words
met room (noting finding) (Ok n) words = with_note room n words finding
met room too_wide (Ok n) words = sink_of Over words

unfoldable pub collect : ℕ → Sink → List Event → Sink
collect room s [] = s
collect room s (e ∷ es) = collect room (met room e s.tally s.words) es

-- what is met leaves this count and this buffer, from those before it
abbrev pub Collects : ℕ → Tally → List ℕ → Tally → List ℕ → List Event → Type 0
Collects room before words after left events = sink_of after left ≡ collect room (sink_of before words) events

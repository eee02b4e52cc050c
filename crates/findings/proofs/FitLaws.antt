-- What is collected where only findings are met: their number, and their words where there is room for them all.
use Prim.Native.Nat.{ℕ, suc, ◌+◌, ◌*◌, ◌≤◌, ◌<◌}
use mathlib.Core.List.{List, [], ◌∷◌, map}
use mathlib.Core.Path.{◌≡◌, refl, ap, ◌∙◌}
use native.Mathlib.Omega.{arith}
use native.Mathlib.Decide.{dec_le}
use native.Mathlib.Nat.{add-zero}
use borrow.Author.Tests.{le-leb, lt-leb}
use lib.ListN.{length}
use Rattle.buffers.specs.Written.{written}
use Rattle.buffers.proofs.WrittenLaws.{written_none, written_more, written_length}
use Rattle.matching.specs.Match.{each}
use Rattle.findings.specs.Code.Events.{Full, Upto, Event, noting, Sink, sink_of, after_note, met, collect}

-- findings of eight words each
module _ {X : Type 0} (words : X → List ℕ) (eight : (x : X) → length (words x) ≡ 8) where
  abbrev pub all_found : List X → List Event
  all_found xs = map (λ (x : X). noting (words x)) xs

  -- the first of them, with room for it
  first_fits : (room n : ℕ) (buffer : List ℕ) (x : X) → 8 * n + 8 ≤ room
      → met room (noting (words x)) (Upto n) buffer ≡ sink_of (Upto (n + 1)) (after_note buffer n (words x))
  first_fits room n buffer x h = rw (le-leb (8 * n + 8) room h)

  first_over : (room n : ℕ) (buffer : List ℕ) (x : X) → room < 8 * n + 8 → met room (noting (words x)) (Upto n) buffer ≡ sink_of Full buffer
  first_over room n buffer x h = rw (lt-leb (8 * n + 8) room h)

  first_written : (n : ℕ) (buffer : List ℕ) (x : X) → 8 * n + 8 ≤ length buffer → after_note buffer n (words x) ≡ written buffer (8 * n) (words x)
  first_written n buffer x h = rw (le-leb (8 * n + 8) (length buffer) h)

  -- there is room for all of them
  pub collect_fits : (room n : ℕ) (buffer : List ℕ) (xs : List X) → 8 * (n + length xs) ≤ room → 8 * (n + length xs) ≤ length buffer
      → collect room (sink_of (Upto n) buffer) (all_found xs) ≡ sink_of (Upto (n + length xs)) (written buffer (8 * n) (each words xs))
  unfolding collect
  collect_fits room n buffer [] fits holds = rw (add-zero n, ← written_none buffer (8 * n))
  collect_fits room n buffer (x ∷ xs) fits holds =
      let here : 8 * n + 8 ≤ room = omega (arith, fits) in
      let place : 8 * n + 8 ≤ length buffer = omega (arith, holds) in
      let kept : length (written buffer (8 * n) (words x)) ≡ length buffer = written_length buffer (8 * n) (words x) (omega (arith, eight x, place)) in
      let step : n + 1 + length xs ≡ n + suc (length xs) = omega arith in
      ap (λ (s : Sink). collect room s (all_found xs)) (first_fits room n buffer x here)
      ∙ rw (
        first_written n buffer x place,
        collect_fits room (n + 1) (written buffer (8 * n) (words x)) xs (omega (arith, fits)) (omega (arith, holds, kept)),
        step,
        written_more buffer (8 * n) (8 * (n + 1)) (words x) (each words xs) (omega (arith, eight x, place)) (omega (arith, eight x)),
      )

  -- they are counted whatever the buffer has room for
  pub collect_counts : (room n : ℕ) (buffer : List ℕ) (xs : List X) → 8 * (n + length xs) ≤ room
      → (collect room (sink_of (Upto n) buffer) (all_found xs)).tally ≡ Upto (n + length xs)
  unfolding collect
  collect_counts room n buffer [] fits = rw (add-zero n)
  collect_counts room n buffer (x ∷ xs) fits =
      let here : 8 * n + 8 ≤ room = omega (arith, fits) in
      let step : n + 1 + length xs ≡ n + suc (length xs) = omega arith in
      ap (λ (s : Sink). (collect room s (all_found xs)).tally) (first_fits room n buffer x here)
      ∙ rw (← step) (collect_counts room (n + 1) (after_note buffer n (words x)) xs (omega (arith, fits)))

  full_stays : (room : ℕ) (buffer : List ℕ) (xs : List X) → collect room (sink_of Full buffer) (all_found xs) ≡ sink_of Full buffer
  unfolding collect
  full_stays room buffer [] = refl
  full_stays room buffer (x ∷ xs) = full_stays room buffer xs

  -- there are more than there is room for
  pub collect_full : (room n : ℕ) (buffer : List ℕ) (xs : List X) → 8 * n ≤ room → room < 8 * (n + length xs)
      → (collect room (sink_of (Upto n) buffer) (all_found xs)).tally ≡ Full
  unfolding collect
  collect_full room n buffer [] low more = absurd (omega (arith, more))
  collect_full room n buffer (x ∷ xs) low more = go (dec_le (8 * n + 8) room) (λ l. collect_full room (n + 1) (after_note buffer n (words x)) xs (omega (arith, l)) (omega (arith, more)))
    where
      go : Dec (8 * n + 8 ≤ room) → (8 * n + 8 ≤ room → (collect room (sink_of (Upto (n + 1)) (after_note buffer n (words x))) (all_found xs)).tally ≡ Full)
          → (collect room (met room (noting (words x)) (Upto n) buffer) (all_found xs)).tally ≡ Full
      go (yes l) rest = ap (λ (s : Sink). (collect room s (all_found xs)).tally) (first_fits room n buffer x l) ∙ rest l
      go (no l) rest =
          ap (λ (s : Sink). (collect room s (all_found xs)).tally) (first_over room n buffer x (omega (arith, l)))
          ∙ ap (λ (s : Sink). s.tally) (full_stays room buffer xs)

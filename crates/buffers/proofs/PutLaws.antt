-- Laws of words put at a position (specs/Code/Put.antt): with room for all, for none and for some of them, and two puts that are one.
use Prim.Native.Nat.{ℕ, suc, min, ◌+◌, ◌-◌, ◌≤◌, ◌<◌}
use mathlib.Core.List.{List, [], ◌∷◌, ◌++◌}
use mathlib.Core.Path.{◌≡◌, refl, sym, ◌∙◌}
use native.Mathlib.Omega.{arith}
use native.Mathlib.Decide.{dec_le}
use native.Mathlib.Numerals.{add-one}
use lib.ListN.{length, take, drop, get_or, set, length-append, length-take, length-drop, take-append-drop}
use lib.Seq.{take_all, take-nil, take-suc, take-append-le, take-append-add}
use Rattle.buffers.specs.Written.{written}
use Rattle.buffers.specs.Code.Put.{put_fit, Put}
use Rattle.buffers.proofs.WrittenLaws.{written_none, written_one, written_more, written_before}

-- ---- the list

fit_length : (old : List ℕ) (at : ℕ) (new : List ℕ) → length (put_fit old at new) ≡ length old
unfolding put_fit written
fit_length old at new = simp (length-append, length-take, length-drop) (omega arith)

-- with room for all words, and for none
fit_all : (old : List ℕ) (at : ℕ) (new : List ℕ) → at + length new ≤ length old → put_fit old at new ≡ written old at new
unfolding put_fit
fit_all old at new h = rw (take_all (length old - at) new (omega arith))

fit_past : (old : List ℕ) (at : ℕ) (new : List ℕ) → length old ≤ at → put_fit old at new ≡ old
unfolding put_fit
fit_past old at new h = let none : length old - at ≡ 0 = omega arith in rw none (sym (written_none old at))

-- of two texts, the first alone where it has no room, and else what there is room for of the second
fit_first : (old : List ℕ) (at : ℕ) (first second : List ℕ) → length old ≤ at + length first → put_fit old at (first ++ second) ≡ put_fit old at first
unfolding put_fit
fit_first old at first second h = rw (take-append-le (length old - at) first second (omega arith))

fit_both : (old : List ℕ) (at : ℕ) (first second : List ℕ) → at + length first ≤ length old
    → put_fit old at (first ++ second) ≡ written old at (first ++ take (length old - (at + length first)) second)
unfolding put_fit
fit_both old at first second h =
    let room : length old - at ≡ length first + (length old - (at + length first)) = omega arith in
    rw (room, take-append-add first second (length old - (at + length first)))

fit_is : (old : List ℕ) (at : ℕ) (new : List ℕ) (room : ℕ) → room ≡ length old - at → put_fit old at new ≡ written old at (take room new)
unfolding put_fit
fit_is old at new room e = rw e

-- one text after another, and one before another that was put first
fit_more : (old : List ℕ) (at : ℕ) (first second : List ℕ) → put_fit (put_fit old at first) (at + length first) second ≡ put_fit old at (first ++ second)
fit_more old at first second = go (dec_le (at + length first) (length old))
  where
    go : Dec (at + length first ≤ length old) → put_fit (put_fit old at first) (at + length first) second ≡ put_fit old at (first ++ second)
    go (yes h) =
        rw (
          fit_both old at first second h,
          fit_is (put_fit old at first) (at + length first) second (length old - (at + length first)) (omega (arith, fit_length old at first)),
          fit_all old at first h,
        )
        (written_more old at (at + length first) first (take (length old - (at + length first)) second) h refl)
    go (no h) = rw (fit_first old at first second (omega arith), fit_past (put_fit old at first) (at + length first) second (omega (arith, fit_length old at first)))

fit_before : (old : List ℕ) (at : ℕ) (front back : List ℕ) → put_fit (put_fit old (at + length front) back) at front ≡ put_fit old at (front ++ back)
fit_before old at front back = go (dec_le (at + length front) (length old))
  where
    go : Dec (at + length front ≤ length old) → put_fit (put_fit old (at + length front) back) at front ≡ put_fit old at (front ++ back)
    go (yes h) =
        rw (
          fit_both old at front back h,
          fit_all (put_fit old (at + length front) back) at front (omega (arith, fit_length old (at + length front) back)),
          fit_is old (at + length front) back (length old - (at + length front)) refl,
        )
        (written_before old at (at + length front) front (take (length old - (at + length front)) back) refl (omega (arith, length-take (length old - (at + length front)) back)))
    go (no h) = rw (fit_past old (at + length front) back (omega arith), fit_first old at front back (omega arith))

-- ---- what was put

-- with room for all of it
pub put_room : {old new after : List ℕ} {at next : ℕ} → Put old at new next after → next ≤ length old → after ≡ written old at new
put_room {old} {new} {after} {at} {next} p h = p.words ∙ fit_all old at new (omega (arith, p.end, h))

-- the length stays
pub put_length : {old new after : List ℕ} {at next : ℕ} → Put old at new next after → length after ≡ length old
put_length {old} {new} {after} {at} {next} p = rw p.words (fit_length old at new)

-- past the end
pub put_past : (old : List ℕ) (at : ℕ) (new : List ℕ) → length old ≤ at → Put old at new (at + length new) old
put_past old at new h = record { end = refl; words = sym (fit_past old at new h) }

-- one byte inside
pub put_one : (old : List ℕ) (at byte : ℕ) → at < length old → Put old at (byte ∷ []) (at + 1) (set old at byte)
put_one old at byte h = record { end = refl; words = rw (fit_all old at (byte ∷ []) (omega arith)) (written_one old at byte h) }

-- nothing
pub put_none : (old : List ℕ) (at : ℕ) → Put old at [] at old
unfolding put_fit
put_none old at = record { end = omega arith; words = rw (take-nil (length old - at)) (written_none old at) }

-- one text after another, and one before another that was put first
infixl 20 ◌then◌
pub ◌then◌ : {old middle last first second : List ℕ} {at next end : ℕ} → Put old at first next middle → Put middle next second end last → Put old at (first ++ second) end last
◌then◌ {old} {middle} {last} {first} {second} {at} {next} {end} p q = record {
  end = omega (arith, p.end, q.end, length-append first second);
  words = q.words ∙ rw (p.words, p.end) (fit_more old at first second);
}

pub put_before : {old middle last front back : List ℕ} {at next end after : ℕ} → next ≡ at + length front → Put old next back end middle → Put middle at front after last
    → Put old at (front ++ back) end last
put_before {old} {middle} {last} {front} {back} {at} {next} {end} {after} e p q = record {
  end = omega (arith, e, p.end, length-append front back);
  words = q.words ∙ rw (p.words, e) (fit_before old at front back);
}

-- ---- the loop that puts bytes

module _ (old piece : List ℕ) (at i : ℕ) {now : List ℕ} (h : Put old at (take i piece) (at + i) now) where
  -- one more
  pub put_next : i < length piece → at + i < length now → Put old at (take (i + 1) piece) (at + (i + 1)) (set now (at + i) (get_or piece i 0))
  put_next l k =
      let next : at + suc i ≡ at + i + 1 = omega arith in
      rw (add-one, take-suc piece i 0 l, next) (h then put_one now (at + i) (get_or piece i 0) k)

  -- all of them, or as many as there is room for
  pub put_all : length piece ≤ i → Put old at piece (at + length piece) now
  put_all l = record { end = refl; words = h.words ∙ rw (take_all i piece l) }

  pub put_full : i ≤ length piece → length now ≤ at + i → Put old at piece (at + length piece) now
  put_full l k =
      let end : at + i + length (drop i piece) ≡ at + length piece = omega (arith, length-drop i piece) in
      rw (take-append-drop i piece, end) at (h then put_past now (at + i) (drop i piece) k)

  -- so it is once the loop has put what fits
  pub put_ended : i ≡ min (length piece) (length now - at) → Put old at piece (at + length piece) now
  put_ended e = go (dec_le (length piece) i)
    where
      go : Dec (length piece ≤ i) → Put old at piece (at + length piece) now
      go (yes l) = put_all l
      go (no l) = put_full (omega arith) (omega arith)

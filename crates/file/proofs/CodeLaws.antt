-- What `section_at` and `sections_of` answer at each return, over plain values.
use Prim.Native.Nat.{ℕ, ◌+◌, ◌*◌, ◌-◌, ◌≤◌, ◌<◌}
use mathlib.Core.List.{List}
use mathlib.Core.Path.{◌≡◌, refl}
use native.Mathlib.Omega.{arith}
use native.Mathlib.Nat.{mul-le-mul, le_trans}
use lib.ListN.{length, drop, length-drop}
use borrow.Author.Tests.{lt-ltb, le-ltb}
use Rattle.file.specs.Word.{word_at}
use Rattle.file.specs.Answer.{Answer, refused, given, map_answer}
use Rattle.file.specs.Sections.{Section, section, sections_of, number_of, answer_of}
use Rattle.file.specs.Code.Counts.{counts_of, counted_of}
use Rattle.file.specs.declared.Counted.{Counted}
use Rattle.file.specs.declared.Sections.{Sections}
use Rattle.std.specs.Prelude.{Result, Ok, Err, IsErrAnd}
use Rattle.file.specs.declared.Refusal.{Refusal}
use Rattle.file.proofs.Answers.{map_given, map_refused}
use Rattle.file.proofs.Words.{word_first}
use Rattle.file.proofs.SectionLaws.{section_short, section_over, section_cut, section_whole, HeldAt, section_at}

-- a count that is at most its limit, times the size of a record
pub product_small : (size count limit : ℕ) → size ≤ 24 → count ≤ limit → limit ≤ 4096 → size * count ≤ 98304
product_small size count limit h k l = mul-le-mul h (le_trans k l)

module _ (law : List ℕ) (at limit size : ℕ) where
  -- too few bytes for a count
  pub found_short : length law - at < 4 → refused 2 ≡ map_answer (counted_of law) (section limit size (drop at law))
  found_short h = rw (section_short limit size (drop at law) (rw (length-drop at law) h))

  -- a count over its limit
  pub found_over : (count : ℕ) → 4 ≤ length law - at → count ≡ word_at law at → limit < count
      → refused 4 ≡ map_answer (counted_of law) (section limit size (drop at law))
  found_over count h e k =
      rw (section_over limit size (drop at law) (rw (length-drop at law) h) (rw (word_first law at, ← e) k))

  -- too few bytes for the records
  pub found_cut : (count : ℕ) → 4 ≤ length law - at → count ≡ word_at law at → count ≤ limit → length law - at - 4 < size * count
      → refused 2 ≡ map_answer (counted_of law) (section limit size (drop at law))
  found_cut count h e k l =
      rw (section_cut limit size (drop at law) (rw (length-drop at law) h) (rw (word_first law at, ← e) k) (rw (length-drop at law, word_first law at, ← e) l))

  -- a section
  pub found_part : (count : ℕ) → at ≤ length law → 4 ≤ length law - at → count ≡ word_at law at → count ≤ limit → size * count ≤ length law - at - 4
      → given (record { count = count; end = at + 4 + size * count }) ≡ map_answer (counted_of law) (section limit size (drop at law))
  found_part count b h e k l =
      let past : length law - length (drop (4 + size * count) (drop at law)) ≡ at + 4 + size * count = simp length-drop (omega arith) in
      rw (section_whole limit size (drop at law) (rw (length-drop at law) h) (rw (word_first law at, ← e) k) (rw (length-drop at law, word_first law at, ← e) l), word_first law at, ← e, past)

-- the code found a section at a position
abbrev FoundAt : (law : List ℕ) (limit size at : ℕ) → Counted → Type 0
FoundAt law limit size at p = given p ≡ map_answer (counted_of law) (section limit size (drop at law))

-- what is known of it, from the position after it on
pub record Reached (law : List ℕ) (limit size at : ℕ) (p : Counted) : Type 0 where
  pub found : Section
  pub whole : section limit size (drop at law) ≡ given (found, drop p.end law)
  pub count : found.count ≡ p.count
  pub inside : p.end ≤ length law

pub reached : (law : List ℕ) (limit size at : ℕ) (p : Counted) → FoundAt law limit size at p → Reached law limit size at p
reached law limit size at p g =
    map_given (counted_of law) (section limit size (drop at law)) p g λ x e q.
    let w : HeldAt limit size at law x = section_at limit size at law (drop at law) x refl e in
    let n : ℕ = size * word_at law at in
    let after : x.1 ≡ drop (at + 4 + n) law = w.after (at + 4 + n) refl in
    let count : x.0.count ≡ p.count = rw q in
    let end : p.end ≡ at + 4 + n = rw (q, after, length-drop (at + 4 + n) law) (omega (arith, w.inside)) in
    record {
      found = x.0;
      whole = rw (e, end, ← after);
      count = count;
      inside = omega (arith, w.inside);
    }

-- a section that is refused, handed on by `?`: `r` is what is answered
pub handed_on : (r : Result Sections Refusal) (why : Refusal) (a : Answer Sections) → IsErrAnd r (λ e. e ≡ why) → refused (number_of why) ≡ a → answer_of r ≡ a
handed_on (Ok s) why a h k = absurd h
handed_on (Err e) why a h k = rw h k

-- a file over its limit
pub file_over : (law : List ℕ) → 16384 < length law → refused 1 ≡ map_answer counts_of (sections_of law)
unfolding sections_of
file_over law h = rw (lt-ltb 16384 (length law) h)

-- the first section that is refused, by the number n
module _ (law : List ℕ) (small : length law ≤ 16384) (n : ℕ) where
  -- the code's answer says that it is
  abbrev TurnedBack : (limit size at : ℕ) → Type 0
  TurnedBack limit size at = refused n ≡ map_answer (counted_of law) (section limit size (drop at law))

  turned_back : (limit size at : ℕ) → TurnedBack limit size at → section limit size (drop at law) ≡ refused n
  turned_back limit size at h = map_refused (counted_of law) (section limit size (drop at law)) n h

  -- what is then answered
  abbrev Answered : Type 0
  Answered = refused n ≡ map_answer counts_of (sections_of law)

  -- no section stands before it
  pub text_refused : TurnedBack 4096 1 0 → Answered
  unfolding sections_of
  text_refused h = rw (le-ltb 16384 (length law) small, turned_back 4096 1 0 h)

  module _ (t : Counted) (w₁ : FoundAt law 4096 1 0 t) where
    -- the text stands before it
    pub functions_refused : TurnedBack 64 20 t.end → Answered
    unfolding sections_of
    functions_refused h = rw (le-ltb 16384 (length law) small, (reached law 4096 1 0 t w₁).whole, turned_back 64 20 t.end h)

    module _ (f : Counted) (w₂ : FoundAt law 64 20 t.end f) where
      -- the text and the functions stand before it
      pub sentences_refused : TurnedBack 128 20 f.end → Answered
      unfolding sections_of
      sentences_refused h = rw (le-ltb 16384 (length law) small, (reached law 4096 1 0 t w₁).whole, (reached law 64 20 t.end f w₂).whole, turned_back 128 20 f.end h)

      module _ (s : Counted) (w₃ : FoundAt law 128 20 f.end s) where
        -- the text, the functions and the sentences stand before it
        pub conditions_refused : TurnedBack 128 16 s.end → Answered
        unfolding sections_of
        conditions_refused h = rw (le-ltb 16384 (length law) small, (reached law 4096 1 0 t w₁).whole, (reached law 64 20 t.end f w₂).whole, (reached law 128 20 f.end s w₃).whole, turned_back 128 16 s.end h)

        module _ (k : Counted) (w₄ : FoundAt law 128 16 s.end k) where
          -- all but the last stand before it
          pub terms_refused : TurnedBack 512 24 k.end → Answered
          unfolding sections_of
          terms_refused h = rw (le-ltb 16384 (length law) small, (reached law 4096 1 0 t w₁).whole, (reached law 64 20 t.end f w₂).whole, (reached law 128 20 f.end s w₃).whole, (reached law 128 16 s.end k w₄).whole, turned_back 512 24 k.end h)

-- all five sections stand
module _ (law : List ℕ) (small : length law ≤ 16384) (t f s k m : Counted) (w₁ : FoundAt law 4096 1 0 t) (w₂ : FoundAt law 64 20 t.end f)
    (w₃ : FoundAt law 128 20 f.end s) (w₄ : FoundAt law 128 16 s.end k) (w₅ : FoundAt law 512 24 k.end m) where
  -- bytes after the last section
  pub left_over : m.end < length law → refused 3 ≡ map_answer counts_of (sections_of law)
  unfolding sections_of
  left_over h =
      let more : 0 < length (drop m.end law) = rw (length-drop m.end law) (omega arith) in
      rw (le-ltb 16384 (length law) small, (reached law 4096 1 0 t w₁).whole, (reached law 64 20 t.end f w₂).whole, (reached law 128 20 f.end s w₃).whole, (reached law 128 16 s.end k w₄).whole, (reached law 512 24 k.end m w₅).whole, lt-ltb 0 (length (drop m.end law)) more)

  -- none
  pub all_given : length law ≤ m.end
      → given (record { text = t.count; functions = f.count; sentences = s.count; conditions = k.count; terms = m.count })
      ≡ map_answer counts_of (sections_of law)
  unfolding sections_of
  all_given h =
      let none : length (drop m.end law) ≤ 0 = rw (length-drop m.end law) (omega arith) in
      rw (
        le-ltb 16384 (length law) small,
        (reached law 4096 1 0 t w₁).whole,
        (reached law 64 20 t.end f w₂).whole,
        (reached law 128 20 f.end s w₃).whole,
        (reached law 128 16 s.end k w₄).whole,
        (reached law 512 24 k.end m w₅).whole,
        le-ltb 0 (length (drop m.end law)) none,
        (reached law 4096 1 0 t w₁).count,
        (reached law 64 20 t.end f w₂).count,
        (reached law 128 20 f.end s w₃).count,
        (reached law 128 16 s.end k w₄).count,
        (reached law 512 24 k.end m w₅).count,
      )

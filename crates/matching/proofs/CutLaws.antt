-- Parts of the term records, cut where the matchers cut them: a part of a part, and a row up to where a term begins.
use Prim.Native.Nat.{ℕ, zero, suc, ◌+◌, ◌-◌, ◌≤◌}
use mathlib.Core.List.{List}
use mathlib.Core.Path.{◌≡◌, refl, sym, ap, ◌∙◌}
use native.Mathlib.Omega.{arith}
use native.Mathlib.Nat.{add-zero}
use lib.ListN.{length, take, drop, length-take, length-drop}
use lib.Seq.{take_all, take-take, drop-drop}
use Rattle.file.specs.Word.{word_at}
use Rattle.file.specs.Forest.{contents, rest}
use Rattle.file.specs.Head.{term_at}
use Rattle.law.specs.Expression.{nothing, ◌⊕◌}
use Rattle.file.specs.declared.Term.{Term}
use Rattle.file.specs.declared.Term.TheVariants.{Symbol as Symbolic, SVariable, TVariable, EVariable, Bracket, Call, Block}
use Rattle.law.specs.Runs.{end_of}
use Rattle.law.proofs.Parts.{drop_take, part_part, part_word}
use Rattle.law.proofs.RunLaws.{end_low, end_high}
use Rattle.matching.specs.Pattern.{Pattern}
use Rattle.matching.specs.Code.Part.{row_of, from, Begin, at_start, one_on, Stands, term_row}
use Rattle.matching.proofs.PartLaws.{row_empty, row_node}

-- ---- what is left from a position on

pub from_drop : (n : ℕ) (s : List ℕ) → from n s ≡ drop n s
from_drop n s = take_all (length s - n) (drop n s) (omega (arith, length-drop n s))

pub from_length : (n : ℕ) (s : List ℕ) → length (from n s) ≡ length s - n
from_length n s = rw (from_drop n s) (length-drop n s)

pub from_from : (m n : ℕ) (s : List ℕ) → from m (from n s) ≡ from (n + m) s
from_from m n s = from_drop m (from n s) ∙ ap (drop m) (from_drop n s) ∙ drop-drop m n s ∙ sym (from_drop (n + m) s)

pub from_all : (s : List ℕ) → from 0 s ≡ s
from_all s = from_drop 0 s

-- ---- a part of a part stands among the term records too

pub stands_part : (terms part : List ℕ) (at a e : ℕ) → Stands terms part at → a ≤ e → e ≤ length part → Stands terms (take (e - a) (drop a part)) (at + a)
stands_part terms part at a e s low high =
    let size : length (take (e - a) (drop a part)) ≡ e - a = length-take (e - a) (drop a part) ∙ omega (arith, length-drop a part) in
    let cut : take (e - a) (drop a (take (length part) (drop at terms))) ≡ take (e - a) (drop (at + a) terms) =
    part_part at (length part) a (e - a) terms (omega arith) in
    record {
      inside = omega (arith, size, s.inside);
      same = ap (λ p. take (e - a) (drop a p)) s.same ∙ cut ∙ ap (λ n. take n (drop (at + a) terms)) (sym size);
    }

pub stands_from : (terms part : List ℕ) (at a : ℕ) → Stands terms part at → a ≤ length part → Stands terms (from a part) (at + a)
stands_from terms part at a s h = stands_part terms part at a (length part) s h (omega arith)

-- its first record, and its first bytes, are found there
pub stands_term : (terms part : List ℕ) (at : ℕ) → Stands terms part at → 24 ≤ length part → term_at part 0 ≡ term_at terms at
unfolding term_at
stands_term terms part at s h =
    let word : (k : ℕ) → k + 4 ≤ 24 → word_at part k ≡ word_at terms (at + k) =
    λ k low. ap (λ p. word_at p k) s.same ∙ part_word at (length part) k terms (omega arith) in
    let start : at + 0 ≡ at = add-zero at in
    rw (word 0 (omega arith), word 4 (omega arith), word 8 (omega arith), start)

pub stands_take : (terms part : List ℕ) (at n : ℕ) → Stands terms part at → n ≤ length part → take n part ≡ take n (drop at terms)
stands_take terms part at n s h = ap (take n) s.same ∙ take-take n (length part) (drop at terms) h

-- ---- a row up to where a term begins

-- a cut behind the first term leaves that term's end where it was
end_take : (k : ℕ) (s : List ℕ) → 24 ≤ length s → end_of s ≤ k → k ≤ length s → end_of (take k s) ≡ end_of s
unfolding end_of
end_take k s some low high =
    let word : word_at (take k s) 12 ≡ word_at s 12 = part_word 0 k 12 s (omega (arith, end_low s some)) in
    let size : length (take k s) ≡ k = length-take k s ∙ omega arith in
    rw (word, size) (omega arith)

term_take : (k : ℕ) (s : List ℕ) → 24 ≤ k → term_at (take k s) 0 ≡ term_at s 0
unfolding term_at
term_take k s h = rw (part_word 0 k 0 s (omega arith), part_word 0 k 4 s (omega arith), part_word 0 k 8 s (omega arith))

pub take_node : (text : List ℕ) (k : ℕ) (s : List ℕ) → 24 ≤ length s → end_of s ≤ k → k ≤ length s
    → row_of text (take k s) ≡ term_row text (term_at s 0) (row_of text (contents 24 end_of s)) (row_of text (take (k - end_of s) (rest 24 end_of s)))
take_node text k s some low high =
    let first : 24 ≤ end_of s = end_low s some in
    let size : length (take k s) ≡ k = length-take k s ∙ omega arith in
    let inside : contents 24 end_of (take k s) ≡ contents 24 end_of s =
    ap (λ e. take (e - 24) (drop 24 (take k s))) (end_take k s some low high)
    ∙ ap (take (end_of s - 24)) (drop_take 24 k s)
    ∙ take-take (end_of s - 24) (k - 24) (drop 24 s) (omega arith) in
    let left : rest 24 end_of (take k s) ≡ take (k - end_of s) (rest 24 end_of s) =
    ap (λ e. from e (take k s)) (end_take k s some low high)
    ∙ from_drop (end_of s) (take k s)
    ∙ drop_take (end_of s) k s
    ∙ ap (take (k - end_of s)) (sym (from_drop (end_of s) s)) in
    rw (row_node text (take k s) (omega arith), term_take k s (omega arith), inside, left)

-- a term before a row that is put together
row_join : (text : List ℕ) (x : Term) (c y z : Pattern) → term_row text x c (y ⊕ z) ≡ term_row text x c y ⊕ z
row_join text (Symbolic x) c y z = refl
row_join text (SVariable a b) c y z = refl
row_join text (TVariable a b) c y z = refl
row_join text (EVariable a b) c y z = refl
row_join text Bracket c y z = refl
row_join text (Call a b) c y z = refl
row_join text (Block n) c y z = refl

-- where a term begins
pub begin_inside : {part : List ℕ} {n : ℕ} → Begin part n → n ≤ length part
begin_inside at_start = omega arith
begin_inside {part} (one_on {n} some b) = omega (arith, end_high (from n part), from_length n part, begin_inside b)

-- a position is the start, or one in the rest
pub data Ahead (part : List ℕ) (n : ℕ) : Type 0 where
  here : n ≡ 0 → Ahead part n
  there : (m : ℕ) → 24 ≤ length part → n ≡ end_of part + m → Begin (rest 24 end_of part) m → Ahead part n

ahead : {part : List ℕ} {n : ℕ} → Begin part n → Ahead part n
ahead at_start = here refl
ahead {part} (one_on {n} some b) = go (ahead b)
  where
    go : Ahead part n → Ahead part (n + end_of (from n part))
    go (here e) =
        let whole : from n part ≡ part = ap (λ k. from k part) e ∙ from_all part in
        there 0 (rw whole at some) (rw (whole, e) (omega arith)) at_start
    go (there m long e later) =
        let same : from n part ≡ from m (rest 24 end_of part) = ap (λ k. from k part) e ∙ sym (from_from m (end_of part) part) in
        there (m + end_of (from m (rest 24 end_of part))) long (rw same (omega arith)) (one_on (rw same at some) later)

module _ (text : List ℕ) where
  -- the first term of a part, alone
  abbrev pub alone : List ℕ → Pattern
  alone s = term_row text (term_at s 0) (row_of text (contents 24 end_of s)) nothing

  -- the row up to a position, and up to the position one term on
  one_term : (k : ℕ) (part : List ℕ) (n : ℕ) → length part ≤ k → Begin part n → 24 ≤ length (from n part)
      → row_of text (take (n + end_of (from n part)) part) ≡ row_of text (take n part) ⊕ alone (from n part)
  one_term zero part n h b some = absurd (omega (arith, from_length n part))
  one_term (suc k) part n h b some = go (ahead b) (λ m long later. one_term k (rest 24 end_of part) m (omega (arith, from_length (end_of part) part, end_low part long)) later)
    where
      go : Ahead part n
          → ((m : ℕ) → 24 ≤ length part → Begin (rest 24 end_of part) m → 24 ≤ length (from m (rest 24 end_of part))
          → row_of text (take (m + end_of (from m (rest 24 end_of part))) (rest 24 end_of part))
          ≡ row_of text (take m (rest 24 end_of part)) ⊕ alone (from m (rest 24 end_of part)))
          → row_of text (take (n + end_of (from n part)) part) ≡ row_of text (take n part) ⊕ alone (from n part)
      go (here e) next =
          let whole : from n part ≡ part = ap (λ k. from k part) e ∙ from_all part in
          let some_here : 24 ≤ length part = rw whole at some in
          let end : n + end_of part ≡ end_of part = omega arith in
          let done : end_of part - end_of part ≡ 0 = omega arith in
          rw (
            whole,
            end,
            e,
            take_node text (end_of part) part some_here (omega arith) (end_high part),
            done,
            row_empty text (take 0 part) (omega arith),
          )
      go (there m long e later) next =
          let same : from n part ≡ from m (rest 24 end_of part) = ap (λ k. from k part) e ∙ sym (from_from m (end_of part) part) in
          let last : ℕ = end_of (from m (rest 24 end_of part)) in
          let some_later : 24 ≤ length (from m (rest 24 end_of part)) = rw same at some in
          let end : n + last ≤ length part = omega (arith, end_high (from m (rest 24 end_of part)), from_length m (rest 24 end_of part), from_length (end_of part) part, begin_inside later) in
          let behind : n + last - end_of part ≡ m + last = omega arith in
          let before : n - end_of part ≡ m = omega arith in
          rw (
            same,
            take_node text (n + last) part long (omega arith) end,
            behind,
            next m long later some_later,
            row_join text (term_at part 0) (row_of text (contents 24 end_of part)) (row_of text (take m (rest 24 end_of part))) (alone (from m (rest 24 end_of part))),
            take_node text n part long (omega arith) (omega arith),
            before,
          )

  pub one_more : (part : List ℕ) (n : ℕ) → Begin part n → 24 ≤ length (from n part)
      → row_of text (take (n + end_of (from n part)) part) ≡ row_of text (take n part) ⊕ alone (from n part)
  one_more part n b some = one_term (length part) part n (omega arith) b some

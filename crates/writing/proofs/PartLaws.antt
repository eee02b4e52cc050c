-- Laws for the loops over a run of terms.
use Prim.Native.Nat.{ℕ, zero, suc, ◌+◌, ◌≤◌, ◌<◌}
use mathlib.Core.List.{List, [], ◌∷◌}
use mathlib.Core.Bool.{Bool, true, false}
use mathlib.Core.Path.{◌≡◌, sym, ◌∙◌}
use native.Mathlib.Omega.{arith}
use native.Mathlib.Numerals.{add-one}
use lib.ListN.{length, drop, get_or}
use lib.Dec.{eqb}
use borrow.Author.Tests.{ne_eqb}
use Rattle.tokens.specs.Token.{Placed}
use Rattle.encoding.specs.Code.FlatTerms.{kind_at, end_at, weight}
use Rattle.encoding.specs.Code.FlatFile.{parts, part_records, part_end}
use Rattle.writing.specs.Code.Held.{Held, Stands, Stand}
use Rattle.writing.specs.Code.Found.{run_state}
use Rattle.writing.proofs.HeldLaws.{none_left, TokenAt, token_at}

pub parts_last : (k : ℕ) → (k ≡ 44 → ⊥) → (k ≡ 58 → ⊥) → (k ≡ 61 → ⊥) → (k ≡ 59 → ⊥) → eqb k 125 ≡ parts k
parts_last k a b c d = rw (ne_eqb k 44 a, ne_eqb k 58 b, ne_eqb k 61 c, ne_eqb k 59 d)

-- a token of a text stands there
stand_from : (text : List ℕ) (ts : List Placed) (i : ℕ) → Stand text ts → Stand text (drop i ts)
stand_from text ts zero h = h
stand_from text [] (suc i) h = tt
stand_from text (p ∷ ts) (suc i) h = stand_from text ts i h.1

pub stands_at : (text : List ℕ) {ks ss es : List ℕ} {ts : List Placed} {i : ℕ} → Stand text ts → (t : TokenAt ks ss es ts i) → Stands text t.here
stands_at text {ts = ts} {i = i} h t = (rw t.rest at (stand_from text ts i h)).0

module _ {ks ss es : List ℕ} {ts : List Placed} (h : Held ks ss es ts) {i : ℕ} where
  -- ---- the records

  -- where the run ends, by a token or with the tokens
  pub records_stop : {t : Bool} {n m : ℕ} (b : Bool) → i < length ks → t ≡ parts (get_or ks i 0) → t ≡ true → m ≡ n + part_records (run_state b) (drop i ts) → n ≡ m
  records_stop {t = t} {n = n} b l e f g =
      let at = token_at h i l in
      let none : part_records (run_state b) (drop i ts) ≡ 0 = rw (at.rest, ← at.kind, ← e, f) in
      omega (arith, g)

  pub records_end : {n m : ℕ} (b : Bool) → length ks ≤ i → m ≡ n + part_records (run_state b) (drop i ts) → n ≡ m
  records_end b l g =
      let none : part_records (run_state b) (drop i ts) ≡ 0 = rw (none_left h i l) in
      omega (arith, g)

  -- or goes on
  pub records_next : (text : List ℕ) {t : Bool} (n : ℕ) {m w start end : ℕ} (b : Bool) → Stand text ts → i < length ks → t ≡ parts (get_or ks i 0) → t ≡ false
      → start ≡ get_or ss i 0 → end ≡ get_or es i 0
      → ((p : Placed) → get_or ks i 0 ≡ kind_at p → start ≡ p.start → end ≡ end_at p → Stands text p → w ≡ weight (run_state b) p)
      → m ≡ n + part_records (run_state b) (drop i ts) → m ≡ n + w + part_records (run_state (eqb (get_or ks i 0) 60)) (drop (i + 1) ts)
  records_next text {t = t} n {w = w} b st l e f s en wt g =
      let at = token_at h i l in
      let own : w ≡ weight (run_state b) at.here = wt at.here at.kind (s ∙ at.start) (en ∙ at.end) (stands_at text st at) in
      let next : part_records (run_state b) (drop i ts) ≡ w + part_records (run_state (eqb (get_or ks i 0) 60)) (drop (i + 1) ts) =
      rw (at.rest, ← own, ← at.kind, ← e, f, add-one i) in
      omega (arith, g, next)

  -- ---- the end

  pub end_stop : {t : Bool} {n m : ℕ} → i < length ks → t ≡ parts (get_or ks i 0) → t ≡ true → m ≡ part_end n (drop i ts) → n ≡ m
  end_stop l e f g = let at = token_at h i l in sym (g ∙ rw (at.rest, ← at.kind, ← e, f))

  pub end_end : {n m : ℕ} → length ks ≤ i → m ≡ part_end n (drop i ts) → n ≡ m
  end_end l g = sym (g ∙ rw (none_left h i l))

  pub end_next : {t : Bool} (n : ℕ) {m e' : ℕ} → i < length ks → t ≡ parts (get_or ks i 0) → t ≡ false → e' ≡ get_or es i 0 → m ≡ part_end n (drop i ts) → m ≡ part_end e' (drop (i + 1) ts)
  end_next n l e f s g = let at = token_at h i l in g ∙ rw (at.rest, ← at.kind, ← e, f, s, at.end, add-one i)

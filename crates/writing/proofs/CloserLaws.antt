-- Laws for the arrays of closing signs and of numbers of records.
use Prim.Native.Nat.{ℕ, zero, suc, ◌+◌, ◌-◌, ◌≤◌, ◌<◌}
use mathlib.Core.List.{List, [], ◌∷◌}
use mathlib.Core.Bool.{Bool, true, false, cond}
use mathlib.Core.Path.{◌≡◌, refl, sym, ap, ◌∙◌}
use native.Mathlib.Omega.{arith}
use native.Mathlib.Numerals.{add-one}
use native.Mathlib.Nat.{zero-add, add-zero}
use lib.ListN.{length, drop, get_or, set, drop_of_length-le, length-drop}
use lib.Seq.{drop-cons, drop-drop, get_or-drop, get_or-set_same, get_or-set_other}
use lib.Dec.{eqb, ltb}
use borrow.Author.Tests.{eqb-true, eqb-false, lt-ltb, le-ltb, ltb-true, ltb-false}
use Rattle.tokens.specs.Token.{Placed}
use Rattle.tokens.specs.Code.Arrays.{kinds_of, ends_of, kinds_in, ends_in}
use Rattle.tokens.specs.declared.Lexeme.{Lexeme}
use Rattle.encoding.specs.Code.FlatTerms.{Where, inside, state_after, opens, closes, kind_at, end_at, weight, add, closed, scan}
use Rattle.writing.specs.Code.Held.{Held, HeldIn, Stands, Stand}
use Rattle.writing.specs.Code.Found.{run_state}
use Rattle.writing.specs.Code.Closers.{unless_last, before, closer_of, From, ClosedFrom, total, called_at, sum_of, SummedFrom, held_before, closers_in, sums_in, Nested}
use Rattle.writing.specs.declared.brackets.Ahead.{Ahead}
use Rattle.writing.proofs.HeldLaws.{kinds_drop, ends_drop, kinds_length, tokens_length, token_at}
use Rattle.writing.proofs.PartLaws.{stands_at}
use Rattle.writing.proofs.ScanLaws.{state_closing, weight_closing}

-- ---- an array that is filled from its end

pub from_end : (end : ℕ) (list : List ℕ) (f : ℕ → ℕ) → From end end list f
from_end end list f j h l = absurd (omega (arith, h, l))

pub from_set : {i p end : ℕ} (list : List ℕ) (f : ℕ → ℕ) {v : ℕ} → i ≡ p + 1 → p < length list → v ≡ f p → From i end list f → From p end (set list p v) f
from_set {i = i} {p = p} list f {v = v} s l e h j g m = go (eqb j p) refl
  where
    later : (j ≡ p → ⊥) → i ≤ j
    later n = omega (arith, s, g, n)

    go : (b : Bool) → eqb j p ≡ b → get_or (set list p v) j 0 ≡ f j
    go true t = let n : j ≡ p = eqb-true j p t in rw n (get_or-set_same list p v 0 l ∙ e)
    go false t = let n = eqb-false j p t in get_or-set_other list p j v 0 n ∙ h j (later n) m

pub held_from : {i end other : ℕ} (list : List ℕ) (f : ℕ → ℕ) (j : ℕ) → From i end list f → i ≤ j → j ≤ end → other ≡ f end → held_before end list other j ≡ f j
held_from {end = end} {other = other} list f j h l m e = go (ltb j end) refl
  where
    go : (b : Bool) → ltb j end ≡ b → cond b (get_or list j 0) other ≡ f j
    go true t = h j l (ltb-true j end t)
    go false t = let n : j ≡ end = omega (arith, m, ltb-false j end t) in rw n e

pub held_past : {end i : ℕ} (list : List ℕ) (other : ℕ) → end ≤ i → other ≡ held_before end list other i
held_past {end = end} {i = i} list other l = rw (le-ltb i end l)

pub held_inside : {end i v : ℕ} (list : List ℕ) (other : ℕ) → i < end → v ≡ get_or list i 0 → v ≡ held_before end list other i
held_inside {end = end} {i = i} list other l e = rw (lt-ltb i end l) e

-- ---- the number of tokens before a closing sign

-- with a token before the others, by whether it closes and whether it opens
abbrev counted : (ℕ → ℕ) → Bool → Bool → ℕ → ℕ
counted later c o n = cond c (unless_last n later) (suc (later (cond o (suc n) n)))

before_all : (d : ℕ) (ks : List ℕ) → before d ks ≤ length ks
unfolding before
before_all d [] = omega arith
before_all d (k ∷ ks) = go (closes k) (opens k) d (λ e. before_all e ks)
  where
    go : (c o : Bool) (d : ℕ) → ((e : ℕ) → before e ks ≤ length ks) → counted (λ e. before e ks) c o d ≤ suc (length ks)
    go true o zero ih = omega arith
    go true o (suc d) ih = omega (arith, ih d)
    go false true d ih = omega (arith, ih (suc d))
    go false false d ih = omega (arith, ih d)

-- with more open: behind the sign that closes the inner ones, the others are left
before_more : (n d m : ℕ) (ks : List ℕ) → m ≡ n + suc d → before n ks < length ks → before m ks ≡ before n ks + suc (before d (drop (suc (before n ks)) ks))
unfolding before
before_more n d m [] s h = absurd (omega (arith, h))
before_more n d m (k ∷ ks) s h = go (closes k) (opens k) n m (λ n m. before_more n d m ks) s h
  where
    go : (c o : Bool) (n m : ℕ)
        → ((n m : ℕ) → m ≡ n + suc d → before n ks < length ks → before m ks ≡ before n ks + suc (before d (drop (suc (before n ks)) ks)))
        → m ≡ n + suc d → counted (λ e. before e ks) c o n < suc (length ks)
        → counted (λ e. before e ks) c o m ≡ counted (λ e. before e ks) c o n + suc (before d (drop (counted (λ e. before e ks) c o n) ks))
    go true o zero zero ih s g = absurd (omega (arith, s))
    go true o zero (suc m) ih s g = let n : m ≡ d = omega (arith, s) in rw n (sym (zero-add (suc (before d ks))))
    go true o (suc n) zero ih s g = absurd (omega (arith, s))
    go true o (suc n) (suc m) ih s g = omega (arith, ih n m (omega (arith, s)) (omega (arith, g)))
    go false true n m ih s g = omega (arith, ih (suc n) (suc m) (omega (arith, s)) (omega (arith, g)))
    go false false n m ih s g = omega (arith, ih n m s (omega (arith, g)))

-- where nothing closes the inner ones, nothing closes the others
before_none : (n m : ℕ) (ks : List ℕ) → n ≤ m → length ks ≤ before n ks → before m ks ≡ length ks
unfolding before
before_none n m [] s h = refl
before_none n m (k ∷ ks) s h = go (closes k) (opens k) n m (λ n m. before_none n m ks) s h
  where
    go : (c o : Bool) (n m : ℕ) → ((n m : ℕ) → n ≤ m → length ks ≤ before n ks → before m ks ≡ length ks) → n ≤ m
        → suc (length ks) ≤ counted (λ e. before e ks) c o n → counted (λ e. before e ks) c o m ≡ suc (length ks)
    go true o zero m ih s g = absurd (omega (arith, g))
    go true o (suc n) zero ih s g = absurd (omega (arith, s))
    go true o (suc n) (suc m) ih s g = ap suc (ih n m (omega (arith, s)) (omega (arith, g)))
    go false true n m ih s g = ap suc (ih (suc n) (suc m) (omega (arith, s)) (omega (arith, g)))
    go false false n m ih s g = ap suc (ih n m s (omega (arith, g)))

-- ---- the closing sign of a place from those of the places after it

-- of a token and those after it
closing : (k : ℕ) (ks : List ℕ) → closes k ≡ true → before 0 (k ∷ ks) ≡ 0
unfolding before
closing k ks c = rw c

plain : (k : ℕ) (ks : List ℕ) → closes k ≡ false → opens k ≡ false → before 0 (k ∷ ks) ≡ suc (before 0 ks)
unfolding before
plain k ks c o = rw (c, o)

opening : (k : ℕ) (ks : List ℕ) → closes k ≡ false → opens k ≡ true → before 0 (k ∷ ks) ≡ suc (before 1 ks)
unfolding before
opening k ks c o = rw (c, o)

-- past the last token
past : (kinds : List ℕ) → length kinds ≡ closer_of kinds (length kinds)
unfolding before
past kinds = rw (drop_of_length-le kinds {i = length kinds} (omega arith)) (sym (add-zero (length kinds)))

module _ (kinds : List ℕ) {i k : ℕ} (l : i < length kinds) (e : k ≡ get_or kinds i 0) where
  abbrev rest : List ℕ
  rest = drop (suc i) kinds

  here : {n : ℕ} → before 0 (k ∷ rest) ≡ n → before 0 (drop i kinds) ≡ n
  here h = ap (before 0) (rw e (drop-cons kinds i 0 l)) ∙ h

  pub closer_here : closes k ≡ true → i ≡ closer_of kinds i
  closer_here c = omega (arith, here (closing k rest c))

  module _ (closers : List ℕ) {inner : ℕ} (c : closes k ≡ false) (h : ClosedFrom (i + 1) kinds closers) (g : inner ≡ held_before (length kinds) closers (length kinds) (i + 1)) where
    after : (j : ℕ) → i + 1 ≤ j → j ≤ length kinds → held_before (length kinds) closers (length kinds) j ≡ closer_of kinds j
    after j m n = held_from closers (closer_of kinds) j h m n (past kinds)

    inner_is : inner ≡ suc i + before 0 rest
    inner_is = g ∙ after (i + 1) (omega arith) (omega (arith, l)) ∙ rw (add-one i)

    pub closer_plain : opens k ≡ false → inner ≡ closer_of kinds i
    closer_plain o = omega (arith, inner_is, here (plain k rest c o))

    module _ {r : ℕ} (o : opens k ≡ true) (f : r ≡ held_before (length kinds) closers (length kinds) (inner + 1)) where
      found : inner < length kinds → r ≡ closer_of kinds i
      found less =
          let more = before_more 0 0 1 rest (omega arith) (omega (arith, less, inner_is, length-drop (suc i) kinds, l)) in
          let same : suc i + suc (before 0 rest) ≡ inner + 1 = omega (arith, inner_is) in
          let moved : drop (suc (before 0 rest)) rest ≡ drop (inner + 1) kinds = drop-drop (suc (before 0 rest)) (suc i) kinds ∙ ap (λ z. drop z kinds) same in
          let outer : r ≡ closer_of kinds (inner + 1) = f ∙ after (inner + 1) (omega (arith, inner_is)) (omega (arith, less)) in
          omega (arith, outer, inner_is, more, ap (before 0) moved, here (opening k rest c o))

      none : length kinds ≤ inner → r ≡ closer_of kinds i
      none most =
          let all = before_none 0 1 rest (omega arith) (omega (arith, most, inner_is, length-drop (suc i) kinds)) in
          let end : r ≡ length kinds = f ∙ rw (le-ltb (inner + 1) (length kinds) (omega (arith, most))) in
          omega (arith, end, all, length-drop (suc i) kinds, l, here (opening k rest c o))

      pub closer_open : r ≡ closer_of kinds i
      closer_open = go (ltb inner (length kinds)) refl
        where
          go : (b : Bool) → ltb inner (length kinds) ≡ b → r ≡ closer_of kinds i
          go true t = found (ltb-true inner (length kinds) t)
          go false t = none (ltb-false inner (length kinds) t)

-- ---- the numbers of records

pub called_here : (kinds : List ℕ) {i : ℕ} → (i ≡ 0 → ⊥) → eqb (get_or kinds (i - 1) 0) 60 ≡ called_at kinds i
called_here kinds {i = zero} h = absurd (h refl)
called_here kinds {i = suc i} h = let less : suc i - 1 ≡ i = omega arith in rw less

pub sum_end : (kinds : List ℕ) {starts ends : List ℕ} {ts : List Placed} → Held kinds starts ends ts → 0 ≡ sum_of kinds ts (length kinds)
unfolding total
sum_end kinds {ts = ts} h = rw (drop_of_length-le ts {i = length kinds} (omega (arith, tokens_length h)))

pub sum_next : {kinds starts ends : List ℕ} {ts : List Placed} (h : Held kinds starts ends ts) {i p : ℕ} (text : List ℕ) {sum w start end : ℕ} {t : Bool} → i ≡ p + 1 → p < length kinds
    → Stand text ts → start ≡ get_or starts p 0 → end ≡ get_or ends p 0 → t ≡ called_at kinds p
    → ((q : Placed) → get_or kinds p 0 ≡ kind_at q → start ≡ q.start → end ≡ end_at q → Stands text q → w ≡ weight (run_state t) q)
    → sum ≡ sum_of kinds ts i → sum + w ≡ sum_of kinds ts p
unfolding total
sum_next {kinds = kinds} {ts = ts} h {i = i} {p = p} text {sum = sum} {w = w} {t = t} s l st a b c wt g =
    let at = token_at h p l in
    let own : w ≡ weight (run_state t) at.here = wt at.here at.kind (a ∙ at.start) (b ∙ at.end) (stands_at text st at) in
    let later : sum ≡ total (state_after (kind_at at.here)) (drop (suc p) ts) = g ∙ rw (s, add-one p, at.kind) in
    let both : sum_of kinds ts p ≡ weight (run_state t) at.here + total (state_after (kind_at at.here)) (drop (suc p) ts) = rw (at.rest, c) in
    omega (arith, own, later, both)

-- ---- the contents of a bracket or a call

-- their records, and those from the closing sign on, are all
scan_records : (v w : Where) (d : ℕ) (ts : List Placed) → (scan w d ts).records + total v (drop (before d (kinds_of ts)) ts) ≡ total w ts
unfolding before total
scan_records v w d [] = refl
scan_records v w d (p ∷ ps) = go (closes (kind_at p)) (opens (kind_at p)) d refl (λ w d. scan_records v w d ps)
  where
    own : closes (kind_at p) ≡ true → (u : Where) → weight u p ≡ 0
    own c u = weight_closing u p c

    go : (c o : Bool) (d : ℕ) → closes (kind_at p) ≡ c → ((w : Where) (d : ℕ) → (scan w d ps).records + total v (drop (before d (kinds_of ps)) ps) ≡ total w ps)
        → (cond c (closed (end_at p) d (λ e. scan inside e ps)) (add (weight w p) (scan (state_after (kind_at p)) (cond o (suc d) d) ps))).records
        + total v (drop (counted (λ e. before e (kinds_of ps)) c o d) (p ∷ ps))
        ≡ weight w p + total (state_after (kind_at p)) ps
    go true o zero c ih = omega (arith, own c v, own c w)
    go true o (suc d) c ih = rw (state_closing (kind_at p) c) (omega (arith, own c w, ih inside d))
    go false true d c ih = omega (arith, ih (state_after (kind_at p)) (suc d))
    go false false d c ih = omega (arith, ih (state_after (kind_at p)) d)

-- where the closing sign ends
scan_ends : (w : Where) (d : ℕ) (ts : List Placed) → (scan w d ts).end ≡ get_or (ends_of ts) (before d (kinds_of ts)) 0
unfolding before
scan_ends w d [] = refl
scan_ends w d (p ∷ ps) = go (closes (kind_at p)) (opens (kind_at p)) d (λ w d. scan_ends w d ps)
  where
    go : (c o : Bool) (d : ℕ) → ((w : Where) (d : ℕ) → (scan w d ps).end ≡ get_or (ends_of ps) (before d (kinds_of ps)) 0)
        → (cond c (closed (end_at p) d (λ e. scan inside e ps)) (add (weight w p) (scan (state_after (kind_at p)) (cond o (suc d) d) ps))).end
        ≡ get_or (ends_of (p ∷ ps)) (counted (λ e. before e (kinds_of ps)) c o d) 0
    go true o zero ih = refl
    go true o (suc d) ih = ih inside d
    go false true d ih = ih (state_after (kind_at p)) (suc d)
    go false false d ih = ih (state_after (kind_at p)) d

pub nested : {tokens : List Lexeme} {ahead : List Ahead} {ts : List Placed} → HeldIn tokens ts → ClosedFrom 0 (kinds_in tokens) (closers_in ahead)
    → SummedFrom 0 (kinds_in tokens) (sums_in ahead) ts → Nested tokens ahead ts
nested h c s = record { held = h; closed = c; summed = s }

module _ {tokens : List Lexeme} {ahead : List Ahead} {ts : List Placed} (n : Nested tokens ahead ts) {end from close : ℕ} (s : length (kinds_in tokens) ≡ end) (l : from ≤ end)
    (c : close ≡ held_before end (closers_in ahead) end from) where
  abbrev contents : List Placed
  contents = drop from ts

  abbrev inner : ℕ
  inner = before 0 (kinds_of contents)

  held_at : (list : List ℕ) (other : ℕ) (f : ℕ → ℕ) → From 0 (length (kinds_in tokens)) list f → other ≡ f (length (kinds_in tokens)) → (j : ℕ) → j ≤ length (kinds_in tokens) → held_before end list other j ≡ f j
  held_at list other f h e j m = ap (λ z. held_before z list other j) (sym s) ∙ held_from list f j h (omega arith) m e

  close_is : close ≡ from + inner
  close_is =
      c ∙ held_at (closers_in ahead) end (closer_of (kinds_in tokens)) n.closed (sym s ∙ past (kinds_in tokens)) from (omega (arith, l, s))
      ∙ ap (λ z. from + before 0 z) (ap (drop from) n.held.kinded ∙ kinds_drop from ts)

  close_small : close ≤ length (kinds_in tokens)
  close_small = omega (arith, close_is, before_all 0 (kinds_of contents), kinds_length contents, length-drop from ts, tokens_length n.held, l, s)

  sum_here : {v : ℕ} (j : ℕ) → j ≤ length (kinds_in tokens) → v ≡ held_before end (sums_in ahead) 0 j → v ≡ sum_of (kinds_in tokens) ts j
  sum_here j m e = e ∙ held_at (sums_in ahead) 0 (sum_of (kinds_in tokens) ts) n.summed (sum_end (kinds_in tokens) n.held) j m

  pub inner_records : {all later r : ℕ} → all ≡ held_before end (sums_in ahead) 0 from → later ≡ held_before end (sums_in ahead) 0 close → r ≡ all - later
      → r ≡ (scan (run_state (called_at (kinds_in tokens) from)) 0 contents).records
  inner_records a b r =
      let first = sum_here from (omega (arith, l, s)) a in
      let last = sum_here close close_small b in
      let moved : drop inner contents ≡ drop close ts = drop-drop inner from ts ∙ ap (λ z. drop z ts) (sym close_is) in
      let both = scan_records (run_state (called_at (kinds_in tokens) close)) (run_state (called_at (kinds_in tokens) from)) 0 contents in
      omega (arith, first, last, r, both, ap (total (run_state (called_at (kinds_in tokens) close))) moved)

  pub inner_ends : {r : ℕ} → r ≡ get_or (ends_in tokens) close 0 → r ≡ (scan inside 0 contents).end
  inner_ends e =
      e ∙ ap (λ z. get_or (ends_in tokens) z 0) close_is ∙ sym (get_or-drop from (ends_in tokens) inner 0) ∙ ap (λ z. get_or z inner 0) (ap (drop from) n.held.ended ∙ ends_drop from ts)
      ∙ sym (scan_ends inside 0 contents)

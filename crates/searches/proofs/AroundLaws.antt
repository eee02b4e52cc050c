-- What literal matching remembers of a rest and of the levels around it (specs/Failed.antt): it depends on the values of their variables alone, and is handed on from a
-- part of the pattern to another at the same level.
use Prim.Native.Nat.{ℕ, zero, suc, ◌+◌, ◌-◌, ◌≤◌}
use mathlib.Core.Bool.{Bool, true, false, ◌||◌}
use mathlib.Core.List.{List, [], ◌∷◌, ◌++◌}
use mathlib.Core.Logic.{◌⊎◌, inl, inr}
use mathlib.Core.Path.{◌≡◌, refl, sym, ap, ap₂, subst, ◌∙◌}
use native.Mathlib.Omega.{arith}
use lib.ListN.{length, take, drop, replicate, length-take}
use Rattle.law.specs.Variables.{Variable, occurs}
use Rattle.matching.specs.Pattern.{Atom, literal, Pattern}
use Rattle.matching.specs.Match.{Values, value_in}
use Rattle.matching.specs.Shadow.{same_atom, symbol_like, single_term}
use Rattle.matching.specs.Code.Part.{row_of, from, Begin, Stands}
use Rattle.matching.specs.Code.Bound.{values_of, Kept, Bound}
use Rattle.matching.specs.Code.Step.{found, each_length, TriesAll}
use Rattle.searches.specs.Code.Capacity.{variables_in}
use Rattle.searches.specs.Code.Asked.{some_holds, Asked, resume, coming_in, between, level_at, levels, LevelsIn, levels_of, Around, LiteralAsked}
use Rattle.searches.specs.Code.Repeats.{Agree, AgreeUpTo}
use Rattle.searches.specs.Code.Failed.{rest_of, Within, Noted, first_values, Settled, Remembers, FailedAround, RemembersAround, Remembering, Remembered}
use Rattle.matching.specs.declared.Bindings.{Bindings}
use Rattle.searches.specs.declared.failed.Rest.{Rest}
use Rattle.searches.specs.declared.literal.Level.{Level}
use Rattle.searches.specs.declared.literal.Pending.{Pending}
use Rattle.searches.specs.declared.repeats.Sure.{Sure}
use Rattle.matching.proofs.PartLaws.{row_empty}
use Rattle.matching.proofs.SameLaws.{false_not_true}
use Rattle.matching.proofs.VariableLaws.{occurs_left, occurs_right, occurs_either}
use Rattle.matching.proofs.CutLaws.{from_length}
use Rattle.searches.proofs.AgreeLaws.{Paired, matches_agree}
use Rattle.searches.proofs.AskedLaws.{later_variables}
use Rattle.searches.proofs.FailedLaws.{remembers_none, remembered, remembers_more, remembers_same, part_between}
use Rattle.searches.proofs.SureLaws.{first_more, settled_fixed, settled_low, settled_fewer, settled_more}

-- ---- values that agree

-- a test that does not tell values that agree apart
holds_paired : (l : List Variable) (test : Values Atom → Bool) → ((vs us : Values Atom) → Agree l vs us → test vs ≡ test us)
    → (m n : List (Values Atom)) → Paired l m n → some_holds test m ≡ some_holds test n
unfolding some_holds
holds_paired l test alike [] [] h = refl
holds_paired l test alike (vs ∷ m) (us ∷ n) h = ap₂ (λ a b. a || b) (alike vs us h.0) (holds_paired l test alike m n h.1)
holds_paired l test alike [] (us ∷ n) h = elim h [ ]
holds_paired l test alike (vs ∷ m) [] h = elim h [ ]

-- what is around depends on the values of its variables alone
resume_agree : (qs : List (Pattern × Pattern)) (l : List Variable) → ((w : Variable) → occurs w (coming_in qs) ≡ true → occurs w l ≡ true)
    → (vs us : Values Atom) → Agree l vs us → resume qs vs ≡ resume qs us
unfolding resume coming_in
resume_agree [] l among vs us h = refl
resume_agree (q ∷ qs) l among vs us h =
    holds_paired l (resume qs) (resume_agree qs l (λ w o. among w (occurs_right w (variables_in q.0) (coming_in qs) o)))
    (found true q.0 q.1 vs) (found true q.0 q.1 us)
    (matches_agree same_atom literal symbol_like single_term true l q.0 q.1 vs us (λ w o. among w (occurs_left w (variables_in q.0) (coming_in qs) o)) h)

-- so do a pattern and what is around it
around_agree : (p x : Pattern) (qs : List (Pattern × Pattern)) (vs us : Values Atom) → Agree (variables_in p ++ coming_in qs) vs us
    → some_holds (resume qs) (found true p x vs) ≡ some_holds (resume qs) (found true p x us)
unfolding resume coming_in
around_agree p x qs vs us h = resume_agree ((p, x) ∷ qs) (variables_in p ++ coming_in qs) (λ w o. o) vs us h

-- ---- what is remembered

module _ (text terms : List ℕ) (qs : List (Pattern × Pattern)) (base : Values Atom) where
  pub around_none : Remembers (FailedAround text terms qs base) (replicate 512 (rest_of 0 0 0 0))
  around_none = remembers_none (FailedAround text terms qs base) (λ r none over. record { none = λ h. absurd (none h); levels = λ h. absurd (over h) })

  module _ {pattern row : List ℕ} {at start : ℕ} (here : Stands terms pattern at) (there : Stands terms row start)
      (vs : Values Atom) (closed : Agree (variables_in (row_of text pattern) ++ coming_in qs) vs base) where
    -- two parts are known to have no match
    none_left : 24 ≤ length pattern → FailedAround text terms qs base (rest_of at (at + length pattern) start (start + length row))
        → some_holds (resume qs) (found true (row_of text pattern) (row_of text row) vs) ≡ false
    none_left long failed =
        rw (part_between text terms pattern at here, part_between text terms row start there) at
        (failed.none (omega arith) vs (rw (part_between text terms pattern at here) closed))

    -- they are found to have none
    none_found : some_holds (resume qs) (found true (row_of text pattern) (row_of text row) vs) ≡ false
        → FailedAround text terms qs base (rest_of at (at + length pattern) start (start + length row))
    none_found e = record {
      none = λ long us free. rw (part_between text terms pattern at here, part_between text terms row start there)
          (sym (around_agree (row_of text pattern) (row_of text row) qs vs us (λ w o. closed w o ∙ sym ((rw (part_between text terms pattern at here) at free) w o))) ∙ e);
      levels = λ h. absurd (omega arith);
    }

  -- the levels around alone
  levels_found : (vs : Values Atom) → Agree (coming_in qs) vs base → resume qs vs ≡ false → (at start : ℕ) → FailedAround text terms qs base (rest_of 1 0 at start)
  levels_found vs closed e at start = record {
    none = λ h. absurd (omega arith);
    levels = λ h us free. sym (resume_agree qs (coming_in qs) (λ w o. o) vs us (λ w o. closed w o ∙ sym (free w o))) ∙ e;
  }

  -- they are known to have no match
  pub out_known : {rests : List Rest} (vs : Values Atom) → Agree (coming_in qs) vs base → Remembers (FailedAround text terms qs base) rests
      → (at start : ℕ) → Within rests (rest_of 1 0 at start) → false ≡ resume qs vs
  out_known vs closed so at start within = sym ((remembered (FailedAround text terms qs base) so within).levels (omega arith) vs closed)

  -- they are found to have none
  pub out_noted : {rests now : List Rest} {x : Bool} (vs : Values Atom) → Agree (coming_in qs) vs base → x ≡ resume qs vs → x ≡ false
      → Remembers (FailedAround text terms qs base) rests → (at start : ℕ) → Noted rests (rest_of 1 0 at start) now → Remembers (FailedAround text terms qs base) now
  out_noted vs closed e fails so at start noted = remembers_more (FailedAround text terms qs base) so (levels_found vs closed (sym e ∙ fails) at start) noted

-- ---- the returns of `literal_tries`

module _ {text terms pattern : List ℕ} {at : ℕ} {row : List ℕ} {start : ℕ} {coming : List Variable} {b : Bindings} (asked : Asked text terms pattern at row start coming b)
    (qs : List (Pattern × Pattern)) (base : Values Atom) (closed : Agree (variables_in (row_of text pattern) ++ coming_in qs) (values_of text terms b) base)
    (tries : TriesAll text pattern row (values_of text terms b)) where
  -- it is remembered that no length matches
  pub lengths_known : {rests : List Rest} → 24 ≤ length pattern → Remembers (FailedAround text terms qs base) rests
      → Within rests (rest_of at (at + length pattern) start (start + length row)) → false ≡ some_holds (resume qs) (each_length text true pattern row (values_of text terms b))
  lengths_known long so within =
      sym (sym (ap (some_holds (resume qs)) (tries true))
      ∙ none_left text terms qs base asked.pattern_stands asked.row_stands (values_of text terms b) closed long (remembered (FailedAround text terms qs base) so within))

  -- no length matches, which is remembered
  pub lengths_noted : {rests now : List Rest} {x : Bool} → x ≡ some_holds (resume qs) (each_length text true pattern row (values_of text terms b)) → x ≡ false
      → Remembers (FailedAround text terms qs base) rests → Noted rests (rest_of at (at + length pattern) start (start + length row)) now
      → Remembers (FailedAround text terms qs base) now
  lengths_noted e fails so noted =
      remembers_more (FailedAround text terms qs base) so
      (none_found text terms qs base asked.pattern_stands asked.row_stands (values_of text terms b) closed (ap (some_holds (resume qs)) (tries true) ∙ sym e ∙ fails)) noted

-- ---- levels

-- the variables to come are those of the patterns, wherever the row begins
pub coming_same : (text terms : List ℕ) (ends : List Level) (at start start' n : ℕ)
    → coming_in (levels text terms ends at start n) ≡ coming_in (levels text terms ends at start' n)
unfolding levels coming_in
coming_same text terms ends at start start' zero = refl
coming_same text terms ends at start start' (suc n) = refl

-- ---- variables that got no value since

-- where these variables agree with the lower values, they agree with the higher ones
abbrev pub Closed : List Variable → Values Atom → Values Atom → Type 0
Closed l low high = (vs : Values Atom) → Agree l low vs → Agree l high vs

closed_none : (low high : Values Atom) → Closed [] low high
unfolding occurs
closed_none low high vs h w o = absurd (false_not_true o)

pub closed_both : (l m : List Variable) (low high : Values Atom) → Closed l low high → Closed m low high → Closed (l ++ m) low high
closed_both l m low high one two vs h w o = go (occurs_either w l m o)
  where
    go : (occurs w l ≡ true) ⊎ (occurs w m ≡ true) → value_in high w ≡ value_in vs w
    go (inl k) = one vs (λ v i. h v (occurs_left v l m i)) w k
    go (inr k) = two vs (λ v i. h v (occurs_right v l m i)) w k

-- `closed_around`: n levels are left, of which the innermost begins here
pub record Looked (text terms : List ℕ) (p : Pending) (at : ℕ) (b : Bindings) (sure from n : ℕ) : Type 0 where
  pub few : n ≤ 33
  pub row_from : ℕ
  pub inside : LevelsIn text terms p.levels from row_from n
  pub whole : Kept text terms b
      → Closed (coming_in (levels text terms p.levels from row_from n)) (first_values text terms b sure) (values_of text terms b)
      → (start : ℕ) → Closed (coming_in (levels text terms p.levels at start p.count)) (first_values text terms b sure) (values_of text terms b)

module _ {text terms : List ℕ} {p : Pending} {at : ℕ} (b : Bindings) (sure : ℕ) where
  pub looked_start : (start : ℕ) → Around text terms p at start → Looked text terms p at b sure at p.count
  looked_start start around = record {
    few = around.few;
    row_from = start;
    inside = around.levels_in;
    whole = λ kept h other. rw (coming_same text terms p.levels at other start p.count) h;
  }

module _ {text terms : List ℕ} {p : Pending} {at : ℕ} {b : Bindings} {sure from n : ℕ} (so : Looked text terms p at b sure from n) where
  -- no level is left
  pub looked_all : n ≡ 0 → Kept text terms b → (start : ℕ) → Closed (coming_in (levels text terms p.levels at start p.count)) (first_values text terms b sure) (values_of text terms b)
  unfolding levels coming_in
  looked_all none kept start = so.whole kept (rw none (closed_none (first_values text terms b sure) (values_of text terms b))) start

  module _ (left : n ≡ 0 → ⊥) {end : ℕ} (ends : end ≡ (level_at p.levels (n - 1)).pattern_end) where
    some : n ≡ suc (n - 1)
    some = omega (arith, left)

    next : LevelsIn text terms p.levels from so.row_from (suc (n - 1))
    next = subst (LevelsIn text terms p.levels from so.row_from) some so.inside

    coming_level : coming_in (levels text terms p.levels from so.row_from n)
        ≡ variables_in (between text terms from end) ++ coming_in (levels text terms p.levels end (level_at p.levels (n - 1)).row_end (n - 1))
    unfolding levels coming_in
    coming_level = ap (λ k. coming_in (levels text terms p.levels from so.row_from k)) some ∙ rw ends

    -- its variables got no value
    pub looked_next : (Kept text terms b → (vs : Values Atom)
        → AgreeUpTo text terms (take (end - from) (drop from terms)) b sure vs → AgreeUpTo text terms (take (end - from) (drop from terms)) b b.count vs)
        → Looked text terms p at b sure end (n - 1)
    looked_next closed = record {
      few = omega (arith, so.few);
      row_from = (level_at p.levels (n - 1)).row_end;
      inside = rw ends next.5;
      whole =
          λ kept h. so.whole kept
          (rw coming_level (closed_both (variables_in (between text terms from end))
          (coming_in (levels text terms p.levels end (level_at p.levels (n - 1)).row_end (n - 1)))
          (first_values text terms b sure) (values_of text terms b) (closed kept) h));
    }

-- `holds_here`: these variables have the values of the fixed places
pub closed_fixed : {text terms : List ℕ} {m : List Variable} {b : Bindings} {s : Sure} → Closed m (first_values text terms b s.places) (values_of text terms b)
    → Settled text terms m b s → Agree m (values_of text terms b) (first_values text terms b s.fixed)
closed_fixed {text} {terms} {b = b} {s} closed known = closed (first_values text terms b s.fixed) known.same

-- the same, asked with nothing for a pattern
pub closed_levels : {text terms : List ℕ} {m : List Variable} {b : Bindings} {s : Sure} (at : ℕ)
    → Closed (variables_in (between text terms at at) ++ m) (first_values text terms b s.places) (values_of text terms b) → Settled text terms m b s
    → Agree m (values_of text terms b) (first_values text terms b s.fixed)
unfolding variables_in
closed_levels {text} {terms} {b = b} {s} at closed known =
    closed_fixed {b = b} {s = s} (rw (row_empty text (take (at - at) (drop at terms)) (omega (arith, length-take (at - at) (drop at terms)))) at closed) known

-- ---- handed on to a search

module _ {text terms : List ℕ} where
  -- nothing is known
  pub remembering_nothing : (pattern : List ℕ) (qs : List (Pattern × Pattern)) (b : Bindings) {s : Sure} (rests : List Rest) → s.fixed ≡ 0 → s.places ≡ 0 → s.here ≡ false
      → Remembering text terms pattern qs b s rests
  remembering_nothing pattern qs b rests fixed places elsewhere = record {
    settled = record { low = omega arith; few = omega arith; same = λ w o. ap (λ n. value_in (first_values text terms b n) w) (places ∙ sym fixed) };
    here = λ e. absurd (false_not_true (sym elsewhere ∙ e));
  }

  -- nothing is remembered yet
  pub remembering_none : (pattern : List ℕ) (qs : List (Pattern × Pattern)) (b : Bindings) (n : ℕ) → n ≤ b.count
      → Remembering text terms pattern qs b (record { fixed = n; places = n; here = true }) (replicate 512 (rest_of 0 0 0 0))
  remembering_none pattern qs b n low = record {
    settled = settled_fixed (variables_in (row_of text pattern) ++ coming_in qs) b n true low;
    here = λ e. around_none text terms qs (first_values text terms b n);
  }

  -- a search that remembers nothing more
  pub remembered_unchanged : {qs : List (Pattern × Pattern)} {b : Bindings} {s : Sure} {rests now : List Rest} → (s.here ≡ true → RemembersAround text terms qs b s rests) → now ≡ rests
      → Remembered text terms qs b s rests now
  remembered_unchanged so e = record { here = λ h. remembers_same (so h) e; elsewhere = λ h. e }

  module _ {pattern : List ℕ} {qs : List (Pattern × Pattern)} {b : Bindings} {s : Sure} {rests : List Rest} (so : Remembering text terms pattern qs b s rests) where
    pub remembered_same : {now : List Rest} → now ≡ rests → Remembered text terms qs b s rests now
    remembered_same e = remembered_unchanged so.here e

    -- what is around alone
    pub settled_around : Settled text terms (coming_in qs) b s
    settled_around = settled_fewer so.settled (coming_in qs) (λ w o. occurs_right w (variables_in (row_of text pattern)) (coming_in qs) o)

    -- one variable more has a value
    pub remembering_bound : {key start size : ℕ} {c : Bindings} → Bound b key start size c → Remembering text terms pattern qs c s rests
    remembering_bound more = record {
      settled = settled_more so.settled more;
      here = λ h. rw (first_more text terms more s.fixed (settled_low so.settled)) (so.here h);
    }

    pub remembered_bound : {key start size : ℕ} {c : Bindings} {now : List Rest} → Bound b key start size c → Remembered text terms qs c s rests now
        → Remembered text terms qs b s rests now
    remembered_bound more after = record {
      here = λ h. rw (first_more text terms more s.fixed (settled_low so.settled)) at (after.here h);
      elsewhere = after.elsewhere;
    }

  -- what is remembered of the levels around here
  pub remembered_here : {qs : List (Pattern × Pattern)} {b : Bindings} {s : Sure} {rests now : List Rest} → s.here ≡ true → RemembersAround text terms qs b s now
      → Remembered text terms qs b s rests now
  remembered_here known so = record { here = λ h. so; elsewhere = λ h. absurd (false_not_true (sym h ∙ known)) }

  -- one search after another
  pub remembered_then : {qs : List (Pattern × Pattern)} {b : Bindings} {s : Sure} {rests then now : List Rest} → Remembered text terms qs b s rests then
      → Remembered text terms qs b s then now → Remembered text terms qs b s rests now
  remembered_then one two = record { here = two.here; elsewhere = λ h. two.elsewhere h ∙ one.elsewhere h }

  -- before a search, from after the one before it
  pub remembering_then : {pattern : List ℕ} {qs : List (Pattern × Pattern)} {b : Bindings} {s : Sure} {rests now : List Rest} → Remembering text terms pattern qs b s rests
      → Remembered text terms qs b s rests now → Remembering text terms pattern qs b s now
  remembering_then so after = record { settled = so.settled; here = after.here }

-- ---- to a part of the pattern at the same level

module _ {text terms pattern : List ℕ} {at : ℕ} {row : List ℕ} {start : ℕ} {p : Pending} {a : Bindings} (asked : LiteralAsked text terms pattern at row start p a) where
  abbrev around : List (Pattern × Pattern)
  around = levels_of text terms p (at + length pattern) (start + length row)

  module _ (m n : ℕ) (within : m ≤ length pattern) (inside : n ≤ length row) where
    abbrev around_later : List (Pattern × Pattern)
    around_later = levels_of text terms p (at + m + length (from m pattern)) (start + n + length (from n row))

    -- the same is around it
    same_around : around_later ≡ around
    same_around =
        let pattern_end : at + m + length (from m pattern) ≡ at + length pattern = omega (arith, from_length m pattern) in
        let row_end : start + n + length (from n row) ≡ start + length row = omega (arith, from_length n row) in
        rw (pattern_end, row_end)

    pub remembered_later : {b : Bindings} {s : Sure} {rests now : List Rest} → Remembered text terms around_later b s rests now → Remembered text terms around b s rests now
    remembered_later after = rw same_around at after

    pub remembering_later : {b : Bindings} {s : Sure} {rests : List Rest} → Begin pattern m → Remembering text terms pattern around b s rests
        → Remembering text terms (from m pattern) around_later b s rests
    remembering_later begins so = rw same_around (record {
      settled = settled_fewer so.settled (variables_in (row_of text (from m pattern)) ++ coming_in around) (λ w o. later_variables text pattern (coming_in around) w begins o);
      here = so.here;
    })

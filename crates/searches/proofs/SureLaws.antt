-- Which places keep their values, and which have no value of a variable that is to come (`Settled` of specs/Code/Failed.antt): for the parts of the pattern, and when one
-- variable more has a value.
use Prim.Native.Nat.{ℕ, zero, suc, ◌+◌, ◌-◌, ◌≤◌, ◌<◌}
use mathlib.Core.Bool.{Bool, true}
use mathlib.Core.List.{List, [], append-nil}
use mathlib.Core.Path.{◌≡◌, refl, ◌∙◌}
use native.Mathlib.Omega.{arith}
use native.Mathlib.Decide.{dec_lt}
use Rattle.std.specs.Prelude.{Some, None, Option as Maybe}
use lib.ListN.{length, take, drop}
use Rattle.file.specs.Forest.{contents}
use Rattle.law.specs.Runs.{end_of}
use Rattle.law.specs.Variables.{Variable, occurs}
use Rattle.matching.specs.Code.Part.{row_of, from, Begin, at_start, one_on}
use Rattle.matching.specs.Code.Bound.{values_up_to, Bound}
use Rattle.searches.specs.Code.Capacity.{variables_in}
use Rattle.searches.specs.Code.Failed.{first_values, Settled, Failed, Remembers, Fixed, MatchKept}
use Rattle.matching.specs.declared.Bindings.{Bindings}
use Rattle.searches.specs.declared.failed.Rest.{Rest}
use Rattle.searches.specs.declared.repeats.Sure.{Sure}
use Rattle.matching.proofs.CutLaws.{from_all}
use Rattle.matching.proofs.BoundLaws.{values_set}
use Rattle.searches.proofs.AskedLaws.{later_variables}

-- a term begins after the first
pub begin_second : {pattern : List ℕ} {e : ℕ} → 24 ≤ length pattern → e ≡ end_of pattern → Begin pattern e
begin_second {pattern} {e} long same =
    let begins : Begin pattern (0 + end_of (from 0 pattern)) = one_on {n = 0} (rw (from_all pattern) long) at_start in
    let place : 0 + end_of (from 0 pattern) ≡ e = rw (from_all pattern) (omega (arith, same)) in
    rw place at begins

-- ---- the first places

module _ (text terms : List ℕ) where
  -- one variable more has a value, in a place after these
  pub first_more : {b : Bindings} {key start size : ℕ} {c : Bindings} → Bound b key start size c → (n : ℕ) → n ≤ b.count
      → first_values text terms c n ≡ first_values text terms b n
  first_more {b} {key} {start} {size} more n low =
      rw (more.places, values_set text terms b.places b.count (record { key = key; start = start; size = size }) n low)

  -- where more of the first places are the same, fewer are
  first_fewer : (b c : Bindings) (n : ℕ) → first_values text terms c n ≡ first_values text terms b n → (m : ℕ) → m ≤ n
      → first_values text terms c m ≡ first_values text terms b m
  unfolding values_up_to
  first_fewer b c zero e m low = let none : m ≡ 0 = omega arith in rw none
  first_fewer b c (suc n) e m low =
      let before : first_values text terms c n ≡ first_values text terms b n = cc in
      go (dec_lt n m) (λ k. first_fewer b c n before m k)
    where
      go : Dec (n < m) → (m ≤ n → first_values text terms c m ≡ first_values text terms b m) → first_values text terms c m ≡ first_values text terms b m
      go (yes h) below = let all : m ≡ suc n = omega arith in rw all e
      go (no h) below = below (omega arith)

module _ {text terms : List ℕ} where
  pub fixed_same : (b : Bindings) (n : ℕ) → n ≤ b.count → Fixed text terms b n b
  fixed_same b n low = record { few = low; same = refl }

  pub fixed_after : {b c r : Bindings} {n : ℕ} → Fixed text terms b n c → Fixed text terms c n r → Fixed text terms b n r
  fixed_after f g = record { few = g.few; same = g.same ∙ f.same }

  pub fixed_fewer : {b r : Bindings} {n : ℕ} → Fixed text terms b n r → (m : ℕ) → m ≤ n → Fixed text terms b m r
  fixed_fewer {b} {r} {n} f m low = record { few = omega (arith, f.few); same = first_fewer text terms b r n f.same m low }

  -- what is remembered holds with the same first places
  pub remembers_fixed : {b c : Bindings} {n : ℕ} {rests : List Rest} → Fixed text terms b n c
      → Remembers (Failed text terms (first_values text terms b n)) rests → Remembers (Failed text terms (first_values text terms c n)) rests
  remembers_fixed f so = rw f.same so

  pub remembers_back : {b c : Bindings} {n : ℕ} {rests : List Rest} → Fixed text terms b n c
      → Remembers (Failed text terms (first_values text terms c n)) rests → Remembers (Failed text terms (first_values text terms b n)) rests
  remembers_back f so = rw f.same at so

  pub fixed_bound : {b : Bindings} {key start size : ℕ} {c : Bindings} → Bound b key start size c → (n : ℕ) → n ≤ b.count → Fixed text terms b n c
  fixed_bound more n low = record { few = omega (arith, more.more); same = first_more text terms more n low }

-- ---- the values of a match

module _ {text terms : List ℕ} where
  match_each : {b c : Bindings} {n k : ℕ} (r : Maybe Bindings) → ((m : Bindings) → Fixed text terms c k m → Fixed text terms b n m) → MatchKept text terms c k r
      → MatchKept text terms b n r
  match_each None f h = record { kept = tt }
  match_each (Some m) f h = record { kept = (h.kept.0, f m h.kept.1) }

  pub match_after : {b c : Bindings} {n : ℕ} {r : Maybe Bindings} → Fixed text terms b n c → MatchKept text terms c n r → MatchKept text terms b n r
  match_after {r = r} fixed h = match_each r (λ m k. fixed_after fixed k) h

  pub match_fewer : {b : Bindings} {n : ℕ} {r : Maybe Bindings} (m : ℕ) → m ≤ n → MatchKept text terms b n r → MatchKept text terms b m r
  match_fewer {r = r} m low h = match_each r (λ s k. fixed_fewer k m low) h

-- ---- the places that are settled

module _ {text terms : List ℕ} where
  -- the fixed places alone
  pub settled_fixed : (l : List Variable) (b : Bindings) (n : ℕ) (here : Bool) → n ≤ b.count → Settled text terms l b (record { fixed = n; places = n; here = here })
  settled_fixed l b n here low = record { low = omega arith; few = low; same = λ w o. refl }

  module _ {l : List Variable} {b : Bindings} {s : Sure} (known : Settled text terms l b s) where
    pub settled_low : s.fixed ≤ b.count
    settled_low = omega (arith, known.low, known.few)

    -- fewer variables
    pub settled_fewer : (k : List Variable) → ((w : Variable) → occurs w k ≡ true → occurs w l ≡ true) → Settled text terms k b s
    settled_fewer k among = record { low = known.low; few = known.few; same = λ w o. known.same w (among w o) }

    -- one variable more has a value, in a place after these
    pub settled_more : {key start size : ℕ} {c : Bindings} → Bound b key start size c → Settled text terms l c s
    settled_more {c = c} more = record {
      low = known.low;
      few = omega (arith, known.few, more.more);
      same = λ w o. rw (first_more text terms more s.places known.few, first_more text terms more s.fixed settled_low) (known.same w o);
    }

  module _ (pattern : List ℕ) {b : Bindings} {s : Sure} (known : Settled text terms (variables_in (row_of text pattern)) b s) where
    -- what follows a term has no other variables
    pub settled_later : {m : ℕ} → Begin pattern m → Settled text terms (variables_in (row_of text (from m pattern))) b s
    settled_later {m} begins =
        settled_fewer known (variables_in (row_of text (from m pattern)))
        (λ w o. rw (append-nil (variables_in (row_of text pattern))) at (later_variables text pattern [] w begins (rw (append-nil (variables_in (row_of text (from m pattern)))) o)))

    -- nor has the contents of brackets
    pub settled_inside : (m : ℕ) → m ≡ end_of pattern
        → ((w : Variable) → occurs w (variables_in (row_of text (contents 24 end_of pattern))) ≡ true → occurs w (variables_in (row_of text pattern)) ≡ true)
        → Settled text terms (variables_in (row_of text (take (m - 24) (drop 24 pattern)))) b s
    settled_inside m e within = settled_fewer known (variables_in (row_of text (take (m - 24) (drop 24 pattern)))) (λ w o. within w (rw e at o))

-- What a search remembers (specs/Code/Failed.antt) is so at the start, and stays so when a rest is noted that has no match.
use Prim.Native.Nat.{ℕ, zero, suc, ◌+◌, ◌-◌, ◌≤◌, ◌<◌}
use mathlib.Core.Bool.{false}
use mathlib.Core.List.{List, [], ◌∷◌}
use mathlib.Core.Logic.{◌⊎◌, inl, inr}
use mathlib.Core.Option.{none, none-ne-some}
use mathlib.Core.Path.{◌≡◌, refl, sym, ap, ◌∙◌}
use native.Mathlib.Omega.{arith}
use lib.ListN.{length, replicate, length-replicate}
use Rattle.law.specs.Variables.{Variable}
use Rattle.matching.specs.Pattern.{Atom, literal}
use Rattle.matching.specs.Match.{Values, some_in}
use Rattle.matching.specs.Shadow.{same_atom, symbol_like, single_term}
use Rattle.matching.specs.Code.Part.{row_of, Stands}
use Rattle.matching.specs.Code.Bound.{values_of}
use Rattle.matching.specs.Code.Step.{found, each_length, TriesAll}
use Rattle.searches.specs.Code.Capacity.{variables_in}
use Rattle.searches.specs.Code.Asked.{first_in, Asked, matched_values, between}
use Rattle.searches.specs.Code.Repeats.{Agree}
use Rattle.searches.specs.Code.Failed.{rest_of, rest_at, Within, Noted, Remembers, Failed}
use Rattle.matching.proofs.SameLaws.{false_not_true}
use Rattle.matching.specs.declared.Bindings.{Bindings}
use Rattle.searches.specs.declared.failed.Rest.{Rest}
use Rattle.std.specs.Prelude.{Some, None, Option as Maybe, is_some}
use Rattle.searches.proofs.AgreeLaws.{some_agree}

-- ---- a rest in a place

empty_rest : (n i : ℕ) → rest_at (replicate n (rest_of 0 0 0 0)) i ≡ rest_of 0 0 0 0
empty_rest zero i = refl
empty_rest (suc n) zero = refl
empty_rest (suc n) (suc i) = empty_rest n i

-- ---- what is remembered

module _ (Fails : Rest → Type 0) where
  -- nothing is remembered
  pub remembers_none : ((r : Rest) → (r.at < r.end → ⊥) → (r.end < r.at → ⊥) → Fails r) → Remembers Fails (replicate 512 (rest_of 0 0 0 0))
  remembers_none empty = record {
    long = length-replicate 512 (rest_of 0 0 0 0);
    all = λ i. rw (empty_rest 512 i) (empty (rest_of 0 0 0 0) (λ h. omega arith) (λ h. omega arith));
  }

  -- what is remembered is so
  pub remembered : {rests : List Rest} {r : Rest} → Remembers Fails rests → Within rests r → Fails r
  remembered so (i, e) = rw e at (so.all i)

  -- one more is remembered
  pub remembers_more : {rests now : List Rest} {r : Rest} → Remembers Fails rests → Fails r → Noted rests r now → Remembers Fails now
  remembers_more {rests} {now} {r} so new noted = record { long = noted.0 ∙ so.long; all = λ i. go i (noted.1 i) }
    where
      go : (i : ℕ) → (rest_at now i ≡ r) ⊎ (rest_at now i ≡ rest_at rests i) → Fails (rest_at now i)
      go i (inl e) = rw e new
      go i (inr e) = rw e (so.all i)

-- the same rests
pub remembers_same : {Fails : Rest → Type 0} {rests now : List Rest} → Remembers Fails rests → now ≡ rests → Remembers Fails now
remembers_same so e = rw e so

-- the rests that two parts are
pub part_between : (text terms part : List ℕ) (at : ℕ) → Stands terms part at → between text terms at (at + length part) ≡ row_of text part
part_between text terms part at stands =
    let size : at + length part - at ≡ length part = omega arith in
    rw size (ap (row_of text) (sym stands.same))

-- ---- what shadowing remembers

no_match : (l m : List (Values Atom)) → some_in l ≡ some_in m → l ≡ [] → m ≡ []
no_match l [] e k = refl
no_match l (us ∷ m) e k = absurd (false_not_true (sym (ap some_in k) ∙ e))

module _ (text terms : List ℕ) (base : Values Atom) where
  pub shadow_none : Remembers (Failed text terms base) (replicate 512 (rest_of 0 0 0 0))
  shadow_none = remembers_none (Failed text terms base) (λ r none over. record { none = λ h. absurd (none h) })

  module _ {pattern row : List ℕ} {at start : ℕ} (here : Stands terms pattern at) (there : Stands terms row start)
      (vs : Values Atom) (closed : Agree (variables_in (row_of text pattern)) vs base) where
    -- they are known to have no match
    none_left : 24 ≤ length pattern → Failed text terms base (rest_of at (at + length pattern) start (start + length row))
        → found false (row_of text pattern) (row_of text row) vs ≡ []
    none_left long failed =
        rw (part_between text terms pattern at here, part_between text terms row start there) at
        (failed.none (omega arith) vs (rw (part_between text terms pattern at here) closed))

    -- they are found to have none
    none_found : found false (row_of text pattern) (row_of text row) vs ≡ [] → Failed text terms base (rest_of at (at + length pattern) start (start + length row))
    none_found e = record {
      none = λ long us free. rw (part_between text terms pattern at here, part_between text terms row start there)
          (no_match (found false (row_of text pattern) (row_of text row) vs) (found false (row_of text pattern) (row_of text row) us)
          (some_agree same_atom literal symbol_like single_term false (row_of text pattern) (row_of text row) vs us
          (λ w o. closed w o ∙ sym ((rw (part_between text terms pattern at here) at free) w o))) e);
    }

-- ---- the returns of `shadow_tries`

first_nothing : {X : Type 0} (l : List X) → first_in l ≡ none → l ≡ []
first_nothing [] e = refl
first_nothing (x ∷ l) e = absurd (none-ne-some x (sym e))

module _ {text terms pattern : List ℕ} {at : ℕ} {row : List ℕ} {start : ℕ} {coming : List Variable} {b : Bindings} (asked : Asked text terms pattern at row start coming b)
    (base : Values Atom) (closed : Agree (variables_in (row_of text pattern)) (values_of text terms b) base) (tries : TriesAll text pattern row (values_of text terms b)) where
  -- it is remembered that no length matches
  pub lengths_known : {rests : List Rest} → 24 ≤ length pattern → Remembers (Failed text terms base) rests
      → Within rests (rest_of at (at + length pattern) start (start + length row)) → each_length text false pattern row (values_of text terms b) ≡ []
  lengths_known long so within =
      sym (tries false)
      ∙ none_left text terms base asked.pattern_stands asked.row_stands (values_of text terms b) closed long (remembered (Failed text terms base) so within)

  -- no length matches, which is remembered
  pub lengths_noted : {rests now : List Rest} → each_length text false pattern row (values_of text terms b) ≡ [] → Remembers (Failed text terms base) rests
      → Noted rests (rest_of at (at + length pattern) start (start + length row)) now → Remembers (Failed text terms base) now
  lengths_noted e so noted =
      remembers_more (Failed text terms base) so
      (none_found text terms base asked.pattern_stands asked.row_stands (values_of text terms b) closed (tries false ∙ e)) noted

-- the first match of none
pub none_matched : (text terms : List ℕ) (m : Maybe Bindings) (l : List (Values Atom)) → matched_values text terms m ≡ first_in l → is_some m ≡ false → l ≡ []
none_matched text terms None l e k = first_nothing l (sym e)
none_matched text terms (Some r) l e k = cc

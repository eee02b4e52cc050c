-- Rests of a pattern and of a row that a search remembers: they have no match, as long as the variables of the pattern's rest, and of what is to be matched around
-- it, have the values that they had when the search began to remember, or none.
use Rattle.std.specs.Prelude.{ℕ, ◌≤◌, ◌<◌, true, false, List, [], ◌++◌, ◌⊎◌, ◌≡◌, length, get_or, IfSome, Option}
use Rattle.law.specs.Variables.{Variable}
use Rattle.matching.specs.Pattern.{Atom, Pattern}
use Rattle.matching.specs.Match.{Values}
use Rattle.matching.specs.Code.Part.{row_of}
use Rattle.matching.specs.Code.Step.{found}
use Rattle.searches.specs.Code.Capacity.{variables_in}
use Rattle.searches.specs.Code.Asked.{some_holds, resume, coming_in, between}
use Rattle.matching.specs.Code.Bound.{values_up_to, Kept}
use Rattle.searches.specs.Code.Repeats.{Agree}
use Rattle.matching.specs.declared.Bindings.{Bindings}
use Rattle.searches.specs.declared.failed.Rest.{Rest}
use Rattle.searches.specs.declared.repeats.Sure.{Sure}

-- the values in the first n places
abbrev pub first_values : List ℕ → List ℕ → Bindings → ℕ → Values Atom
first_values text terms b n = values_up_to text terms b.places n

-- the places up to `fixed` keep their values as long as the search remembers; those from there up to `places` have none of these variables
pub record Settled (text terms : List ℕ) (l : List Variable) (b : Bindings) (s : Sure) : Type 0 where
  pub low : s.fixed ≤ s.places
  pub few : s.places ≤ b.count
  pub same : Agree l (first_values text terms b s.places) (first_values text terms b s.fixed)

abbrev pub rest_of : ℕ → ℕ → ℕ → ℕ → Rest
rest_of at end start row_end = record { at = at; end = end; start = start; row_end = row_end }

-- the rest in a place
abbrev pub rest_at : List Rest → ℕ → Rest
rest_at rests i = get_or rests i (rest_of 0 0 0 0)

-- a rest is among those in the places
abbrev pub Within : List Rest → Rest → Type 0
Within rests r = (i : ℕ) × (rest_at rests i ≡ r)

-- a rest is put among them: each is that one, or as it was
abbrev pub Noted : List Rest → Rest → List Rest → Type 0
Noted rests r now = (length now ≡ length rests) × ((i : ℕ) → (rest_at now i ≡ r) ⊎ (rest_at now i ≡ rest_at rests i))

-- there are places for 512 rests, and all that is remembered is so
pub record Remembers (Fails : Rest → Type 0) (rests : List Rest) : Type 0 where
  pub long : length rests ≡ 512
  pub all : (i : ℕ) → Fails (rest_at rests i)

-- in shadowing: a pattern's rest that is not empty has no match with a row's rest, where its variables have these values or none
pub record Failed (text terms : List ℕ) (base : Values Atom) (r : Rest) : Type 0 where
  pub none : r.at < r.end
      → (vs : Values Atom) → Agree (variables_in (between text terms r.at r.end)) vs base
      → found false (between text terms r.at r.end) (between text terms r.start r.row_end) vs ≡ []

-- in literal matching: a pattern's rest that is not empty and then the levels around it have no match, where their variables have these values or none; a rest that
-- ends before it begins stands for the levels around alone
pub record FailedAround (text terms : List ℕ) (around : List (Pattern × Pattern)) (base : Values Atom) (r : Rest) : Type 0 where
  pub none : r.at < r.end
      → (vs : Values Atom) → Agree (variables_in (between text terms r.at r.end) ++ coming_in around) vs base
      → some_holds (resume around) (found true (between text terms r.at r.end) (between text terms r.start r.row_end) vs) ≡ false
  pub levels : r.end < r.at → (vs : Values Atom) → Agree (coming_in around) vs base → resume around vs ≡ false

-- what is remembered is of these levels around
abbrev pub RemembersAround : List ℕ → List ℕ → List (Pattern × Pattern) → Bindings → Sure → List Rest → Type 0
RemembersAround text terms around b s rests = Remembers (FailedAround text terms around (first_values text terms b s.fixed)) rests

-- what literal matching is handed: places that are settled for the pattern and the levels around it, and what is remembered, where it is of these levels
pub record Remembering (text terms pattern : List ℕ) (around : List (Pattern × Pattern)) (b : Bindings) (s : Sure) (rests : List Rest) : Type 0 where
  pub settled : Settled text terms (variables_in (row_of text pattern) ++ coming_in around) b s
  pub here : s.here ≡ true → RemembersAround text terms around b s rests

-- what it hands back: more may be remembered of these levels, and nothing of others
pub record Remembered (text terms : List ℕ) (around : List (Pattern × Pattern)) (b : Bindings) (s : Sure) (rests now : List Rest) : Type 0 where
  pub here : s.here ≡ true → RemembersAround text terms around b s now
  pub elsewhere : s.here ≡ false → now ≡ rests

-- the first places keep their values
pub record Fixed (text terms : List ℕ) (b : Bindings) (n : ℕ) (r : Bindings) : Type 0 where
  pub few : n ≤ r.count
  pub same : first_values text terms r n ≡ first_values text terms b n

-- the values of a match, if there is one, stand in places, of which the first keep theirs
pub record MatchKept (text terms : List ℕ) (b : Bindings) (n : ℕ) (r : Option Bindings) : Type 0 where
  pub kept : IfSome r (λ m. Kept text terms m × Fixed text terms b n m)

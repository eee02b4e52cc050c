-- What the array beside the tokens says: where the closing sign after each place stands, and how many records begin from each place on.
use Rattle.std.specs.Prelude.{ℕ, zero, suc, ◌+◌, ◌≤◌, ◌<◌, List, [], ◌∷◌, Bool, false, cond, ◌≡◌, map, length, drop, get_or, eqb, ltb}
use Rattle.tokens.specs.Token.{Placed}
use Rattle.tokens.specs.Code.Arrays.{kinds_in}
use Rattle.tokens.specs.declared.Lexeme.{Lexeme}
use Rattle.encoding.specs.Code.FlatTerms.{Where, state_after, kind_at, opens, closes, weight}
use Rattle.writing.specs.Code.Held.{HeldIn}
use Rattle.writing.specs.Code.Found.{run_state}
use Rattle.writing.specs.declared.brackets.Ahead.{Ahead}

-- at a closing sign, with so many more open before it
abbrev pub unless_last : ℕ → (ℕ → ℕ) → ℕ
unless_last zero go = 0
unless_last (suc d) go = suc (go d)

-- the number of tokens before the sign that closes, with so many more open; all of them where there is none
unfoldable pub before : ℕ → List ℕ → ℕ
before d [] = 0
before d (k ∷ ks) = cond (closes k) (unless_last d (λ e. before e ks)) (suc (before (cond (opens k) (suc d) d) ks))

-- the place of that sign
abbrev pub closer_of : List ℕ → ℕ → ℕ
closer_of kinds i = i + before 0 (drop i kinds)

-- from a place to the end of the tokens an array has these numbers
abbrev pub From : (i end : ℕ) → List ℕ → (ℕ → ℕ) → Type 0
From i end list number = (j : ℕ) → i ≤ j → j < end → get_or list j 0 ≡ number j

abbrev pub ClosedFrom : ℕ → (kinds closers : List ℕ) → Type 0
ClosedFrom i kinds closers = From i (length kinds) closers (closer_of kinds)

-- the number of records that begin with tokens
unfoldable pub total : Where → List Placed → ℕ
total w [] = 0
total w (p ∷ ps) = weight w p + total (state_after (kind_at p)) ps

-- does a token stand behind `<`?
abbrev pub called_at : List ℕ → ℕ → Bool
called_at kinds zero = false
called_at kinds (suc i) = eqb (get_or kinds i 0) 60

-- the number of records from a place on
abbrev pub sum_of : List ℕ → List Placed → ℕ → ℕ
sum_of kinds ts i = total (run_state (called_at kinds i)) (drop i ts)

abbrev pub SummedFrom : ℕ → (kinds sums : List ℕ) → List Placed → Type 0
SummedFrom i kinds sums ts = From i (length kinds) sums (sum_of kinds ts)

-- what an array has at a place, and another number from the end of the tokens on
abbrev pub held_before : (end : ℕ) → List ℕ → (other i : ℕ) → ℕ
held_before end list other i = cond (ltb i end) (get_or list i 0) other

-- the two numbers of each place
abbrev pub closers_in : List Ahead → List ℕ
closers_in = map (λ x. x.closer)

abbrev pub sums_in : List Ahead → List ℕ
sums_in = map (λ x. x.records)

-- tokens in their array, with both numbers beside them
pub record Nested (tokens : List Lexeme) (ahead : List Ahead) (ts : List Placed) : Type 0 where
  pub held : HeldIn tokens ts
  pub closed : ClosedFrom 0 (kinds_in tokens) (closers_in ahead)
  pub summed : SummedFrom 0 (kinds_in tokens) (sums_in ahead) ts

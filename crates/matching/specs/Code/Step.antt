-- What the first record of a pattern leaves of the search, from which both matchers go on.
use Rattle.std.specs.Prelude.{ℕ, ◌≤◌, ◌<◌, Bool, true, false, List, [], ◌∷◌, ◌≡◌, length, take}
use Rattle.std.specs.Prelude.{Some, None, Option as Maybe}
use Rattle.std.proofs.Math.Option.{none}
use Rattle.file.specs.Forest.{contents, rest}
use Rattle.file.specs.Head.{term_at}
use Rattle.file.specs.declared.Term.{Term}
use Rattle.file.specs.declared.Term.TheVariants.{Symbol as Symbolic, SVariable, TVariable, EVariable, Bracket, Call, Block}
use Rattle.law.specs.Expression.{symbol, brackets}
use Rattle.law.specs.Runs.{end_of}
use Rattle.law.specs.Variables.{Variable}
use Rattle.matching.specs.Pattern.{Atom, literal, variable, Pattern}
use Rattle.matching.specs.Match.{Values, bound, value_in, splits, each, all_or_first, matches}
use Rattle.matching.specs.Shadow.{same_atom, symbol_like, single_term}
use Rattle.matching.specs.Code.Part.{row_of, from, Begin, atom_of}
use Rattle.matching.specs.Code.Bound.{variable_in}
use Rattle.matching.specs.declared.Known.{Known}
use Rattle.matching.specs.declared.Known.TheVariants.{End, Stops as KnownStops, Fails as KnownFails}
use Rattle.matching.specs.declared.First.{First}
use Rattle.matching.specs.declared.First.TheVariants.{Fails, Goes, Stops}
use Rattle.matching.specs.declared.Stop.{Stop}
use Rattle.matching.specs.declared.Stop.TheVariants.{Binds, Tries, Inside}

-- the search, of a pattern in the row that another part is
abbrev pub found : Bool → Pattern → Pattern → Values Atom → List (Values Atom)
found back = matches same_atom literal symbol_like single_term back

-- a pattern begins with a variable that has no value
pub record Free (p : Pattern) (v : Variable) (vs : Values Atom) : Type 0 where
  pub others : Pattern
  pub begins : p ≡ symbol (variable v) others
  pub without : value_in vs v ≡ none

-- what follows a value at the front of a row
abbrev pub begins_with : List ℕ → List ℕ → Maybe ℕ → List Pattern
begins_with text row (Some n) = row_of text (from n row) ∷ []
begins_with text row None = []

abbrev pub BeginsIn : List ℕ → Maybe ℕ → Type 0
BeginsIn row (Some n) = n ≤ length row
BeginsIn row None = Unit {0}

-- the variable that a pattern's first record is
abbrev pub first_variable : List ℕ → List ℕ → Variable
first_variable text pattern = variable_in (atom_of text (term_at pattern 0))

module _ (text : List ℕ) (back : Bool) (pattern row : List ℕ) (vs : Values Atom) where
  -- every length of the row is tried as the value of the pattern's e. variable
  abbrev pub each_length : List (Values Atom)
  each_length =
      each (λ (q : Pattern × Pattern). found back (row_of text (rest 24 end_of pattern)) q.1 (bound (first_variable text pattern) q.0 vs))
      (splits (row_of text row))

  -- the contents of the first brackets are matched, then what follows them
  abbrev pub each_inside : List (Values Atom)
  each_inside =
      each (λ (us : Values Atom). found back (row_of text (rest 24 end_of pattern)) (row_of text (rest 24 end_of row)) us)
      (all_or_first back (found back (row_of text (contents 24 end_of pattern)) (row_of text (contents 24 end_of row)) vs))

  abbrev pub leaves : First → List (Values Atom)
  leaves Fails = []
  leaves (Goes m n) = found back (row_of text (from m pattern)) (row_of text (from n row)) vs
  leaves (Stops (Binds n)) = found back (row_of text (rest 24 end_of pattern)) (row_of text (from n row)) (bound (first_variable text pattern) (row_of text (take n row)) vs)
  leaves (Stops Tries) = each_length
  leaves (Stops Inside) = each_inside

-- all matches are found by trying every length
abbrev pub TriesAll : List ℕ → List ℕ → List ℕ → Values Atom → Type 0
TriesAll text pattern row vs = (back : Bool) → found back (row_of text pattern) (row_of text row) vs ≡ each_length text back pattern row vs

-- brackets stand first in the pattern, and a record in the row
pub record Facing (p : Pattern) (row : List ℕ) : Type 0 where
  pub inside : Pattern
  pub others : Pattern
  pub begins : p ≡ brackets inside others
  pub some : 24 ≤ length row

-- what is known besides: positions are within the parts, one of the pattern is further on and a term begins there, and a variable that gets a value had none
abbrev pub FirstIn : List ℕ → List ℕ → List ℕ → Values Atom → First → Type 0
FirstIn text pattern row vs Fails = Unit {0}
FirstIn text pattern row vs (Goes m n) = Begin pattern m × (1 ≤ m) × (n ≤ length row)
FirstIn text pattern row vs (Stops (Binds n)) = (n ≤ length row) × Free (row_of text pattern) (first_variable text pattern) vs
FirstIn text pattern row vs (Stops Tries) = Free (row_of text pattern) (first_variable text pattern) vs
FirstIn text pattern row vs (Stops Inside) = Facing (row_of text pattern) row

-- kinds of terms, by their records: an e. variable; what an s. variable may stand for; what a t. variable may
abbrev pub open_term : Term → Bool
open_term (Symbolic x) = false
open_term (SVariable a b) = false
open_term (TVariable a b) = false
open_term (EVariable a b) = true
open_term Bracket = false
open_term (Call a b) = false
open_term (Block n) = false

abbrev pub symbol_term : Term → Bool
symbol_term (Symbolic x) = true
symbol_term (SVariable a b) = true
symbol_term (TVariable a b) = false
symbol_term (EVariable a b) = false
symbol_term Bracket = false
symbol_term (Call a b) = false
symbol_term (Block n) = false

abbrev pub single_one : Term → Bool
single_one (Symbolic x) = true
single_one (SVariable a b) = true
single_one (TVariable a b) = true
single_one (EVariable a b) = false
single_one Bracket = true
single_one (Call a b) = false
single_one (Block n) = false

abbrev pub may_stand : Term → Term → Bool
may_stand (Symbolic x) t = false
may_stand (SVariable a b) t = symbol_term t
may_stand (TVariable a b) t = single_one t
may_stand (EVariable a b) t = false
may_stand Bracket t = false
may_stand (Call a b) t = false
may_stand (Block n) t = false

-- the first record of a pattern leaves this to do with a row
pub record Leaves (text pattern row : List ℕ) (vs : Values Atom) (r : First) : Type 0 where
  pub within : FirstIn text pattern row vs r
  pub search : (back : Bool) → found back (row_of text pattern) (row_of text row) vs ≡ leaves text back pattern row vs r

-- a pattern's symbols and variables with a value, as many as it begins with, are passed over, or differ from the row
pub record Passed (text pattern row : List ℕ) (vs : Values Atom) (m n : ℕ) : Type 0 where
  pub begins : Begin pattern m
  pub within : n ≤ length row
  pub search : (back : Bool) → found back (row_of text pattern) (row_of text row) vs ≡ found back (row_of text (from m pattern)) (row_of text (from n row)) vs

-- the first record is a variable that has no value or a bracket, and leaves this to do there
pub record Stopped (text pattern row : List ℕ) (vs : Values Atom) (r : Stop) : Type 0 where
  pub some : 24 ≤ length pattern
  pub leaves : Leaves text pattern row vs (Stops r)

abbrev pub KnownIs : List ℕ → List ℕ → List ℕ → Values Atom → Known → Type 0
KnownIs text pattern row vs (End m n) = Passed text pattern row vs m n × (length (from m pattern) < 24)
KnownIs text pattern row vs (KnownStops m n r) = Passed text pattern row vs m n × Stopped text (from m pattern) (from n row) vs r
KnownIs text pattern row vs KnownFails = (back : Bool) → found back (row_of text pattern) (row_of text row) vs ≡ []

pub record KnownFront (text pattern row : List ℕ) (vs : Values Atom) (r : Known) : Type 0 where
  pub front : KnownIs text pattern row vs r

-- What `Bindings` means: document 01's "one record with 32 places", the values of variables among the term records.
use Rattle.std.specs.Prelude.{ℕ, zero, suc, ◌+◌, ◌≤◌, ◌<◌, List, [], ◌≡◌, length, take, drop, get_or, set}
use Rattle.std.specs.Prelude.{Some, None, Option as Maybe}
use Rattle.std.proofs.Math.Option.{Option, none, some}
use Rattle.file.specs.Head.{term_at}
use Rattle.law.specs.Tree.{symbol_kind}
use Rattle.law.specs.Variables.{Variable}
use Rattle.matching.specs.Pattern.{Atom, literal, variable, other, Pattern}
use Rattle.matching.specs.Match.{Values, none_bound, bound, value_in}
use Rattle.matching.specs.Code.Part.{row_of, atom_of}
use Rattle.matching.specs.declared.Binding.{Binding}
use Rattle.matching.specs.declared.Bindings.{Bindings}

-- the variable that an atom is; only a variable's record is a key
abbrev pub variable_in : Atom → Variable
variable_in (literal a) = record { kind = symbol_kind; index = [] }
variable_in (variable v) = v
variable_in other = record { kind = symbol_kind; index = [] }

-- the place of a number; there are 32
abbrev pub place_at : List Binding → ℕ → Binding
place_at places i = get_or places i (record { key = 0; start = 0; size = 0 })

-- the keys of the places that have a value stand among the term records
abbrev pub Keyed : List ℕ → Bindings → Type 0
Keyed terms b = (b.count ≤ 32) × ((i : ℕ) → i < b.count → (place_at b.places i).key + 24 ≤ length terms)

module _ (text terms : List ℕ) where
  -- the variable whose record stands at a position, and the row of so many bytes from a position on
  abbrev pub variable_at : ℕ → Variable
  variable_at key = variable_in (atom_of text (term_at terms key))

  abbrev pub row_at : ℕ → ℕ → Pattern
  row_at start size = row_of text (take size (drop start terms))

  -- the values in the first n places
  unfoldable pub values_up_to : List Binding → ℕ → Values Atom
  values_up_to places zero = none_bound
  values_up_to places (suc n) =
      bound (variable_at (place_at places n).key) (row_at (place_at places n).start (place_at places n).size) (values_up_to places n)

  abbrev pub values_of : Bindings → Values Atom
  values_of b = values_up_to b.places b.count

  -- the value that a place has
  abbrev pub placed : Bindings → Maybe ℕ → Option Pattern
  placed b (Some i) = some (row_at (place_at b.places i).start (place_at b.places i).size)
  placed b None = none

  -- every place has a variable's record for its key, and its value stands among the term records
  pub record Kept (b : Bindings) : Type 0 where
    pub few : b.count ≤ 32
    pub places : length b.places ≡ 32
    pub keyed : (i : ℕ) → i < b.count → (place_at b.places i).key + 24 ≤ length terms
    pub named : (i : ℕ) → i < b.count → atom_of text (term_at terms (place_at b.places i).key) ≡ variable (variable_at (place_at b.places i).key)
    pub inside : (i : ℕ) → i < b.count → (place_at b.places i).start + (place_at b.places i).size ≤ length terms

-- one place more
pub record Bound (b : Bindings) (key start size : ℕ) (r : Bindings) : Type 0 where
  pub more : r.count ≡ suc b.count
  pub places : r.places ≡ set b.places b.count (record { key = key; start = start; size = size })

abbrev pub PlaceIn : Bindings → Maybe ℕ → Type 0
PlaceIn b (Some i) = i < b.count
PlaceIn b None = Unit {0}

-- the place r has the variable that a pattern's first record is, or none has it
abbrev pub HasPlace : List ℕ → List ℕ → List ℕ → Bindings → Maybe ℕ → Type 0
HasPlace text terms pattern b r =
    PlaceIn b r × ((v : Variable) → atom_of text (term_at pattern 0) ≡ variable v → placed text terms b r ≡ value_in (values_of text terms b) v)

-- Variables that stand again among the records of a part, at any depth.
use Rattle.std.specs.Prelude.{ℕ, ◌+◌, ◌*◌, ◌≤◌, true, false, List, ◌≡◌, length}
use Rattle.file.specs.Head.{term_at}
use Rattle.law.specs.Variables.{Variable, occurs}
use Rattle.matching.specs.Pattern.{Atom}
use Rattle.matching.specs.Match.{Values, value_in}
use Rattle.matching.specs.Shadow.{same_atom}
use Rattle.matching.specs.Code.Part.{row_of, atom_of}
use Rattle.matching.specs.Code.Bound.{values_up_to}
use Rattle.matching.specs.declared.Bindings.{Bindings}
use Rattle.searches.specs.Code.Capacity.{variables_in}

-- the atom that a record of a part is, by the record's number
abbrev pub atom_at : List ℕ → List ℕ → ℕ → Atom
atom_at text part n = atom_of text (term_at part (24 * n))

-- what follows has no record that is the same variable as this one
abbrev pub Alone : List ℕ → Atom → List ℕ → Type 0
Alone text a part = (n : ℕ) → 24 * n + 24 ≤ length part → same_atom a (atom_at text part n) ≡ false

-- two lists have no variable in common
abbrev pub Disjoint : List Variable → List Variable → Type 0
Disjoint l m = (w : Variable) → occurs w m ≡ true → occurs w l ≡ false

-- these variables have the same values, or have none
module _ {A : Type 0} where
  abbrev pub Agree : List Variable → Values A → Values A → Type 0
  Agree l vs us = (w : Variable) → occurs w l ≡ true → value_in vs w ≡ value_in us w

-- for a pattern's variables, the values in the first n places are these
abbrev pub AgreeUpTo : List ℕ → List ℕ → List ℕ → Bindings → ℕ → Values Atom → Type 0
AgreeUpTo text terms pattern b n vs = Agree (variables_in (row_of text pattern)) (values_up_to text terms b.places n) vs

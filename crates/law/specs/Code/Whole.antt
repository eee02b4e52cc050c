-- The terms of a part of the term records, as the code goes over them.
use Rattle.std.specs.Prelude.{ℕ, ◌≤◌, List, [], ◌∷◌, ◌≡◌, length, MatchOption, Option}
use denote.Ref.{Bor}
use Rattle.file.specs.Forest.{Forest, end, node}
use Rattle.law.specs.Runs.{term_forest}

-- the bytes of a run from each of its records on; the records inside them are passed over
unfoldable pub heads : Forest → List (List ℕ)
heads end = []
heads (node s inside after) = s ∷ heads after

-- what a part has from each of its terms on
unfoldable pub term_parts : List ℕ → List (List ℕ)
term_parts part = heads (term_forest part)

-- the next item is the whole of what is left, which begins with a term; where no term is left, there is none
abbrev pub YieldsTerm : List ℕ → Option (Bor (List ℕ)) → List ℕ → Type 0
YieldsTerm left item later =
    MatchOption item ((term_parts left ≡ []) × (term_parts later ≡ [])) (λ part. (24 ≤ length part.now) × (term_parts left ≡ part.now ∷ term_parts later))

-- Terms as the code goes over them (law/specs/Code/Whole.antt), each with what the part has behind it: the row that they make.
use Prim.Native.Nat.{ℕ, ◌≤◌}
use mathlib.Core.List.{List, [], ◌∷◌}
use mathlib.Core.Path.{◌≡◌, ap}
use native.Mathlib.Omega.{arith}
use lib.ListN.{length}
use Rattle.file.specs.Forest.{contents}
use Rattle.file.specs.Head.{term_at}
use Rattle.law.specs.Expression.{nothing}
use Rattle.law.specs.Runs.{end_of}
use Rattle.law.specs.Code.Whole.{term_parts}
use Rattle.law.proofs.WholeTerms.{parts_none, parts_node, each_part}
use Rattle.matching.specs.Pattern.{Pattern}
use Rattle.matching.specs.Code.Part.{row_of, term_row}
use Rattle.matching.proofs.PartLaws.{row_empty, row_node}
use Rattle.matching.proofs.CutLaws.{from_length}

module _ (text : List ℕ) where
  abbrev pub rows : List (List ℕ) → Pattern
  rows [] = nothing
  rows (s ∷ ss) = term_row text (term_at s 0) (row_of text (contents 24 end_of s)) (rows ss)

  pub row_parts : (part : List ℕ) → row_of text part ≡ rows (term_parts part)
  row_parts =
      each_part (λ part. row_of text part ≡ rows (term_parts part))
      (λ part short. rw (row_empty text part short, parts_none part short))
      (λ part long after. rw (row_node text part long, parts_node part long) (ap (term_row text (term_at part 0) (row_of text (contents 24 end_of part))) after))

-- none of them is longer
abbrev pub NoLonger : ℕ → List (List ℕ) → Type 0
NoLonger n [] = Unit {0}
NoLonger n (s ∷ ss) = (length s ≤ n) × NoLonger n ss

pub no_longer : (n : ℕ) (part : List ℕ) → length part ≤ n → NoLonger n (term_parts part)
no_longer n =
    each_part (λ part. length part ≤ n → NoLonger n (term_parts part))
    (λ part short h. rw (parts_none part short) tt)
    (λ part long after h. rw (parts_node part long) (h, after (omega (arith, from_length (end_of part) part))))

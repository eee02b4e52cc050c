-- The loose test of a part of the term records with another, as the code goes through them.
use Rattle.std.specs.Prelude.{ℕ, ◌+◌, ◌*◌, ◌≤◌, ◌<◌, Bool, true, false, cond, ◌&&◌, List, ◌≡◌, length, Option, Some, None, IfSome}
use Rattle.std.specs.Borrow.{Bor}
use Rattle.std.proofs.Math.Option as maybe
use Rattle.std.proofs.Math.Option.{none, some}
use Rattle.file.specs.Forest.{contents}
use Rattle.file.specs.Head.{term_at}
use Rattle.file.specs.declared.Term.{Term}
use Rattle.file.specs.declared.Term.TheVariants.{Symbol as Symbolic, SVariable, TVariable, EVariable, Bracket, Call, Block}
use Rattle.law.specs.Expression.{nothing, symbol, brackets}
use Rattle.law.specs.Runs.{end_of}
use Rattle.law.specs.Variables.{Variable}
use Rattle.matching.specs.Pattern.{literal, variable, Pattern}
use Rattle.matching.specs.Shadow.{same_atom, symbol_like, single_term}
use Rattle.matching.specs.Code.Part.{row_of, atom_of, is_bracket}
use Rattle.matching.specs.Match.{none_bound, some_in}
use Rattle.matching.specs.Code.Step.{found, may_stand}
use Rattle.searches.specs.Code.Repeats.{atom_at}
use Rattle.sentences.specs.Code.Loose.{some_end, loosely}
use Rattle.sentences.specs.Code.Greedy.{EndOf, open_atom, front_of, leftmost_of}
use Rattle.matching.specs.Order.{terms_in}

-- a pattern passes the loose test with a row whose terms are those of another pattern
abbrev pub passes : Pattern → Pattern → Bool
passes = loosely same_atom literal symbol_like single_term

abbrev pub front_in : Pattern → Pattern → maybe.Option (Pattern × Pattern)
front_in = front_of same_atom literal symbol_like single_term

abbrev pub leftmost_in : Pattern → Pattern → maybe.Option (Pattern × Pattern)
leftmost_in = leftmost_of same_atom literal symbol_like single_term

-- it does with some end of the row
abbrev pub end_passes : Pattern → Pattern → Bool
end_passes p x = some_end (λ y. passes p y) x

-- what is left of a pattern and a row, as the code answers it
abbrev pub ahead_of : List ℕ → Option (Bor (List ℕ) × Bor (List ℕ)) → maybe.Option (Pattern × Pattern)
ahead_of text None = none
ahead_of text (Some left) = some (row_of text left.0.now, row_of text left.1.now)

-- the pattern is then no longer than it was
abbrev pub AheadIn : List ℕ → Option (Bor (List ℕ) × Bor (List ℕ)) → Type 0
AheadIn pattern ahead = IfSome ahead (λ left. length left.0.now ≤ length pattern)

-- a pattern is empty, or begins with an e. variable
abbrev pub OpenStart : Pattern → Type 0
OpenStart nothing = Unit {0}
OpenStart (symbol t p) = open_atom t ≡ true
OpenStart (brackets c p) = ⊥

-- a pattern has a match with a row, or has none, whether or not brackets are gone back into
abbrev pub Matches : List ℕ → List ℕ → List ℕ → Bool → Type 0
Matches text pattern row b = (back : Bool) → some_in (found back (row_of text pattern) (row_of text row) none_bound) ≡ b

-- may a term of a pattern, no bracket and no e. variable, stand for a term of a row?
abbrev pub fits_atom : List ℕ → Term → Term → Bool
fits_atom text (Symbolic x) t = same_atom (atom_of text (Symbolic x)) (atom_of text t)
fits_atom text (SVariable a b) t = may_stand (SVariable a b) t
fits_atom text (TVariable a b) t = may_stand (TVariable a b) t
fits_atom text (EVariable a b) t = false
fits_atom text Bracket t = false
fits_atom text (Call a b) t = false
fits_atom text (Block n) t = false

abbrev pub fits_heads : List ℕ → Term → Term → Bool → Bool
fits_heads text t u inside = cond (is_bracket t) (is_bracket u && inside) (fits_atom text t u)

-- the same of the first terms of two parts
abbrev pub fits_first : List ℕ → List ℕ → List ℕ → Bool
fits_first text p q = fits_heads text (term_at p 0) (term_at q 0) (passes (row_of text (contents 24 end_of p)) (row_of text (contents 24 end_of q)))

-- what a row has after so many terms
pub record Skipped (row : List ℕ) (count : ℕ) (left : List ℕ) : Type 0 where
  pub end : (text : List ℕ) → EndOf (row_of text left) (row_of text row)
  pub counted : (text : List ℕ) → terms_in (row_of text left) + count ≡ terms_in (row_of text row)

-- no two records of a part, of which one is among the first k, are the same variable
abbrev pub FreshBelow : List ℕ → List ℕ → ℕ → Type 0
FreshBelow text part k =
    (m n : ℕ) (v : Variable) → m < k → m < n → 24 * n + 24 ≤ length part → atom_at text part m ≡ variable v → atom_at text part n ≡ variable v → ⊥

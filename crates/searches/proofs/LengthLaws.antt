-- Every length of a row as the value of an e. variable (`each_length`, in matching/specs/Code/Step.antt), as the matchers' loops go through them: at a position the lengths
-- before it are done, and those from it on are left.
use Prim.Native.Nat.{ℕ, ◌+◌, ◌≤◌, ◌<◌}
use mathlib.Core.Bool.{Bool}
use mathlib.Core.List.{List, [], ◌∷◌, ◌++◌, map}
use mathlib.Core.Path.{◌≡◌, refl, sym, ap}
use native.Mathlib.Omega.{arith}
use lib.ListN.{length, take}
use Rattle.file.specs.Forest.{contents, rest}
use Rattle.file.specs.Head.{term_at}
use Rattle.file.specs.declared.Term.{Term}
use Rattle.file.specs.declared.Term.TheVariants.{Symbol as Symbolic, SVariable, TVariable, EVariable, Bracket, Call, Block}
use Rattle.law.specs.Expression.{nothing, symbol, brackets, ◌⊕◌}
use Rattle.law.specs.Runs.{end_of}
use Rattle.law.specs.Variables.{Variable}
use Rattle.matching.specs.Pattern.{Atom, Pattern}
use Rattle.matching.specs.Match.{Values, bound, splits, each}
use Rattle.matching.specs.Code.Part.{row_of, from, Begin, term_row}
use Rattle.matching.specs.Code.Step.{found, first_variable, each_length}
use Rattle.matching.proofs.PartLaws.{row_empty, row_node}
use Rattle.matching.proofs.RowLaws.{row_assoc, row_nothing}
use Rattle.matching.proofs.CutLaws.{from_all, from_from, one_more}

module _ (back : Bool) (p : Pattern) (v : Variable) (vs : Values Atom) where
  -- the lengths from a position on: `before` is the row up to it, `left` the row from it on
  abbrev pub lengths_from : Pattern → Pattern → List (Values Atom)
  lengths_from before left = each (λ (q : Pattern × Pattern). found back p q.1 (bound v (before ⊕ q.0) vs)) (splits left)

  each_map : (f g : Pattern × Pattern → List (Values Atom)) (h : Pattern × Pattern → Pattern × Pattern) → ((q : Pattern × Pattern) → f (h q) ≡ g q)
      → (l : List (Pattern × Pattern)) → each f (map h l) ≡ each g l
  each_map f g h same [] = refl
  each_map f g h same (q ∷ l) = rw (same q, each_map f g h same l)

  -- nothing is left: the length up to here is the last
  pub lengths_last : (before : Pattern) → lengths_from before nothing ≡ found back p nothing (bound v before vs) ++ []
  unfolding splits
  lengths_last before = rw (row_nothing before)

  -- a term is left: the length up to here, then those from behind the term on
  more_symbol : (before : Pattern) (a : Atom) (left : Pattern)
      → lengths_from before (symbol a left) ≡ found back p (symbol a left) (bound v before vs) ++ lengths_from (before ⊕ symbol a nothing) left
  unfolding splits
  more_symbol before a left =
      rw (
        row_nothing before,
        each_map (λ q. found back p q.1 (bound v (before ⊕ q.0) vs)) (λ q. found back p q.1 (bound v (before ⊕ symbol a nothing ⊕ q.0) vs))
            (λ q. (symbol a q.0, q.1))
            (λ q. ap (λ y. found back p q.1 (bound v y vs)) (sym (row_assoc before (symbol a nothing) q.0)))
            (splits left),
      )

  more_brackets : (before c left : Pattern)
      → lengths_from before (brackets c left) ≡ found back p (brackets c left) (bound v before vs) ++ lengths_from (before ⊕ brackets c nothing) left
  unfolding splits
  more_brackets before c left =
      rw (
        row_nothing before,
        each_map (λ q. found back p q.1 (bound v (before ⊕ q.0) vs)) (λ q. found back p q.1 (bound v (before ⊕ brackets c nothing ⊕ q.0) vs))
            (λ q. (brackets c q.0, q.1))
            (λ q. ap (λ y. found back p q.1 (bound v y vs)) (sym (row_assoc before (brackets c nothing) q.0)))
            (splits left),
      )

  pub lengths_more : (text : List ℕ) (before : Pattern) (x : Term) (c left : Pattern)
      → lengths_from before (term_row text x c left) ≡ found back p (term_row text x c left) (bound v before vs) ++ lengths_from (before ⊕ term_row text x c nothing) left
  lengths_more text before (Symbolic x) c left = more_symbol before _ left
  lengths_more text before (SVariable a b) c left = more_symbol before _ left
  lengths_more text before (TVariable a b) c left = more_symbol before _ left
  lengths_more text before (EVariable a b) c left = more_symbol before _ left
  lengths_more text before Bracket c left = more_brackets before c left
  lengths_more text before (Call a b) c left = more_symbol before _ left
  lengths_more text before (Block n) c left = more_symbol before _ left

-- what is left at a position of the row where a term begins, or the row ends
module _ (text : List ℕ) (back : Bool) (pattern row : List ℕ) (vs : Values Atom) where
  abbrev pub left_at : ℕ → List (Values Atom)
  left_at n = lengths_from back (row_of text (rest 24 end_of pattern)) (first_variable text pattern) vs (row_of text (take n row)) (row_of text (from n row))

  -- the length up to a position
  abbrev pub length_at : ℕ → List (Values Atom)
  length_at n = found back (row_of text (rest 24 end_of pattern)) (row_of text (from n row)) (bound (first_variable text pattern) (row_of text (take n row)) vs)

  -- as the code searches it
  pub length_search : (n end : ℕ) (us : Values Atom) → end ≡ end_of pattern → us ≡ bound (first_variable text pattern) (row_of text (take n row)) vs
      → found back (row_of text (from end pattern)) (row_of text (from n row)) us ≡ length_at n
  length_search n end us same values = rw (same, values)

  pub left_first : each_length text back pattern row vs ≡ left_at 0
  left_first = rw (from_all row, row_empty text (take 0 row) (omega arith))

  pub left_last : (n : ℕ) → length (from n row) < 24 → left_at n ≡ length_at n ++ []
  left_last n h =
      rw (row_empty text (from n row) h)
      (lengths_last back (row_of text (rest 24 end_of pattern)) (first_variable text pattern) vs (row_of text (take n row)))

  pub left_more : (n : ℕ) → Begin row n → 24 ≤ length (from n row) → left_at n ≡ length_at n ++ left_at (n + end_of (from n row))
  left_more n b some =
      rw (one_more text row n b some, ← from_from (end_of (from n row)) n row, row_node text (from n row) some)
      (lengths_more back (row_of text (rest 24 end_of pattern)) (first_variable text pattern) vs text (row_of text (take n row)) (term_at (from n row) 0)
      (row_of text (contents 24 end_of (from n row))) (row_of text (rest 24 end_of (from n row))))

-- What the code of src/shadow.rt answers at each of its returns, in the terms of its contracts: the first of all matches.
use Prim.Native.Nat.{ℕ, ◌+◌, ◌-◌, ◌≤◌, ◌<◌}
use mathlib.Core.Bool.{Bool, true, false}
use mathlib.Core.List.{List, [], ◌∷◌, ◌++◌, append-nil}
use mathlib.Core.Option.{Option, none, some}
use mathlib.Core.Path.{◌≡◌, refl, sym, ap, ◌∙◌}
use native.Mathlib.Omega.{arith}
use native.Mathlib.Decide.{dec_lt}
use lib.ListN.{length, take, drop}
use Rattle.file.specs.Forest.{contents, rest}
use Rattle.file.specs.Head.{term_at}
use Rattle.file.specs.declared.Term.{Term}
use Rattle.file.specs.declared.Term.TheVariants.{Symbol as Symbolic, SVariable, TVariable, EVariable, Bracket, Call, Block}
use Rattle.law.specs.Expression.{nothing}
use Rattle.law.specs.Runs.{end_of}
use Rattle.matching.specs.Pattern.{Atom, Pattern}
use Rattle.matching.specs.Match.{Values, each, all_or_first, matches}
use Rattle.matching.specs.Code.Part.{row_of, from, Begin, term_row}
use Rattle.matching.specs.Code.Bound.{values_of, Bound}
use Rattle.matching.specs.Code.Step.{found, each_length, each_inside, Free, first_variable}
use Rattle.searches.specs.Code.Asked.{first_in, Asked, matched_values}
use Rattle.matching.specs.declared.Bindings.{Bindings}
use Rattle.std.specs.Prelude.{Some, None, Option as Maybe, is_some}
use Rattle.matching.proofs.PartLaws.{row_empty, row_node}
use Rattle.matching.proofs.CutLaws.{begin_inside}
use Rattle.searches.proofs.LengthLaws.{left_at, length_at, left_first, left_last, left_more, length_search}
use Rattle.searches.proofs.AskedLaws.{values_more}

-- ---- the first of a list

-- of two lists after one another
module _ {X : Type 0} where
  pub first_none : (l m : List X) → first_in l ≡ none → first_in (l ++ m) ≡ first_in m
  first_none [] m e = refl
  first_none (x ∷ l) m e = cc

  pub first_some : (l m : List X) (x : X) → first_in l ≡ some x → first_in (l ++ m) ≡ some x
  first_some [] m x e = cc
  first_some (y ∷ l) m x e = e

-- ---- nothing is left of the pattern

nothing_row : (text : List ℕ) (back : Bool) (vs : Values Atom) (x : Term) (c left : Pattern) → found back nothing (term_row text x c left) vs ≡ []
unfolding matches
nothing_row text back vs (Symbolic x) c left = refl
nothing_row text back vs (SVariable a b) c left = refl
nothing_row text back vs (TVariable a b) c left = refl
nothing_row text back vs (EVariable a b) c left = refl
nothing_row text back vs Bracket c left = refl
nothing_row text back vs (Call a b) c left = refl
nothing_row text back vs (Block n) c left = refl

module _ (text pattern row : List ℕ) (back : Bool) (vs : Values Atom) (short : length pattern < 24) where
  pub end_both : length row < 24 → found back (row_of text pattern) (row_of text row) vs ≡ vs ∷ []
  unfolding matches
  end_both h = rw (row_empty text pattern short, row_empty text row h)

  pub end_one : 24 ≤ length row → found back (row_of text pattern) (row_of text row) vs ≡ []
  end_one h = rw (row_empty text pattern short, row_node text row h) (nothing_row text back vs (term_at row 0) _ _)

-- ---- the returns of `shadow_run`

some_of : (m : Maybe Bindings) → is_some m ≡ true → (us : Bindings) × (m ≡ Some us)
some_of None e = cc
some_of (Some us) e = (us, refl)

module _ (text terms : List ℕ) where
  -- there is a match, or none
  pub matched_no : (m : Maybe Bindings) → is_some m ≡ false → matched_values text terms m ≡ none
  matched_no None e = refl
  matched_no (Some c) e = cc

  module _ (b : Bindings) (pattern row : List ℕ) (short : length pattern < 24) where
    pub run_match : length row < 24 → some (values_of text terms b) ≡ first_in (found false (row_of text pattern) (row_of text row) (values_of text terms b))
    run_match h = rw (end_both text pattern row false (values_of text terms b) short h)

    pub run_left : 24 ≤ length row → none ≡ first_in (found false (row_of text pattern) (row_of text row) (values_of text terms b))
    run_left h = rw (end_one text pattern row false (values_of text terms b) short h)

-- ---- the returns of `shadow_lengths`

module _ {text terms pattern : List ℕ} {at : ℕ} {row : List ℕ} {start : ℕ} {b : Bindings} (asked : Asked text terms pattern at row start [] b)
    (some_left : 24 ≤ length pattern) (free : Free (row_of text pattern) (first_variable text pattern) (values_of text terms b)) where
  abbrev all_lengths : List (Values Atom)
  all_lengths = each_length text false pattern row (values_of text terms b)

  abbrev lengths_left : ℕ → List (Values Atom)
  lengths_left = left_at text false pattern row (values_of text terms b)

  abbrev this_length : ℕ → List (Values Atom)
  this_length = length_at text false pattern row (values_of text terms b)

  pub lengths_start : first_in all_lengths ≡ first_in (lengths_left 0)
  lengths_start = ap first_in (left_first text false pattern row (values_of text terms b))

  module _ {end n : ℕ} (ends : end ≡ end_of pattern) (begin : Begin row n) {c : Bindings} (more : Bound b at start n c) (m : Maybe Bindings)
      (answer : matched_values text terms m ≡ first_in (found false (row_of text (from end pattern)) (row_of text (from n row)) (values_of text terms c)))
      (whole : first_in all_lengths ≡ first_in (lengths_left n)) where
    here : matched_values text terms m ≡ first_in (this_length n)
    here =
        answer
        ∙ ap first_in (length_search text false pattern row (values_of text terms b) n end (values_of text terms c) ends
        (values_more asked some_left free (begin_inside begin) more))

    -- this length matches
    found_with : {us : Bindings} → m ≡ Some us → matched_values text terms m ≡ first_in all_lengths
    found_with {us} e = go (dec_lt (length (from n row)) 24)
      where
        first : first_in (this_length n) ≡ some (values_of text terms us)
        first = sym here ∙ ap (matched_values text terms) e

        go : Dec (length (from n row) < 24) → matched_values text terms m ≡ first_in all_lengths
        go (yes h) = rw (whole, left_last text false pattern row (values_of text terms b) n h, first_some (this_length n) [] _ first, e)
        go (no h) =
            rw (
              whole,
              left_more text false pattern row (values_of text terms b) n begin (omega arith),
              first_some (this_length n) (lengths_left (n + end_of (from n row))) _ first,
              e,
            )

    pub length_found : is_some m ≡ true → matched_values text terms m ≡ first_in all_lengths
    length_found h = found_with (some_of m h).1

    module _ (e : is_some m ≡ false) where
      first_no : first_in (this_length n) ≡ none
      first_no = sym here ∙ matched_no text terms m e

      -- no length does
      pub length_none : length (from n row) < 24 → matched_values text terms m ≡ first_in all_lengths
      length_none h = rw (whole, left_last text false pattern row (values_of text terms b) n h, first_none (this_length n) [] first_no, matched_no text terms m e)

      -- one more is left
      pub length_next : 24 ≤ length (from n row) → first_in all_lengths ≡ first_in (lengths_left (n + end_of (from n row)))
      length_next h =
          whole
          ∙ ap first_in (left_more text false pattern row (values_of text terms b) n begin h)
          ∙ first_none (this_length n) (lengths_left (n + end_of (from n row))) first_no

-- ---- the returns of `shadow_inside`

module _ {X Y : Type 0} (f : X → List Y) where
  pub first_each_none : (l : List X) → first_in l ≡ none → first_in (each f (all_or_first false l)) ≡ none
  first_each_none [] e = refl
  first_each_none (x ∷ l) e = cc

  pub first_each_some : (l : List X) (x : X) → first_in l ≡ some x → first_in (each f (all_or_first false l)) ≡ first_in (f x)
  first_each_some [] x e = cc
  first_each_some (y ∷ l) x e =
      let same : y ≡ x = cc in
      rw (same, append-nil (f x))

module _ {text terms pattern : List ℕ} {at : ℕ} {row : List ℕ} {start : ℕ} {b : Bindings} (asked : Asked text terms pattern at row start [] b)
    {m n : ℕ} (p : m ≡ end_of pattern) (q : n ≡ end_of row) (inner : Maybe Bindings)
    (here : matched_values text terms inner ≡ first_in (found false (row_of text (take (m - 24) (drop 24 pattern))) (row_of text (take (n - 24) (drop 24 row))) (values_of text terms b))) where
  contents_first : matched_values text terms inner ≡ first_in (found false (row_of text (contents 24 end_of pattern)) (row_of text (contents 24 end_of row)) (values_of text terms b))
  contents_first = rw (p, q) at here

  abbrev after_inside : Values Atom → List (Values Atom)
  after_inside us = found false (row_of text (rest 24 end_of pattern)) (row_of text (rest 24 end_of row)) us

  -- the contents do not match
  pub inside_none : inner ≡ None → none ≡ first_in (each_inside text false pattern row (values_of text terms b))
  inside_none e =
      sym (first_each_none after_inside (found false (row_of text (contents 24 end_of pattern)) (row_of text (contents 24 end_of row)) (values_of text terms b))
      (sym contents_first ∙ ap (matched_values text terms) e))

  -- they do: the values of their first match
  module _ {us : Bindings} (e : inner ≡ Some us) where
    pub inside_first : first_in (found false (row_of text (contents 24 end_of pattern)) (row_of text (contents 24 end_of row)) (values_of text terms b)) ≡ some (values_of text terms us)
    inside_first = sym contents_first ∙ ap (matched_values text terms) e

    -- and the rest with these
    pub inside_some : (x : Option (Values Atom))
        → x ≡ first_in (found false (row_of text (from m pattern)) (row_of text (from n row)) (values_of text terms us))
        → x ≡ first_in (each_inside text false pattern row (values_of text terms b))
    inside_some x k =
        (rw (p, q) at k)
        ∙ sym (first_each_some after_inside (found false (row_of text (contents 24 end_of pattern)) (row_of text (contents 24 end_of row)) (values_of text terms b))
        (values_of text terms us) inside_first)

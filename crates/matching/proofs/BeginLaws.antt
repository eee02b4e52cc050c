-- Does a row begin with a value (`after` and `same_terms`, specs/Match.antt), where both are parts of the term records: record by record, as `begins`
-- and `same_first` ask.
use Prim.Native.Nat.{ℕ, ◌+◌, ◌-◌, ◌≤◌, ◌<◌}
use mathlib.Core.Bool.{Bool, true, false, cond, ◌&&◌}
use mathlib.Core.List.{List, [], ◌∷◌}
use mathlib.Core.Path.{◌≡◌, refl, sym, ap, ◌∙◌}
use native.Mathlib.Omega.{arith}
use native.Mathlib.Decide.{dec_lt}
use lib.ListN.{length, take, drop}
use lib.Dec.{ltb}
use borrow.Author.Tests.{lt-ltb, le-ltb}
use Rattle.file.specs.Forest.{contents, rest}
use Rattle.file.specs.Head.{term_at}
use Rattle.file.specs.declared.Term.{Term}
use Rattle.file.specs.declared.Term.TheVariants.{Symbol as Symbolic, SVariable, TVariable, EVariable, Bracket, Call, Block}
use Rattle.law.specs.Expression.{Terms, nothing, symbol, brackets}
use Rattle.law.specs.Runs.{end_of}
use Rattle.matching.specs.Pattern.{Atom, literal, variable, other, Pattern}
use Rattle.matching.specs.Match.{when, same_terms, after}
use Rattle.matching.specs.Shadow.{same_atom}
use Rattle.matching.specs.Code.Part.{row_of, from, atom_of, term_row, is_bracket, same_heads, same_first}
use Rattle.matching.specs.Code.Step.{begins_with, BeginsIn}
use Rattle.std.specs.Prelude.{Some, None, Option as Maybe}
use Rattle.matching.proofs.SameLaws.{false_not_true}
use Rattle.matching.proofs.CutLaws.{from_all, from_length, from_from}
use Rattle.law.specs.Code.Whole.{term_parts}
use Rattle.law.proofs.RunLaws.{end_high}
use Rattle.matching.proofs.PartLaws.{row_empty, row_node}
use Rattle.matching.proofs.TermLaws.{rows, row_parts, NoLonger, no_longer}

-- ---- rows of one form

module _ {A : Type 0} where
  -- is nothing left?
  abbrev nothing_left : List (Terms A) → Bool
  nothing_left [] = false
  nothing_left (nothing ∷ l) = true
  nothing_left (symbol a x ∷ l) = false
  nothing_left (brackets c x ∷ l) = false

  left_when : (t : Bool) (l : List (Terms A)) → (t && nothing_left l) ≡ nothing_left (when t l)
  left_when true l = refl
  left_when false l = refl

-- rows are the same exactly when the one begins with the other and nothing is left
same_after : {A : Type 0} (same : A → A → Bool) (x y : Terms A) → same_terms same x y ≡ nothing_left (after same x y)
unfolding same_terms after
same_after same nothing nothing = refl
same_after same nothing (symbol b y) = refl
same_after same nothing (brackets d y) = refl
same_after same (symbol a x) nothing = refl
same_after same (symbol a x) (symbol b y) = rw (same_after same x y) (left_when (same a b) (after same x y))
same_after same (symbol a x) (brackets d y) = refl
same_after same (brackets c x) nothing = refl
same_after same (brackets c x) (symbol b y) = refl
same_after same (brackets c x) (brackets d y) = rw (same_after same x y) (left_when (same_terms same c d) (after same x y))

-- ---- first terms

module _ (text : List ℕ) where
  -- a term before the terms after it
  row_of_term : (t : Term) (inside others : Pattern) → term_row text t inside others ≡ cond (is_bracket t) (brackets inside others) (symbol (atom_of text t) others)
  row_of_term (Symbolic x) inside others = refl
  row_of_term (SVariable a b) inside others = refl
  row_of_term (TVariable a b) inside others = refl
  row_of_term (EVariable a b) inside others = refl
  row_of_term Bracket inside others = refl
  row_of_term (Call a b) inside others = refl
  row_of_term (Block n) inside others = refl

  bracket_other : (t : Term) → is_bracket t ≡ true → atom_of text t ≡ other
  bracket_other (Symbolic x) e = absurd (false_not_true e)
  bracket_other (SVariable a b) e = absurd (false_not_true e)
  bracket_other (TVariable a b) e = absurd (false_not_true e)
  bracket_other (EVariable a b) e = absurd (false_not_true e)
  bracket_other Bracket e = refl
  bracket_other (Call a b) e = absurd (false_not_true e)
  bracket_other (Block n) e = absurd (false_not_true e)

-- no atom is the same as a bracket
none_other : (a : Atom) → same_atom a other ≡ false
none_other (literal x) = refl
none_other (variable v) = refl
none_other other = refl

module _ (text : List ℕ) (t u : Term) where
  -- a bracket and a term that is no bracket are not the same, whatever the bracket's contents are
  heads_left : (same : Bool) → is_bracket t ≡ true → is_bracket u ≡ false → same_heads text t u same ≡ false
  heads_left same e q = rw (e, q, bracket_other text t e)

  heads_right : (same : Bool) → is_bracket t ≡ false → is_bracket u ≡ true → same_heads text t u same ≡ false
  heads_right same e q = rw (e, bracket_other text u q) (none_other (atom_of text t))

  -- what follows a value that begins with one term, in a row that begins with another
  after_heads : (c y d x : Pattern)
      → after same_atom (term_row text t c y) (term_row text u d x) ≡ when (same_heads text t u (same_terms same_atom c d)) (after same_atom y x)
  unfolding after
  after_heads c y d x = rw (row_of_term text t c y, row_of_term text u d x) (go (is_bracket t) (is_bracket u) refl refl)
    where
      go : (p q : Bool) → is_bracket t ≡ p → is_bracket u ≡ q
          → after same_atom (cond p (brackets c y) (symbol (atom_of text t) y)) (cond q (brackets d x) (symbol (atom_of text u) x))
          ≡ when (same_heads text t u (same_terms same_atom c d)) (after same_atom y x)
      go true true e q = rw (e, q)
      go true false e q = rw (heads_left (same_terms same_atom c d) e q)
      go false true e q = rw (heads_right (same_terms same_atom c d) e q)
      go false false e q = rw e

-- a value that begins with a term begins no empty row
after_none : (text : List ℕ) (t : Term) (c y : Pattern) → after same_atom (term_row text t c y) nothing ≡ []
unfolding after
after_none text t c y = rw (row_of_term text t c y) (go (is_bracket t))
  where
    go : (p : Bool) → after same_atom (cond p (brackets c y) (symbol (atom_of text t) y)) nothing ≡ []
    go true = refl
    go false = refl

-- what is left from k on is nothing exactly when it is too short for a record
row_short : (text part : List ℕ) (k : ℕ) → k ≤ length part → nothing_left (row_of text (from k part) ∷ []) ≡ ltb (length part) (k + 24)
row_short text part k h = go (dec_lt (length (from k part)) 24)
  where
    some : (p : Bool) (a : Atom) (c x : Pattern) → nothing_left (cond p (brackets c x) (symbol a x) ∷ []) ≡ false
    some true a c x = refl
    some false a c x = refl

    go : Dec (length (from k part) < 24) → nothing_left (row_of text (from k part) ∷ []) ≡ ltb (length part) (k + 24)
    go (yes l) = rw (row_empty text (from k part) l, lt-ltb (length part) (k + 24) (omega (arith, from_length k part)))
    go (no l) =
        rw (
          row_node text (from k part) (omega arith),
          row_of_term text (term_at (from k part) 0) _ _,
          le-ltb (length part) (k + 24) (omega (arith, from_length k part)),
        )
        (some (is_bracket (term_at (from k part) 0)) (atom_of text (term_at (from k part) 0)) _ _)

-- ---- what `same_first` answers at each return

module _ (text value row : List ℕ) {p : Bool} (first : p ≡ is_bracket (term_at value 0)) where
  module _ {q : Bool} (second : q ≡ is_bracket (term_at row 0)) (e : p ≡ true) where
    module _ (d : q ≡ true) {m n : ℕ} (ends : m ≡ end_of value) (row_ends_lem : n ≡ end_of row) where
      inside_left : same_first text value row ≡ nothing_left (after same_atom (row_of text (take (m - 24) (drop 24 value))) (row_of text (take (n - 24) (drop 24 row))))
      inside_left = rw (ends, row_ends_lem, ← first, e, ← second, d) (same_after same_atom (row_of text (contents 24 end_of value)) (row_of text (contents 24 end_of row)))

      -- what `begins` answers of the contents
      abbrev Answered : Maybe ℕ → Type 0
      Answered r =
          BeginsIn (take (n - 24) (drop 24 row)) r
          × (begins_with text (take (n - 24) (drop 24 row)) r ≡ after same_atom (row_of text (take (m - 24) (drop 24 value))) (row_of text (take (n - 24) (drop 24 row))))

      -- the contents are not the same
      pub inside_differs : {r : Maybe ℕ} → r ≡ None → Answered r → false ≡ same_first text value row
      inside_differs {r} i h = let known : Answered None = rw i at h in sym (inside_left ∙ ap nothing_left (sym known.1))

      -- they are the same if what is left of the row's contents is too short for a record
      pub inside_begins : {r : Maybe ℕ} {k : ℕ} → r ≡ Some k → Answered r → ltb (length (take (n - 24) (drop 24 row))) (k + 24) ≡ same_first text value row
      inside_begins {r} {k} i h =
          let known : Answered (Some k) = rw i at h in
          sym (inside_left ∙ ap nothing_left (sym known.1) ∙ row_short text (take (n - 24) (drop 24 row)) k known.0)

-- ---- what `begins` answers at each return: these are left of the value and of the row

pub record Begun (text value row left_value left_row : List ℕ) : Type 0 where
  pub within : length left_row ≤ length row
  pub place : left_row ≡ from (length row - length left_row) row
  pub short : NoLonger (length value) (term_parts left_value)
  pub left : after same_atom (row_of text value) (row_of text row) ≡ after same_atom (rows text (term_parts left_value)) (row_of text left_row)

pub begun : (text value row : List ℕ) → Begun text value row value row
begun text value row =
    let none : length row - length row ≡ 0 = omega arith in
    record {
      within = omega arith;
      place = rw (none, from_all row);
      short = no_longer (length value) value (omega arith);
      left = rw (row_parts text value);
    }

module _ {text value row left_value left_row : List ℕ} (so_far : Begun text value row left_value left_row) where
  -- nothing is left of the value
  pub begins_after : term_parts left_value ≡ [] → BeginsIn row (Some (length row - length left_row))
      × (begins_with text row (Some (length row - length left_row)) ≡ after same_atom (row_of text value) (row_of text row))
  unfolding after
  begins_after none =
      let ends : after same_atom (row_of text value) (row_of text row) ≡ row_of text left_row ∷ [] =
      so_far.left ∙ ap (λ ss. after same_atom (rows text ss) (row_of text left_row)) none in
      (omega arith, sym (ends ∙ ap (λ s. row_of text s ∷ []) so_far.place))

  -- a term, with what is behind it
  module _ (term behind : List ℕ) (here : term_parts left_value ≡ term ∷ term_parts behind) where
    pub term_short : length term ≤ length value
    term_short = (rw here at so_far.short).0

    -- nothing is left of the row
    pub begins_short : length left_row < 24 → BeginsIn row None × (begins_with text row None ≡ after same_atom (row_of text value) (row_of text row))
    begins_short h =
        (tt, sym (so_far.left ∙ ap (λ ss. after same_atom (rows text ss) (row_of text left_row)) here ∙ rw (row_empty text left_row h) (after_none text (term_at term 0) _ _)))

    module _ (more : 24 ≤ length left_row) {t : Bool} (told : t ≡ same_first text term left_row) where
      next : after same_atom (row_of text value) (row_of text row)
          ≡ when t (after same_atom (rows text (term_parts behind)) (row_of text (rest 24 end_of left_row)))
      next =
          so_far.left ∙ ap (λ ss. after same_atom (rows text ss) (row_of text left_row)) here
          ∙ rw (told, row_node text left_row more) (after_heads text (term_at term 0) (term_at left_row 0) _ _ _ _)

      -- the first terms are not the same
      pub begins_differs : t ≡ false → BeginsIn row None × (begins_with text row None ≡ after same_atom (row_of text value) (row_of text row))
      begins_differs e = (tt, sym (next ∙ rw e))

      -- they are
      pub begins_next : t ≡ true → {later : List ℕ} → later ≡ rest 24 end_of left_row → Begun text value row behind later
      begins_next e {later} is =
          let size : length later ≡ length left_row - end_of left_row = ap length is ∙ from_length (end_of left_row) left_row in
          let place : length row - length later ≡ length row - length left_row + end_of left_row = omega (arith, so_far.within, end_high left_row) in
          record {
            within = omega (arith, so_far.within);
            place = rw place (is ∙ ap (from (end_of left_row)) so_far.place ∙ from_from (end_of left_row) (length row - length left_row) row);
            short = (rw here at so_far.short).1;
            left = next ∙ rw (e, is);
          }

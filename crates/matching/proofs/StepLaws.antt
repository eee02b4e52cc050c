-- What the first record of a pattern leaves of the search (`Leaves`, specs/Code/Step.antt), for each kind of record and each return of the code.
use Prim.Native.Nat.{ℕ, zero, suc, ◌+◌, ◌*◌, ◌-◌, ◌≤◌, ◌<◌, min}
use mathlib.Core.Bool.{Bool, true, false}
use mathlib.Core.List.{List, [], ◌∷◌, append-nil}
use mathlib.Core.Option.{Option, none, some}
use mathlib.Core.Path.{◌≡◌, refl, sym, ap, ap₂, ◌∙◌}
use native.Mathlib.Omega.{arith}
use native.Mathlib.Decide.{dec_lt}
use lib.ListN.{length, take, drop, length-take}
use lib.Seq.{length-take-le, take-take}
use Rattle.file.specs.Word.{word_at}
use Rattle.file.specs.Forest.{contents, rest}
use Rattle.file.specs.Head.{term_from, term_at}
use Rattle.file.proofs.Words.{word_part}
use Rattle.file.specs.declared.Symbol.{Symbol}
use Rattle.file.specs.declared.Symbol.TheVariants.{Character, Identifier, Number}
use Rattle.file.specs.declared.Term.{Term}
use Rattle.file.specs.declared.Term.TheVariants.{Symbol as Symbolic, SVariable, TVariable, EVariable, Bracket, Call, Block}
use Rattle.law.specs.Tree.{Kind, symbol_kind, term_kind, expression_kind}
use Rattle.law.specs.Expression.{nothing, symbol, brackets}
use Rattle.law.specs.Runs.{end_of}
use Rattle.law.specs.Variables.{Variable}
use Rattle.law.proofs.RunLaws.{end_low, end_high}
use Rattle.law.proofs.Parts.{drop_take}
use Rattle.law.specs.Symbol as symbols
use Rattle.matching.specs.Pattern.{Atom, literal, variable, other, Pattern}
use Rattle.matching.specs.Match.{Values, bound, when, each, value_in, after, choices, matches}
use Rattle.matching.specs.Shadow.{same_atom, symbol_like, single_term}
use Rattle.matching.specs.Code.Bound.{variable_in, row_at}
use Rattle.matching.specs.Code.Part.{row_of, from, Begin, at_start, one_on, symbol_at, atom_of, term_row, is_bracket}
use Rattle.matching.specs.Code.Step.{found, Free, begins_with, BeginsIn, first_variable, open_term, symbol_term, single_one, may_stand, Leaves}
use Rattle.std.specs.Prelude.{Some, None, Option as Maybe}
use Rattle.matching.specs.declared.First.TheVariants.{Fails, Goes, Stops}
use Rattle.matching.specs.declared.Stop.TheVariants.{Binds, Tries, Inside}
use Rattle.matching.proofs.SameLaws.{false_not_true}
use Rattle.matching.proofs.PartLaws.{row_empty, row_node}
use Rattle.matching.proofs.CutLaws.{from_all, from_length, from_from, begin_inside}

-- ---- the first term of a part

end_known : (part : List ℕ) → end_of part ≡ min (24 + 24 * word_at part 12) (length part)
unfolding end_of
end_known part = refl

module _ (part : List ℕ) (some : 24 ≤ length part) where
  first_length_lem : length (take (end_of part) part) ≡ end_of part
  first_length_lem = length-take-le (end_of part) part (end_high part)

  first_term_lem : term_at (take (end_of part) part) 0 ≡ term_at part 0
  unfolding term_at
  first_term_lem =
      let low : 24 ≤ end_of part = end_low part some in
      rw (
        word_part part 0 (end_of part) 0 (omega arith),
        word_part part 0 (end_of part) 4 (omega arith),
        word_part part 0 (end_of part) 8 (omega arith),
      )

  first_end : end_of (take (end_of part) part) ≡ end_of part
  first_end =
      let low : 24 ≤ end_of part = end_low part some in
      end_known (take (end_of part) part) ∙ rw (first_length_lem, word_part part 0 (end_of part) 12 (omega arith)) (omega (arith, end_known part))

  first_contents : contents 24 end_of (take (end_of part) part) ≡ contents 24 end_of part
  first_contents = rw (first_end, drop_take 24 (end_of part) part, take-take (end_of part - 24) (end_of part - 24) (drop 24 part) (omega arith))

  -- nothing follows the first term
  first_rest : length (rest 24 end_of (take (end_of part) part)) < 24
  first_rest = rw (first_end, first_length_lem) (simp length-take (omega arith))

  -- the first term alone, as a row
  pub row_first : (text : List ℕ) → row_of text (take (end_of part) part) ≡ term_row text (term_at part 0) (row_of text (contents 24 end_of part)) nothing
  row_first text =
      row_node text (take (end_of part) part) (omega (arith, first_length_lem, end_low part some))
      ∙ rw (first_term_lem, first_contents, row_empty text (rest 24 end_of (take (end_of part) part)) first_rest)

-- the second term begins where the first ends
second_term : (part : List ℕ) → 24 ≤ length part → Begin part (end_of part)
second_term part some_left =
    let later : Begin part (0 + end_of (from 0 part)) = one_on {n = 0} (rw (from_all part) some_left) at_start in
    let end : 0 + end_of part ≡ end_of part = omega arith in
    rw (from_all part, end) at later

-- ---- symbols

module _ (text : List ℕ) (back : Bool) where
  -- a symbol before the rest of a pattern, with a row that begins with a term
  found_symbol : (x : Symbol) (p : Pattern) (t : Term) (inside others : Pattern) (vs : Values Atom)
      → found back (symbol (literal (symbol_at text x)) p) (term_row text t inside others) vs
      ≡ when (same_atom (literal (symbol_at text x)) (atom_of text t)) (found back p others vs)
  unfolding matches
  found_symbol x p (Symbolic y) inside others vs = refl
  found_symbol x p (SVariable a b) inside others vs = refl
  found_symbol x p (TVariable a b) inside others vs = refl
  found_symbol x p (EVariable a b) inside others vs = refl
  found_symbol x p Bracket inside others vs = refl
  found_symbol x p (Call a b) inside others vs = refl
  found_symbol x p (Block n) inside others vs = refl

  -- brackets
  found_brackets : (c p : Pattern) (t : Term) (inside others : Pattern) (vs : Values Atom) → is_bracket t ≡ false
      → found back (brackets c p) (term_row text t inside others) vs ≡ []
  unfolding matches
  found_brackets c p (Symbolic y) inside others vs e = refl
  found_brackets c p (SVariable a b) inside others vs e = refl
  found_brackets c p (TVariable a b) inside others vs e = refl
  found_brackets c p (EVariable a b) inside others vs e = refl
  found_brackets c p Bracket inside others vs e = absurd (false_not_true (sym e))
  found_brackets c p (Call a b) inside others vs e = refl
  found_brackets c p (Block n) inside others vs e = refl

is_bracket_lem : (t : Term) → is_bracket t ≡ true → t ≡ Bracket
is_bracket_lem (Symbolic y) e = absurd (false_not_true e)
is_bracket_lem (SVariable a b) e = absurd (false_not_true e)
is_bracket_lem (TVariable a b) e = absurd (false_not_true e)
is_bracket_lem (EVariable a b) e = absurd (false_not_true e)
is_bracket_lem Bracket e = refl
is_bracket_lem (Call a b) e = absurd (false_not_true e)
is_bracket_lem (Block n) e = absurd (false_not_true e)

module _ (text pattern row : List ℕ) (some : 24 ≤ length pattern) (x : Symbol) (first : term_at pattern 0 ≡ Symbolic x) (back : Bool) (vs : Values Atom) where
  -- nothing is left of the row
  symbol_short : length row < 24 → found back (row_of text pattern) (row_of text row) vs ≡ []
  unfolding matches
  symbol_short h = rw (row_node text pattern some, first, row_empty text row h)

  -- the symbol, if the row begins with it
  symbol_told : 24 ≤ length row → {t : Bool} → t ≡ same_atom (atom_of text (term_at pattern 0)) (atom_of text (term_at row 0))
      → found back (row_of text pattern) (row_of text row) vs
      ≡ when t (found back (row_of text (rest 24 end_of pattern)) (row_of text (rest 24 end_of row)) vs)
  symbol_told more told =
      rw (told, row_node text pattern some, first, row_node text row more) (found_symbol text back x _ (term_at row 0) _ _ vs)

-- a record of a symbol, by its kind
pub symbol_from : (kind a b : ℕ) → kind ≤ 2 → (x : Symbol) × (term_from kind a b ≡ Symbolic x)
unfolding term_from
symbol_from zero a b h = (Character a, refl)
symbol_from (suc zero) a b h = (Identifier a b, refl)
symbol_from (suc (suc zero)) a b h = (Number a b, refl)
symbol_from (suc (suc (suc k))) a b h = absurd (omega arith)

kind_from : (kind a b : ℕ) (x : Symbol) → term_from kind a b ≡ Symbolic x → kind ≤ 2
unfolding term_from
kind_from zero a b x e = omega arith
kind_from (suc zero) a b x e = omega arith
kind_from (suc (suc zero)) a b x e = omega arith
kind_from (suc (suc (suc zero))) a b x e = let z : ◌≡◌ {A = ℕ} 0 1 = cc in omega arith
kind_from (suc (suc (suc (suc zero)))) a b x e = let z : ◌≡◌ {A = ℕ} 0 1 = cc in omega arith
kind_from (suc (suc (suc (suc (suc zero))))) a b x e = let z : ◌≡◌ {A = ℕ} 0 1 = cc in omega arith
kind_from (suc (suc (suc (suc (suc (suc zero)))))) a b x e = let z : ◌≡◌ {A = ℕ} 0 1 = cc in omega arith
kind_from (suc (suc (suc (suc (suc (suc (suc zero))))))) a b x e = let z : ◌≡◌ {A = ℕ} 0 1 = cc in omega arith
kind_from (suc (suc (suc (suc (suc (suc (suc (suc k)))))))) a b x e = let z : ◌≡◌ {A = ℕ} 0 1 = cc in omega arith

module _ (part : List ℕ) {kind : ℕ} (told : kind ≡ word_at part 0) where
  symbol_kind_lem : kind ≤ 2 → (x : Symbol) × (term_at part 0 ≡ Symbolic x)
  unfolding term_at
  symbol_kind_lem h = rw (← told) (symbol_from kind (word_at part 4) (word_at part 8) h)

  kind_symbol : {x : Symbol} → term_at part 0 ≡ Symbolic x → kind ≤ 2
  unfolding term_at
  kind_symbol {x} e = kind_from kind (word_at part 4) (word_at part 8) x (rw told e)

-- what `symbols_first` has gone through: the same symbols, up to i in the pattern and j in the row
pub record Gone (text pattern row : List ℕ) (i j : ℕ) : Type 0 where
  pub begins : Begin pattern i
  pub row_within : j ≤ length row
  pub left : (back : Bool) (vs : Values Atom)
      → found back (row_of text pattern) (row_of text row) vs ≡ found back (row_of text (from i pattern)) (row_of text (from j row)) vs

pub gone : (text pattern row : List ℕ) → Gone text pattern row 0 0
gone text pattern row = record { begins = at_start; row_within = omega arith; left = λ back vs. rw (from_all pattern, from_all row) }

module _ {text pattern row : List ℕ} {i j : ℕ} (so_far : Gone text pattern row i j) where
  -- the position in the pattern is within it
  pub gone_within : i ≤ length pattern
  gone_within = begin_inside so_far.begins

  -- there are no more symbols, at the pattern's end or before another term
  goes : 1 ≤ i → (vs : Values Atom) → Leaves text pattern row vs (Goes i j)
  goes h vs = record { within = (so_far.begins, h, so_far.row_within); search = λ back. so_far.left back vs }

  pub symbols_end : 24 ≤ length pattern → length (from i pattern) < 24 → (vs : Values Atom) → Leaves text pattern row vs (Goes i j)
  symbols_end some_left h = goes (omega (arith, from_length i pattern))

  pub symbols_other : {kind : ℕ} {x : Symbol} → kind ≡ word_at (from i pattern) 0 → 2 < kind → term_at pattern 0 ≡ Symbolic x
      → (vs : Values Atom) → Leaves text pattern row vs (Goes i j)
  symbols_other {kind} {x} told h first = go (dec_lt 0 i)
    where
      go : Dec (0 < i) → (vs : Values Atom) → Leaves text pattern row vs (Goes i j)
      go (yes p) = goes (omega arith)
      go (no p) =
          let start : i ≡ 0 = omega arith in
          let whole : from i pattern ≡ pattern = ap (λ k. from k pattern) start ∙ from_all pattern in
          absurd (omega (arith, kind_symbol pattern (told ∙ ap (λ s. word_at s 0) whole) first))

  module _ (some : 24 ≤ length (from i pattern)) {kind : ℕ} (told : kind ≡ word_at (from i pattern) 0) (is-symbol : kind ≤ 2) where
    -- nothing is left of the row
    pub symbols_short : length (from j row) < 24 → (vs : Values Atom) → Leaves text pattern row vs Fails
    symbols_short h vs =
        let (x, first) = symbol_kind_lem (from i pattern) told is-symbol in
        record { within = tt; search = λ back. so_far.left back vs ∙ symbol_short text (from i pattern) (from j row) some x first back vs h }

    module _ (more : 24 ≤ length (from j row)) {t : Bool} (same : t ≡ same_atom (atom_of text (term_at (from i pattern) 0)) (atom_of text (term_at (from j row) 0))) where
      next_symbol : (back : Bool) (vs : Values Atom) → found back (row_of text pattern) (row_of text row) vs
          ≡ when t (found back (row_of text (rest 24 end_of (from i pattern))) (row_of text (rest 24 end_of (from j row))) vs)
      next_symbol back vs =
          let (x, first) = symbol_kind_lem (from i pattern) told is-symbol in
          so_far.left back vs ∙ symbol_told text (from i pattern) (from j row) some x first back vs more same

      -- another term
      pub symbols_differ : t ≡ false → (vs : Values Atom) → Leaves text pattern row vs Fails
      symbols_differ e vs = record { within = tt; search = λ back. next_symbol back vs ∙ rw e }

      -- the same symbol
      pub symbols_next : {m n : ℕ} → t ≡ true → m ≡ end_of (from i pattern) → n ≡ end_of (from j row) → Gone text pattern row (i + m) (j + n)
      symbols_next {m} {n} e p q = record {
        begins = rw p (one_on some so_far.begins);
        row_within = omega (arith, from_length j row, so_far.row_within, end_high (from j row));
        left = λ back vs. next_symbol back vs ∙ rw (e, ← p, ← q, from_from m i pattern, from_from n j row);
      }

-- ---- brackets

module _ (text pattern row : List ℕ) (vs : Values Atom) (some : 24 ≤ length pattern) (first : term_at pattern 0 ≡ Bracket) where
  -- nothing is left of the row
  pub bracket_short : length row < 24 → Leaves text pattern row vs Fails
  unfolding matches
  bracket_short h = record { within = tt; search = λ back. rw (row_node text pattern some, first, row_empty text row h) }

  module _ (more : 24 ≤ length row) {t : Bool} (told : t ≡ is_bracket (term_at row 0)) where
    -- another term
    pub bracket_differs : t ≡ false → Leaves text pattern row vs Fails
    bracket_differs e = record {
      within = tt;
      search = λ back.
          rw (row_node text pattern some, first, row_node text row more) (found_brackets text back _ _ (term_at row 0) _ _ vs (sym told ∙ e));
    }

    -- brackets
    pub bracket_inside : t ≡ true → Leaves text pattern row vs (Stops Inside)
    unfolding matches
    bracket_inside e = record {
      within = record {
        inside = row_of text (contents 24 end_of pattern);
        others = row_of text (rest 24 end_of pattern);
        begins = rw (row_node text pattern some, first);
        some = more;
      };
      search = λ back. rw (row_node text pattern some, first, row_node text row more, is_bracket_lem (term_at row 0) (sym told ∙ e));
    }

-- ---- variables

-- no atom of another sort is a variable
literal_no : {a : symbols.Symbol} {v : Variable} → literal a ≡ variable v → ⊥
literal_no e = let z : ◌≡◌ {A = ℕ} 0 1 = cc in omega arith

other_no : {v : Variable} → other ≡ variable v → ⊥
other_no e = let z : ◌≡◌ {A = ℕ} 0 1 = cc in omega arith

-- what a variable of a kind may stand for at the front of a row
abbrev standing : Bool → Kind → Pattern → List (Pattern × Pattern)
standing back k x = choices same_atom literal symbol_like single_term back none k x

module _ (text : List ℕ) (back : Bool) where
  symbol_stands : (u : Term) (inside others : Pattern)
      → standing back symbol_kind (term_row text u inside others) ≡ when (symbol_term u) ((term_row text u inside nothing, others) ∷ [])
  unfolding choices
  symbol_stands (Symbolic x) inside others = refl
  symbol_stands (SVariable a b) inside others = refl
  symbol_stands (TVariable a b) inside others = refl
  symbol_stands (EVariable a b) inside others = refl
  symbol_stands Bracket inside others = refl
  symbol_stands (Call a b) inside others = refl
  symbol_stands (Block n) inside others = refl

  term_stands : (u : Term) (inside others : Pattern)
      → standing back term_kind (term_row text u inside others) ≡ when (single_one u) ((term_row text u inside nothing, others) ∷ [])
  unfolding choices
  term_stands (Symbolic x) inside others = refl
  term_stands (SVariable a b) inside others = refl
  term_stands (TVariable a b) inside others = refl
  term_stands (EVariable a b) inside others = refl
  term_stands Bracket inside others = refl
  term_stands (Call a b) inside others = refl
  term_stands (Block n) inside others = refl

module _ (text : List ℕ) {v : Variable} where
  -- a variable before the rest
  variable_row : (t : Term) (inside others : Pattern) → atom_of text t ≡ variable v → term_row text t inside others ≡ symbol (variable v) others
  variable_row (Symbolic x) inside others e = absurd (literal_no e)
  variable_row (SVariable a b) inside others e = ap (λ x. symbol x others) e
  variable_row (TVariable a b) inside others e = ap (λ x. symbol x others) e
  variable_row (EVariable a b) inside others e = ap (λ x. symbol x others) e
  variable_row Bracket inside others e = absurd (other_no e)
  variable_row (Call a b) inside others e = absurd (other_no e)
  variable_row (Block n) inside others e = absurd (other_no e)

  -- an e. variable
  open_kind_lem : (t : Term) → atom_of text t ≡ variable v → open_term t ≡ true → v.kind ≡ expression_kind
  open_kind_lem (Symbolic x) e o = absurd (false_not_true o)
  open_kind_lem (SVariable a b) e o = absurd (false_not_true o)
  open_kind_lem (TVariable a b) e o = absurd (false_not_true o)
  open_kind_lem (EVariable a b) e o = ap (λ x. (variable_in x).kind) (sym e)
  open_kind_lem Bracket e o = absurd (false_not_true o)
  open_kind_lem (Call a b) e o = absurd (false_not_true o)
  open_kind_lem (Block n) e o = absurd (false_not_true o)

  module _ (back : Bool) where
    stands : (t u : Term) (inside others : Pattern) → atom_of text t ≡ variable v → open_term t ≡ false
        → standing back v.kind (term_row text u inside others) ≡ when (may_stand t u) ((term_row text u inside nothing, others) ∷ [])
    stands (Symbolic x) u inside others e o = absurd (literal_no e)
    stands (SVariable a b) u inside others e o = let k : v.kind ≡ symbol_kind = ap (λ x. (variable_in x).kind) (sym e) in rw k (symbol_stands text back u inside others)
    stands (TVariable a b) u inside others e o = let k : v.kind ≡ term_kind = ap (λ x. (variable_in x).kind) (sym e) in rw k (term_stands text back u inside others)
    stands (EVariable a b) u inside others e o = absurd (false_not_true (sym o))
    stands Bracket u inside others e o = absurd (other_no e)
    stands (Call a b) u inside others e o = absurd (other_no e)
    stands (Block n) u inside others e o = absurd (other_no e)

    stands_none : (t : Term) → atom_of text t ≡ variable v → open_term t ≡ false → standing back v.kind nothing ≡ []
    unfolding choices
    stands_none (Symbolic x) e o = absurd (literal_no e)
    stands_none (SVariable a b) e o = let k : v.kind ≡ symbol_kind = ap (λ x. (variable_in x).kind) (sym e) in rw k
    stands_none (TVariable a b) e o = let k : v.kind ≡ term_kind = ap (λ x. (variable_in x).kind) (sym e) in rw k
    stands_none (EVariable a b) e o = absurd (false_not_true (sym o))
    stands_none Bracket e o = absurd (other_no e)
    stands_none (Call a b) e o = absurd (other_no e)
    stands_none (Block n) e o = absurd (other_no e)

-- what the code asks of terms that it read
pub open_told : {x t : Term} {r : Bool} → x ≡ t → r ≡ open_term x → r ≡ open_term t
open_told e h = h ∙ ap open_term e

pub stand_told : {x t y u : Term} {r : Bool} → x ≡ t → y ≡ u → r ≡ may_stand x y → r ≡ may_stand t u
stand_told e q h = h ∙ ap₂ may_stand e q

module _ (text pattern row : List ℕ) (v : Variable) (vs : Values Atom) (some_left : 24 ≤ length pattern) (first : atom_of text (term_at pattern 0) ≡ variable v) where
  begins_variable : row_of text pattern ≡ symbol (variable v) (row_of text (rest 24 end_of pattern))
  begins_variable = row_node text pattern some_left ∙ variable_row text (term_at pattern 0) _ _ first

  the_variable : first_variable text pattern ≡ v
  the_variable = ap variable_in first

  -- ---- a variable with a value: `y` is the value, `r` says whether the row begins with it

  module _ {y : Pattern} (value : some y ≡ value_in vs v) {r : Maybe ℕ} (begins : BeginsIn row r × (begins_with text row r ≡ after same_atom y (row_of text row))) where
    -- the row does not begin with it
    pub value_differs : r ≡ None → Leaves text pattern row vs Fails
    unfolding matches choices
    value_differs e =
        let known : [] ≡ after same_atom y (row_of text row) = (rw e at begins).1 in
        record { within = tt; search = λ back. rw (begins_variable, ← value, ← known) }

    -- it does
    pub value_begins : {m n : ℕ} → r ≡ Some n → m ≡ end_of pattern → Leaves text pattern row vs (Goes m n)
    unfolding matches choices
    value_begins {m} {n} e end =
        let known : (n ≤ length row) × ((row_of text (from n row) ∷ []) ≡ after same_atom y (row_of text row)) = rw e at begins in
        record {
          within = (rw end (second_term pattern some_left), omega (arith, end_low pattern some_left), known.0);
          search = λ back.
              rw (begins_variable, ← value, ← known.1, end) (append-nil (found back (row_of text (rest 24 end_of pattern)) (row_of text (from n row)) vs));
        }

  -- ---- a variable without a value

  module _ (without : value_in vs v ≡ none) where
    free : Free (row_of text pattern) (first_variable text pattern) vs
    free = rw the_variable (record { others = row_of text (rest 24 end_of pattern); begins = begins_variable; without = without })

    -- an e. variable
    pub free_tries : {t : Bool} → t ≡ open_term (term_at pattern 0) → t ≡ true → Leaves text pattern row vs (Stops Tries)
    unfolding matches choices
    free_tries told e =
        let k : v.kind ≡ expression_kind = open_kind_lem text (term_at pattern 0) first (sym told ∙ e) in
        record { within = free; search = λ back. rw (the_variable, begins_variable, without, k) }

    module _ {o : Bool} (told : o ≡ open_term (term_at pattern 0)) (closed : o ≡ false) where
      -- nothing is left of the row
      pub free_short : length row < 24 → Leaves text pattern row vs Fails
      unfolding matches
      free_short h =
          record {
            within = tt;
            search = λ back. rw (begins_variable, row_empty text row h, without, stands_none text back (term_at pattern 0) first (sym told ∙ closed));
          }

      module _ (more : 24 ≤ length row) {t : Bool} (stand : t ≡ may_stand (term_at pattern 0) (term_at row 0)) where
        choices_told : (back : Bool) → found back (row_of text pattern) (row_of text row) vs
            ≡ each (λ (q : Pattern × Pattern). found back (row_of text (rest 24 end_of pattern)) q.1 (bound v q.0 vs))
            (when t ((term_row text (term_at row 0) (row_of text (contents 24 end_of row)) nothing, row_of text (rest 24 end_of row)) ∷ []))
        unfolding matches
        choices_told back =
            rw (begins_variable, row_node text row more, without, stands text back (term_at pattern 0) (term_at row 0) _ _ first (sym told ∙ closed), ← stand)

        -- it may not stand for the first term
        pub free_differs : t ≡ false → Leaves text pattern row vs Fails
        free_differs e = record { within = tt; search = λ back. rw (choices_told back, e) }

        -- it may
        pub free_binds : {n : ℕ} → t ≡ true → n ≡ end_of row → n ≤ length row → Leaves text pattern row vs (Stops (Binds n))
        free_binds {n} e q h = record {
          within = (h, free);
          search = λ back.
              rw (choices_told back, e, the_variable, q, row_first row more text)
              (append-nil (found back (row_of text (rest 24 end_of pattern)) (row_of text (rest 24 end_of row))
              (bound v (term_row text (term_at row 0) (row_of text (contents 24 end_of row)) nothing) vs)));
        }

-- a value as the code cuts it, from its start to its end
pub value_cut : (text terms : List ℕ) (start size : ℕ) {o : Option Pattern}
    → some (row_at text terms start size) ≡ o → some (row_of text (take (start + size - start) (drop start terms))) ≡ o
value_cut text terms start size h =
    let e : start + size - start ≡ size = omega arith in
    rw e h

-- ---- calls and blocks

-- a pattern that begins with one matches nothing
module _ (text pattern row : List ℕ) (vs : Values Atom) (some_left : 24 ≤ length pattern) where
  pub call_fails : {a b : ℕ} → term_at pattern 0 ≡ Call a b → Leaves text pattern row vs Fails
  unfolding matches
  call_fails e = record { within = tt; search = λ back. rw (row_node text pattern some_left, e) }

  pub block_fails : {n : ℕ} → term_at pattern 0 ≡ Block n → Leaves text pattern row vs Fails
  unfolding matches
  block_fails e = record { within = tt; search = λ back. rw (row_node text pattern some_left, e) }

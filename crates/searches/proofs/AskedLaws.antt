-- What the matchers ask for (`Asked`, specs/Code/Asked.antt) holds of the parts that they hand on.
use Prim.Native.Nat.{ℕ, ◌+◌, ◌-◌, ◌≤◌, ◌<◌}
use mathlib.Core.Bool.{true, false}
use mathlib.Core.List.{List, [], ◌++◌, append_assoc, append-nil}
use mathlib.Core.Option.{some}
use mathlib.Core.Path.{◌≡◌, refl, sym, ap, ◌∙◌}
use native.Mathlib.Omega.{arith}
use lib.ListN.{length, take, drop}
use Rattle.file.specs.Forest.{contents, rest}
use Rattle.file.specs.Head.{term_at}
use Rattle.file.specs.declared.Term.{Term}
use Rattle.file.specs.declared.Term.TheVariants.{Symbol as Symbolic, SVariable, TVariable, EVariable, Bracket, Call, Block}
use Rattle.law.specs.Expression.{symbol, brackets}
use Rattle.law.specs.Runs.{end_of}
use Rattle.law.specs.Variables.{Variable, occurs}
use Rattle.law.proofs.RunLaws.{end_low, end_high}
use Rattle.matching.specs.Pattern.{Atom, variable, Pattern}
use Rattle.matching.specs.Match.{Values, bound}
use Rattle.matching.specs.Code.Part.{row_of, from, Begin, at_start, one_on, atom_of, term_row}
use Rattle.matching.specs.Code.Bound.{variable_in, values_of, Kept, Bound}
use Rattle.matching.specs.Code.Step.{found, Free, Facing, first_variable}
use Rattle.searches.specs.Code.Capacity.{variables_in, Capacity}
use Rattle.searches.specs.Code.Asked.{first_in, Asked}
use Rattle.matching.specs.declared.Bindings.{Bindings}
use Rattle.matching.proofs.PartLaws.{row_node}
use Rattle.matching.proofs.CutLaws.{from_all, from_from, stands_part, stands_from, stands_term, stands_take, begin_inside}
use Rattle.matching.proofs.VariableLaws.{occurs_first, occurs_later, occurs_left, occurs_right}
use Rattle.searches.proofs.CapacityLaws.{capacity_fewer, capacity_left, capacity_bound, capacity_first, bindings_left}
use Rattle.matching.proofs.BoundLaws.{bound_values, bound_kept}

-- the variables of the terms after the first are variables of the row
after_first : (text : List ℕ) (x : Term) (c p : Pattern) (coming : List Variable) (v : Variable)
    → occurs v (variables_in p ++ coming) ≡ true → occurs v (variables_in (term_row text x c p) ++ coming) ≡ true
unfolding variables_in
after_first text (Symbolic x) c p coming v h = h
after_first text (SVariable a b) c p coming v h = occurs_later v _ (variables_in p ++ coming) h
after_first text (TVariable a b) c p coming v h = occurs_later v _ (variables_in p ++ coming) h
after_first text (EVariable a b) c p coming v h = occurs_later v _ (variables_in p ++ coming) h
after_first text Bracket c p coming v h =
    rw (append_assoc (variables_in c) (variables_in p) coming) (occurs_right v (variables_in c) (variables_in p ++ coming) h)
after_first text (Call a b) c p coming v h = h
after_first text (Block n) c p coming v h = h

-- a row that begins with a variable: its first record is that variable's
first_atom : (text : List ℕ) (x : Term) (c p others : Pattern) (v : Variable) → term_row text x c p ≡ symbol (variable v) others → atom_of text x ≡ variable v
first_atom text (Symbolic x) c p others v e = cc
first_atom text (SVariable a b) c p others v e = cc
first_atom text (TVariable a b) c p others v e = cc
first_atom text (EVariable a b) c p others v e = cc
first_atom text Bracket c p others v e = cc
first_atom text (Call a b) c p others v e = cc
first_atom text (Block n) c p others v e = cc

-- a row that begins with brackets: its first record is a bracket, with these contents and what follows
first_brackets : (text : List ℕ) (x : Term) (c p inside others : Pattern) → term_row text x c p ≡ brackets inside others → term_row text x c p ≡ brackets c p
first_brackets text (Symbolic x) c p inside others e = cc
first_brackets text (SVariable a b) c p inside others e = cc
first_brackets text (TVariable a b) c p inside others e = cc
first_brackets text (EVariable a b) c p inside others e = cc
first_brackets text Bracket c p inside others e = refl
first_brackets text (Call a b) c p inside others e = cc
first_brackets text (Block n) c p inside others e = cc

module _ {text terms pattern : List ℕ} {at : ℕ} {row : List ℕ} {start : ℕ} {coming : List Variable} {b : Bindings}
    (asked : Asked text terms pattern at row start coming b) (some_left : 24 ≤ length pattern) where
  -- where the first record ends
  end_inside : end_of pattern ≤ length pattern
  end_inside = end_high pattern

  -- the variables of the rest are among those to come
  rest_capacity : {vs : Values Atom} → Capacity (variables_in (row_of text pattern) ++ coming) vs → Capacity (variables_in (row_of text (rest 24 end_of pattern)) ++ coming) vs
  rest_capacity c =
      capacity_fewer
      (after_first text (term_at pattern 0) (row_of text (contents 24 end_of pattern)) (row_of text (rest 24 end_of pattern)) coming)
      (rw (row_node text pattern some_left) at c)

  -- other places, and the parts from a position on
  module _ (c : Bindings) (kept : Kept text terms c) (capacity : Capacity (variables_in (row_of text (rest 24 end_of pattern)) ++ coming) (values_of text terms c)) where
    rest_with : (e n : ℕ) → e ≡ end_of pattern → n ≤ length row → Asked text terms (from e pattern) (at + e) (from n row) (start + n) coming c
    rest_with e n same inside = record {
      small = asked.small;
      pattern_stands = stands_from terms pattern at e asked.pattern_stands (omega (arith, end_inside));
      row_stands = stands_from terms row start n asked.row_stands inside;
      kept = kept;
      capacity = rw same capacity;
    }

  -- a variable without a value stands first
  module _ (free : Free (row_of text pattern) (first_variable text pattern) (values_of text terms b)) where
    comes : occurs (first_variable text pattern) (variables_in (row_of text pattern) ++ coming) ≡ true
    unfolding variables_in
    comes = rw free.begins (occurs_first (first_variable text pattern) (variables_in free.others ++ coming))

    -- there is a place for its value
    pub place_ready : b.count < 32
    place_ready = bindings_left text terms _ b asked.capacity (first_variable text pattern) comes free.without

    here : atom_of text (term_at terms at) ≡ variable (first_variable text pattern)
    here =
        ap (atom_of text) (sym (stands_term terms pattern at asked.pattern_stands some_left))
        ∙ first_atom text (term_at pattern 0) (row_of text (contents 24 end_of pattern)) (row_of text (rest 24 end_of pattern)) free.others (first_variable text pattern)
        (sym (row_node text pattern some_left) ∙ free.begins)

    module _ {size : ℕ} (inside : size ≤ length row) {c : Bindings} (more : Bound b at start size c) where
      -- with so many bytes of the row for its value
      pub values_more : values_of text terms c ≡ bound (first_variable text pattern) (row_of text (take size row)) (values_of text terms b)
      values_more =
          rw (stands_take terms row start size asked.row_stands inside, ← ap variable_in here)
          (bound_values asked.kept place_ready more)

      pub asked_more : (e n : ℕ) → e ≡ end_of pattern → n ≤ length row → Asked text terms (from e pattern) (at + e) (from n row) (start + n) coming c
      asked_more =
          rest_with c
          (bound_kept asked.kept place_ready more (omega (arith, asked.pattern_stands.inside)) here (omega (arith, asked.row_stands.inside)))
          (rw values_more
          (rest_capacity (capacity_bound (first_variable text pattern) (row_of text (take size row)) asked.capacity comes free.without)))

  -- brackets stand first
  module _ (facing : Facing (row_of text pattern) row) where
    pub row_brackets : row_of text pattern ≡ brackets (row_of text (contents 24 end_of pattern)) (row_of text (rest 24 end_of pattern))
    row_brackets =
        row_node text pattern some_left
        ∙ first_brackets text (term_at pattern 0) _ _ facing.inside facing.others (sym (row_node text pattern some_left) ∙ facing.begins)

    -- the variables of their contents are variables of the pattern
    pub contents_within : (w : Variable) → occurs w (variables_in (row_of text (contents 24 end_of pattern))) ≡ true → occurs w (variables_in (row_of text pattern)) ≡ true
    unfolding variables_in
    contents_within w o =
        rw row_brackets (occurs_left w (variables_in (row_of text (contents 24 end_of pattern))) (variables_in (row_of text (rest 24 end_of pattern))) o)

    inside_capacity : Capacity (variables_in (row_of text (contents 24 end_of pattern)) ++ (variables_in (row_of text (rest 24 end_of pattern)) ++ coming)) (values_of text terms b)
    unfolding variables_in
    inside_capacity =
        rw (← append_assoc (variables_in (row_of text (contents 24 end_of pattern))) (variables_in (row_of text (rest 24 end_of pattern))) coming)
        (rw row_brackets at asked.capacity)

    -- their contents, before the rest
    pub asked_inside : (m n : ℕ) → m ≡ end_of pattern → n ≡ end_of row
        → Asked text terms (take (m - 24) (drop 24 pattern)) (at + 24) (take (n - 24) (drop 24 row)) (start + 24)
        (variables_in (row_of text (rest 24 end_of pattern)) ++ coming) b
    asked_inside m n p q = record {
      small = asked.small;
      pattern_stands = stands_part terms pattern at 24 m asked.pattern_stands (omega (arith, end_low pattern some_left)) (omega (arith, end_inside));
      row_stands = stands_part terms row start 24 n asked.row_stands (omega (arith, end_low row facing.some)) (omega (arith, end_high row));
      kept = asked.kept;
      capacity = rw p inside_capacity;
    }

    -- and the rest, with the values of the first match of the contents
    pub asked_after : (c : Bindings) → Kept text terms c
        → first_in (found false (row_of text (contents 24 end_of pattern)) (row_of text (contents 24 end_of row)) (values_of text terms b)) ≡ some (values_of text terms c)
        → (e n : ℕ) → e ≡ end_of pattern → n ≤ length row → Asked text terms (from e pattern) (at + e) (from n row) (start + n) coming c
    asked_after c kept first =
        rest_with c kept
        (capacity_first false (row_of text (contents 24 end_of pattern)) (row_of text (contents 24 end_of row)) (values_of text terms b) (values_of text terms c)
        (variables_in (row_of text (rest 24 end_of pattern)) ++ coming) first inside_capacity)

-- the variables of what follows a term of the pattern are variables of the pattern
pub later_variables : (text pattern : List ℕ) {m : ℕ} (coming : List Variable) (v : Variable) → Begin pattern m
    → occurs v (variables_in (row_of text (from m pattern)) ++ coming) ≡ true → occurs v (variables_in (row_of text pattern) ++ coming) ≡ true
later_variables text pattern coming v at_start h = rw (from_all pattern) at h
later_variables text pattern coming v (one_on {n} some_left b) h =
    let part : List ℕ = from n pattern in
    let here : occurs v (variables_in (row_of text (rest 24 end_of part)) ++ coming) ≡ true = rw (← from_from (end_of part) n pattern) at h in
    let first : occurs v (variables_in (row_of text part) ++ coming) ≡ true =
    rw (row_node text part some_left) (after_first text (term_at part 0) (row_of text (contents 24 end_of part)) (row_of text (rest 24 end_of part)) coming v here) in
    later_variables text pattern coming v b first

-- what follows a term of the pattern, from a position of the row on
pub asked_later : {text terms pattern : List ℕ} {at : ℕ} {row : List ℕ} {start : ℕ} {coming : List Variable} {b : Bindings}
    → Asked text terms pattern at row start coming b → (m n : ℕ) → Begin pattern m → n ≤ length row
    → Asked text terms (from m pattern) (at + m) (from n row) (start + n) coming b
asked_later {text} {terms} {pattern} {at} {row} {start} {coming} asked m n begins inside = record {
  small = asked.small;
  pattern_stands = stands_from terms pattern at m asked.pattern_stands (begin_inside begins);
  row_stands = stands_from terms row start n asked.row_stands inside;
  kept = asked.kept;
  capacity = capacity_fewer (λ v. later_variables text pattern coming v begins) asked.capacity;
}

-- nothing need come after
pub asked_alone : {text terms pattern : List ℕ} {at : ℕ} {row : List ℕ} {start : ℕ} {coming : List Variable} {b : Bindings}
    → Asked text terms pattern at row start coming b → Asked text terms pattern at row start [] b
asked_alone {text} {pattern} {coming} a = record {
  small = a.small;
  pattern_stands = a.pattern_stands;
  row_stands = a.row_stands;
  kept = a.kept;
  capacity = rw (append-nil (variables_in (row_of text pattern))) (capacity_left (variables_in (row_of text pattern)) coming a.capacity);
}

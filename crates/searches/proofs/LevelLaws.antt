-- What is still to be matched around the brackets that were gone into (`Pending`, specs/Code/Asked.antt): one level more, and one level out.
use Prim.Native.Nat.{ℕ, zero, suc, ◌+◌, ◌-◌, ◌≤◌, ◌<◌}
use mathlib.Core.Bool.{Bool, true, false, ◌||◌}
use mathlib.Core.List.{List, [], ◌∷◌, ◌++◌}
use mathlib.Core.Path.{◌≡◌, refl, sym, ap, subst, ◌∙◌}
use native.Mathlib.Omega.{arith}
use native.Mathlib.Decide.{dec_lt}
use lib.ListN.{length, take, drop, set, length-take, length-drop, length-set}
use lib.Seq.{get_or-set_same, get_or-set_other}
use Rattle.file.specs.Forest.{contents, rest}
use Rattle.file.specs.Head.{term_at}
use Rattle.file.specs.declared.Term.{Term}
use Rattle.file.specs.declared.Term.TheVariants.{Symbol as Symbolic, SVariable, TVariable, EVariable, Bracket, Call, Block}
use Rattle.law.specs.Expression.{brackets}
use Rattle.law.specs.Runs.{end_of}
use Rattle.law.proofs.RunLaws.{end_low, end_high}
use Rattle.matching.specs.Pattern.{Atom, Pattern}
use Rattle.matching.specs.Match.{Values, each}
use Rattle.matching.specs.Code.Part.{row_of, from, Begin, at_start, one_on, Stands, term_row}
use Rattle.matching.specs.Code.Bound.{values_of, Kept, Bound}
use Rattle.matching.specs.Code.Step.{found, Free, Facing, first_variable, each_length, each_inside}
use Rattle.searches.specs.Code.Capacity.{variables_in, Capacity}
use Rattle.searches.specs.Code.Asked.{some_holds, Asked, nesting, resume, coming_in, between, level_at, levels, LevelsIn, levels_of, Around, LiteralAsked}
use Rattle.matching.specs.declared.Bindings.{Bindings}
use Rattle.searches.specs.declared.literal.Level.{Level}
use Rattle.searches.specs.declared.literal.Pending.{Pending}
use Rattle.matching.proofs.PartLaws.{row_node}
use Rattle.matching.proofs.CutLaws.{from_length, from_all, from_from, stands_from, begin_inside}
use Rattle.searches.proofs.LengthLaws.{left_at, length_at, left_first, left_last, left_more, length_search}
use Rattle.searches.proofs.CapacityLaws.{capacity_right}
use Rattle.searches.proofs.AskedLaws.{asked_later, asked_more, asked_inside, row_brackets, values_more}

-- ---- a test that holds of one of a list

module _ {X : Type 0} (test : X → Bool) where
  pub holds_one : (x : X) → some_holds test (x ∷ []) ≡ test x
  unfolding some_holds
  holds_one x = go (test x)
    where
      go : (b : Bool) → (b || false) ≡ b
      go true = refl
      go false = refl

  pub holds_append : (l m : List X) → some_holds test (l ++ m) ≡ (some_holds test l || some_holds test m)
  unfolding some_holds
  holds_append [] m = refl
  holds_append (x ∷ l) m = rw (holds_append l m) (sym (or_assoc (test x) (some_holds test l) (some_holds test m)))
    where
      or_assoc : (a b c : Bool) → ((a || b) || c) ≡ (a || (b || c))
      or_assoc true b c = refl
      or_assoc false b c = refl

module _ {X Y : Type 0} (test : Y → Bool) (f : X → List Y) where
  pub holds_each : (l : List X) → some_holds test (each f l) ≡ some_holds (λ (x : X). some_holds test (f x)) l
  unfolding some_holds
  holds_each [] = refl
  holds_each (x ∷ l) = rw (holds_append test (f x) (each f l), holds_each l)

-- ---- brackets in brackets

rest_nesting : (text : List ℕ) (x : Term) (c p : Pattern) → nesting p ≤ nesting (term_row text x c p)
unfolding nesting
rest_nesting text (Symbolic x) c p = omega arith
rest_nesting text (SVariable a b) c p = omega arith
rest_nesting text (TVariable a b) c p = omega arith
rest_nesting text (EVariable a b) c p = omega arith
rest_nesting text Bracket c p = omega arith
rest_nesting text (Call a b) c p = omega arith
rest_nesting text (Block n) c p = omega arith

after_nesting : (text pattern : List ℕ) → 24 ≤ length pattern → nesting (row_of text (rest 24 end_of pattern)) ≤ nesting (row_of text pattern)
after_nesting text pattern h =
    rw (row_node text pattern h) (rest_nesting text (term_at pattern 0) (row_of text (contents 24 end_of pattern)) (row_of text (rest 24 end_of pattern)))

-- what follows a term of the pattern is no deeper
later_nesting : (text pattern : List ℕ) {m : ℕ} → Begin pattern m → nesting (row_of text (from m pattern)) ≤ nesting (row_of text pattern)
later_nesting text pattern at_start = rw (from_all pattern) (omega arith)
later_nesting text pattern (one_on {n} some b) =
    rw (← from_from (end_of (from n pattern)) n pattern) (omega (arith, after_nesting text (from n pattern) some, later_nesting text pattern b))

-- ---- levels

-- the innermost, and those around it
levels_one : (text terms : List ℕ) (ends : List Level) (at start n : ℕ)
    → levels text terms ends at start (suc n)
    ≡ (between text terms at (level_at ends n).pattern_end, between text terms start (level_at ends n).row_end)
    ∷ levels text terms ends (level_at ends n).pattern_end (level_at ends n).row_end n
unfolding levels
levels_one text terms ends at start n = refl

levels_in_same : (text terms : List ℕ) (n : ℕ) {es es' : List Level} {a a' s s' : ℕ} → es ≡ es' → a ≡ a' → s ≡ s' → LevelsIn text terms es a s n → LevelsIn text terms es' a' s' n
levels_in_same text terms n {es} {es'} {a} {a'} {s} {s'} e1 e2 e3 l =
    subst (λ (k : ℕ). LevelsIn text terms es' a' k n) e3
    (subst (λ (k : ℕ). LevelsIn text terms es' k s n) e2
    (subst (λ (k : List Level). LevelsIn text terms k a s n) e1 l))

-- ---- a level more does not touch those around it

module _ (text terms : List ℕ) (ends : List Level) (k x y : ℕ) where
  abbrev level : Level
  level = record { pattern_end = x; row_end = y }

  abbrev with_level : List Level
  with_level = set ends k level

  other_level : (n : ℕ) → n < k → level_at with_level n ≡ level_at ends n
  other_level n h = get_or-set_other ends k n level (record { pattern_end = 0; row_end = 0 }) (λ e. omega arith)

  levels_set : (at start n : ℕ) → n ≤ k → levels text terms with_level at start n ≡ levels text terms ends at start n
  unfolding levels
  levels_set at start zero h = refl
  levels_set at start (suc n) h = rw (other_level n (omega arith), levels_set (level_at ends n).pattern_end (level_at ends n).row_end n (omega arith))

  levels_push : (at start : ℕ) → k < length ends
      → levels text terms with_level at start (suc k) ≡ (between text terms at x, between text terms start y) ∷ levels text terms ends x y k
  unfolding levels
  levels_push at start h = rw (get_or-set_same ends k level (record { pattern_end = 0; row_end = 0 }) h, levels_set x y k (omega arith))

  levels_in_set : (at start n : ℕ) → n ≤ k → LevelsIn text terms ends at start n → LevelsIn text terms with_level at start n
  levels_in_set at start zero h l = tt
  levels_in_set at start (suc n) h l =
      rw (other_level n (omega arith))
      (l.0, l.1, l.2, l.3, l.4, levels_in_set (level_at ends n).pattern_end (level_at ends n).row_end n (omega arith) l.5)

-- ---- from a part to a part

module _ {text terms pattern : List ℕ} {at : ℕ} {row : List ℕ} {start : ℕ} {p : Pending} {b : Bindings}
    (asked : LiteralAsked text terms pattern at row start p b) where
  -- the positions where the parts end stay
  same_end : (part : List ℕ) (here n : ℕ) → n ≤ length part → here + n + length (from n part) ≡ here + length part
  same_end part here n h = omega (arith, from_length n part)

  -- what comes after the pattern is around it
  pub out_capacity : Capacity (coming_in (levels_of text terms p (at + length pattern) (start + length row))) (values_of text terms b)
  out_capacity = capacity_right (variables_in (row_of text pattern)) _ asked.asked.capacity

  module _ {c : Bindings} (m n : ℕ) (within : m ≤ length pattern) (shallow : nesting (row_of text (from m pattern)) ≤ nesting (row_of text pattern)) (inside : n ≤ length row)
      (ready : Asked text terms (from m pattern) (at + m) (from n row) (start + n) (coming_in (levels_of text terms p (at + length pattern) (start + length row))) c) where
    literal_with : LiteralAsked text terms (from m pattern) (at + m) (from n row) (start + n) p c
    literal_with =
        let ends : at + m + length (from m pattern) ≡ at + length pattern = same_end pattern at m within in
        let row_ends_lem : start + n + length (from n row) ≡ start + length row = same_end row start n inside in
        record {
          asked = rw (ends, row_ends_lem) ready;
          around = rw (ends, row_ends_lem) asked.around;
          deep = omega (arith, asked.deep);
        }

  -- what follows a term of the pattern, from a position of the row on
  pub literal_later : (m n : ℕ) → Begin pattern m → n ≤ length row → LiteralAsked text terms (from m pattern) (at + m) (from n row) (start + n) p b
  literal_later m n begins inside =
      literal_with m n (begin_inside begins) (later_nesting text pattern begins) inside (asked_later asked.asked m n begins inside)

  module _ (some : 24 ≤ length pattern) where
    -- the rest of the pattern, after a variable got a value
    pub literal_more : Free (row_of text pattern) (first_variable text pattern) (values_of text terms b) → {size : ℕ} → size ≤ length row
        → {c : Bindings} → Bound b at start size c → (e n : ℕ) → e ≡ end_of pattern → n ≤ length row
        → LiteralAsked text terms (from e pattern) (at + e) (from n row) (start + n) p c
    literal_more free within {c} more e n same inside =
        literal_with {c = c} e n (omega (arith, end_high pattern)) (rw same (after_nesting text pattern some)) inside
        (asked_more asked.asked some free within more e n same inside)

    -- brackets stand first
    module _ (facing : Facing (row_of text pattern) row) (m n : ℕ) (p-end : m ≡ end_of pattern) (r-end : n ≡ end_of row) where
      pub deeper : p.count + suc (nesting (row_of text (contents 24 end_of pattern))) ≤ 33
      unfolding nesting
      deeper =
          let brackets_first : p.count + nesting (brackets (row_of text (contents 24 end_of pattern)) (row_of text (rest 24 end_of pattern))) ≤ 33 =
          rw (row_brackets asked.asked some facing) at asked.deep in
          omega (arith, brackets_first)

      -- there is a place for the level
      pub level_ready : p.count < 33
      level_ready = omega (arith, deeper)

      module _ (q : Pending) (more : q.count ≡ suc p.count)
          (ends : q.levels ≡ set p.levels p.count (record { pattern_end = at + length pattern; row_end = start + length row })) where
        pattern_inside : at + 24 + length (take (m - 24) (drop 24 pattern)) ≡ at + m
        pattern_inside = omega (arith, length-take (m - 24) (drop 24 pattern), length-drop 24 pattern, end_low pattern some, end_high pattern)

        row_inside : start + 24 + length (take (n - 24) (drop 24 row)) ≡ start + n
        row_inside = omega (arith, length-take (n - 24) (drop 24 row), length-drop 24 row, end_low row facing.some, end_high row)

        new_level : level_at q.levels p.count ≡ record { pattern_end = at + length pattern; row_end = start + length row }
        new_level =
            rw ends (get_or-set_same p.levels p.count (record { pattern_end = at + length pattern; row_end = start + length row })
            (record { pattern_end = 0; row_end = 0 }) (omega (arith, asked.around.long, level_ready)))

        -- the parts after the brackets
        rest_between : between text terms (at + m) (at + length pattern) ≡ row_of text (rest 24 end_of pattern)
        rest_between =
            let stands : Stands terms (from m pattern) (at + m) =
            stands_from terms pattern at m asked.asked.pattern_stands (omega (arith, end_high pattern)) in
            let size : at + length pattern - (at + m) ≡ length (from m pattern) = omega (arith, from_length m pattern) in
            rw (size, ← p-end) (ap (row_of text) (sym stands.same))

        row_between : between text terms (start + n) (start + length row) ≡ row_of text (rest 24 end_of row)
        row_between =
            let stands : Stands terms (from n row) (start + n) = stands_from terms row start n asked.asked.row_stands (omega (arith, end_high row)) in
            let size : start + length row - (start + n) ≡ length (from n row) = omega (arith, from_length n row) in
            rw (size, ← r-end) (ap (row_of text) (sym stands.same))

        -- they are the innermost level
        pub level_more : levels_of text terms q (at + 24 + length (take (m - 24) (drop 24 pattern))) (start + 24 + length (take (n - 24) (drop 24 row)))
            ≡ (row_of text (rest 24 end_of pattern), row_of text (rest 24 end_of row)) ∷ levels_of text terms p (at + length pattern) (start + length row)
        level_more =
            rw (pattern_inside, row_inside, more, ends, ← rest_between, ← row_between)
            (levels_push text terms p.levels p.count (at + length pattern) (start + length row) (at + m) (start + n) (omega (arith, asked.around.long, level_ready)))

        outer_levels : LevelsIn text terms q.levels (at + length pattern) (start + length row) p.count
        outer_levels =
            levels_in_same text terms p.count {a = at + length pattern} {s = start + length row} (sym ends) refl refl
            (levels_in_set text terms p.levels p.count (at + length pattern) (start + length row) (at + length pattern)
            (start + length row) p.count (omega arith) asked.around.levels_in)

        -- the contents of the brackets, with that level around them
        pub literal_inside : LiteralAsked text terms (take (m - 24) (drop 24 pattern)) (at + 24) (take (n - 24) (drop 24 row)) (start + 24) q b
        unfolding coming_in
        literal_inside = record {
          asked = rw level_more (asked_inside asked.asked some facing m n p-end r-end);
          around = rw (pattern_inside, row_inside) (record {
            few = omega (arith, more, level_ready);
            long = rw ends (length-set p.levels p.count (record { pattern_end = at + length pattern; row_end = start + length row }) ∙ asked.around.long);
            levels_in = rw (more, new_level) (
              omega (arith, end_high pattern),
              asked.asked.pattern_stands.inside,
              omega (arith, end_high row),
              asked.asked.row_stands.inside,
              rw rest_between (omega (arith, asked.deep, after_nesting text pattern some)),
              outer_levels,
            );
          });
          deep = rw (more, p-end) (omega (arith, deeper));
        }

        -- what the contents and then that level are answered
        pub inside_answer : (x : Bool)
            → x ≡ some_holds (resume (levels_of text terms q (at + 24 + length (take (m - 24) (drop 24 pattern))) (start + 24 + length (take (n - 24) (drop 24 row)))))
            (found true (row_of text (take (m - 24) (drop 24 pattern))) (row_of text (take (n - 24) (drop 24 row))) (values_of text terms b))
            → x ≡ some_holds (resume (levels_of text terms p (at + length pattern) (start + length row))) (each_inside text true pattern row (values_of text terms b))
        unfolding resume
        inside_answer x e =
            (rw (level_more, p-end, r-end) at e)
            ∙ sym (holds_each (resume (levels_of text terms p (at + length pattern) (start + length row)))
            (λ us. found true (row_of text (rest 24 end_of pattern)) (row_of text (rest 24 end_of row)) us)
            (found true (row_of text (contents 24 end_of pattern)) (row_of text (contents 24 end_of row)) (values_of text terms b)))

-- ---- one level out

-- nothing is around
pub out_none : (text terms : List ℕ) (p : Pending) (at start : ℕ) (vs : Values Atom) → p.count ≡ 0 → true ≡ resume (levels_of text terms p at start) vs
unfolding levels resume
out_none text terms p at start vs e = rw e

module _ {text terms : List ℕ} {p : Pending} {at start : ℕ} {b : Bindings} (small : length terms < 65536) (around : Around text terms p at start)
    (kept : Kept text terms b) (capacity : Capacity (coming_in (levels_of text terms p at start)) (values_of text terms b))
    (positive : 1 ≤ p.count) {e r : ℕ} (e-is : e ≡ (level_at p.levels (p.count - 1)).pattern_end) (r-is : r ≡ (level_at p.levels (p.count - 1)).row_end) where
  -- what is around this level
  abbrev pub outer : Pending
  outer = record { levels = p.levels; count = p.count - 1 }

  some : p.count ≡ suc (p.count - 1)
  some = omega arith

  inner : LevelsIn text terms p.levels at start (suc (p.count - 1))
  inner = subst (LevelsIn text terms p.levels at start) some around.levels_in

  pub out_pattern : (at ≤ e) × (e ≤ length terms)
  out_pattern = (omega (arith, inner.0), omega (arith, inner.1))

  pub out_row : (start ≤ r) × (r ≤ length terms)
  out_row = (omega (arith, inner.2), omega (arith, inner.3))

  -- a part between two positions stands among the term records
  part_stands : (a z : ℕ) → a ≤ z → z ≤ length terms → Stands terms (take (z - a) (drop a terms)) a
  part_stands a z low high =
      let size : length (take (z - a) (drop a terms)) ≡ z - a = length-take (z - a) (drop a terms) ∙ omega (arith, length-drop a terms) in
      record { inside = omega (arith, size); same = ap (λ k. take k (drop a terms)) (sym size) }

  pattern_size_lem : at + length (take (e - at) (drop at terms)) ≡ e
  pattern_size_lem = omega (arith, length-take (e - at) (drop at terms), length-drop at terms, out_pattern)

  row_size : start + length (take (r - start) (drop start terms)) ≡ r
  row_size = omega (arith, length-take (r - start) (drop start terms), length-drop start terms, out_row)

  -- the levels: this one, and those around it
  pub levels_out : levels_of text terms p at start
      ≡ (row_of text (take (e - at) (drop at terms)), row_of text (take (r - start) (drop start terms)))
      ∷ levels_of text terms outer (at + length (take (e - at) (drop at terms))) (start + length (take (r - start) (drop start terms)))
  levels_out =
      rw (pattern_size_lem, row_size, e-is, r-is) (ap (levels text terms p.levels at start) some ∙ levels_one text terms p.levels at start (p.count - 1))

  -- what they are answered
  pub out_answer : (x : Bool)
      → x ≡ some_holds (resume (levels_of text terms outer (at + length (take (e - at) (drop at terms))) (start + length (take (r - start) (drop start terms)))))
      (found true (row_of text (take (e - at) (drop at terms))) (row_of text (take (r - start) (drop start terms))) (values_of text terms b))
      → x ≡ resume (levels_of text terms p at start) (values_of text terms b)
  unfolding resume
  out_answer x h = rw levels_out h

  pub literal_out : LiteralAsked text terms (take (e - at) (drop at terms)) at (take (r - start) (drop start terms)) start outer b
  unfolding coming_in
  literal_out = record {
    asked = record {
      small = small;
      pattern_stands = part_stands at e out_pattern.0 out_pattern.1;
      row_stands = part_stands start r out_row.0 out_row.1;
      kept = kept;
      capacity = rw levels_out at capacity;
    };
    around = record {
      few = omega (arith, around.few);
      long = around.long;
      levels_in = levels_in_same text terms (p.count - 1) {es = p.levels} refl (sym e-is ∙ sym pattern_size_lem) (sym r-is ∙ sym row_size) inner.5;
    };
    deep = rw e-is inner.4;
  }

-- ---- the returns of `literal_lengths`

module _ {text terms pattern : List ℕ} {at : ℕ} {row : List ℕ} {start : ℕ} {p : Pending} {b : Bindings}
    (asked : LiteralAsked text terms pattern at row start p b) (some_left : 24 ≤ length pattern)
    (free : Free (row_of text pattern) (first_variable text pattern) (values_of text terms b)) where
  abbrev outside : Values Atom → Bool
  outside = resume (levels_of text terms p (at + length pattern) (start + length row))

  abbrev all_lengths : List (Values Atom)
  all_lengths = each_length text true pattern row (values_of text terms b)

  abbrev lengths_left : ℕ → List (Values Atom)
  lengths_left = left_at text true pattern row (values_of text terms b)

  abbrev this_length : ℕ → List (Values Atom)
  this_length = length_at text true pattern row (values_of text terms b)

  pub lengths_start : some_holds outside all_lengths ≡ some_holds outside (lengths_left 0)
  lengths_start = ap (some_holds outside) (left_first text true pattern row (values_of text terms b))

  module _ {end n : ℕ} (ends : end ≡ end_of pattern) (begin : Begin row n) {c : Bindings} (more : Bound b at start n c) (x : Bool)
      (answer : x ≡ some_holds (resume (levels_of text terms p (at + end + length (from end pattern)) (start + n + length (from n row))))
      (found true (row_of text (from end pattern)) (row_of text (from n row)) (values_of text terms c)))
      (whole : some_holds outside all_lengths ≡ some_holds outside (lengths_left n)) where
    here : x ≡ some_holds outside (this_length n)
    here =
        let pattern_end : at + end + length (from end pattern) ≡ at + length pattern = omega (arith, from_length end pattern, end_high pattern) in
        let row_end : start + n + length (from n row) ≡ start + length row = omega (arith, from_length n row, begin_inside begin) in
        (rw (pattern_end, row_end) at answer)
        ∙ ap (some_holds outside) (length_search text true pattern row (values_of text terms b) n end (values_of text terms c) ends
        (values_more asked.asked some_left free (begin_inside begin) more))

    -- this length, and those left
    last : length (from n row) < 24 → some_holds outside all_lengths ≡ (x || false)
    unfolding some_holds
    last h =
        whole ∙ ap (some_holds outside) (left_last text true pattern row (values_of text terms b) n h) ∙ holds_append outside (this_length n) []
        ∙ ap (λ y. y || false) (sym here)

    next : 24 ≤ length (from n row) → some_holds outside all_lengths ≡ (x || some_holds outside (lengths_left (n + end_of (from n row))))
    next h =
        whole ∙ ap (some_holds outside) (left_more text true pattern row (values_of text terms b) n begin h)
        ∙ holds_append outside (this_length n) (lengths_left (n + end_of (from n row)))
        ∙ ap (λ y. y || some_holds outside (lengths_left (n + end_of (from n row)))) (sym here)

    -- it matches
    pub length_found : x ≡ true → true ≡ some_holds outside all_lengths
    length_found e = go (dec_lt (length (from n row)) 24)
      where
        go : Dec (length (from n row) < 24) → true ≡ some_holds outside all_lengths
        go (yes h) = sym (rw e at (last h))
        go (no h) = sym (rw e at (next (omega arith)))

    -- no length does
    pub length_none : x ≡ false → length (from n row) < 24 → false ≡ some_holds outside all_lengths
    length_none e h = sym (rw e at (last h))

    -- one more is left
    pub length_next : x ≡ false → 24 ≤ length (from n row) → some_holds outside all_lengths ≡ some_holds outside (lengths_left (n + end_of (from n row)))
    length_next e h = rw e at (next h)

-- ---- the returns of `literal_run`

module _ {text terms pattern : List ℕ} {at : ℕ} {row : List ℕ} {start : ℕ} {p : Pending} {b : Bindings}
    (asked : LiteralAsked text terms pattern at row start p b) where
  abbrev answered : List (Values Atom) → Bool
  answered = some_holds (resume (levels_of text terms p (at + length pattern) (start + length row)))

  abbrev wanted : List (Values Atom)
  wanted = found true (row_of text pattern) (row_of text row) (values_of text terms b)

  -- one match, with no more values
  pub run_one : (x : Bool) → wanted ≡ values_of text terms b ∷ []
      → x ≡ resume (levels_of text terms p (at + length pattern) (start + length row)) (values_of text terms b) → x ≡ answered wanted
  run_one x one e = e ∙ sym (ap answered one ∙ holds_one (resume (levels_of text terms p (at + length pattern) (start + length row))) (values_of text terms b))

  -- there is no match
  pub run_none : wanted ≡ [] → false ≡ answered wanted
  unfolding some_holds
  run_none e = sym (ap answered e)

  -- the same matches, found otherwise, answer
  pub run_same : (x : Bool) (l : List (Values Atom)) → x ≡ answered l → wanted ≡ l → x ≡ answered wanted
  run_same x l e same = e ∙ ap answered (sym same)

  -- the rest answers
  pub run_rest : (x : Bool) (e n : ℕ) (c : Bindings) → e ≤ length pattern → n ≤ length row
      → wanted ≡ found true (row_of text (from e pattern)) (row_of text (from n row)) (values_of text terms c)
      → x ≡ some_holds (resume (levels_of text terms p (at + e + length (from e pattern)) (start + n + length (from n row))))
      (found true (row_of text (from e pattern)) (row_of text (from n row)) (values_of text terms c))
      → x ≡ answered wanted
  run_rest x e n c within inside search answer =
      let pattern_end : at + e + length (from e pattern) ≡ at + length pattern = omega (arith, from_length e pattern) in
      let row_end : start + n + length (from n row) ≡ start + length row = omega (arith, from_length n row) in
      (rw (pattern_end, row_end) at answer) ∙ ap answered (sym search)

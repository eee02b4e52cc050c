-- Laws of a part of the term records as an argument (specs/Code/Part.antt): what its first record adds to what the rest says, and that neither records'
-- numbers nor blocks' sentences matter.
use Prim.Native.Nat.{ℕ, zero, suc, ◌+◌, ◌*◌, ◌-◌, ◌≤◌, ◌<◌}
use mathlib.Core.Bool.{Bool, true, false, cond, beq, ◌&&◌}
use mathlib.Core.List.{List, [], ◌∷◌}
use mathlib.Core.Option.{Option, none, some}
use Rattle.std.specs.Prelude.{Option as Answer, Some, None}
use Rattle.std.specs.Option.{option_eq}
use mathlib.Core.Path.{◌≡◌, refl, sym, ap, ◌∙◌}
use native.Mathlib.Omega.{arith}
use lib.ListN.{length, take, drop, length-take, length-drop}
use lib.Dec.{eqb}
use borrow.Author.Tests.{ne_eqb}
use Rattle.names.specs.Name.{digit_byte, every_byte}
use Rattle.file.specs.Word.{word_at}
use Rattle.file.specs.Forest.{Forest, end, node, contents, rest}
use Rattle.file.specs.Head.{term_from, term_at}
use Rattle.file.specs.declared.Symbol.TheVariants.{Character, Identifier, Number}
use Rattle.file.specs.declared.Term.{Term}
use Rattle.file.specs.declared.Term.TheVariants.{Symbol as Symbolic, SVariable, TVariable, EVariable, Bracket, Call, Block}
use Rattle.law.specs.Tree.{Mark, Run, empty, symbol, Sentences, no_sentence}
use Rattle.law.specs.Tree as tree
use Rattle.numbers.specs.Value.{value_of, is_macrodigit}
use Rattle.law.specs.Runs.{end_of, term_forest}
use Rattle.law.specs.Reading.{mark_at, symbol_of, term_run, forest_run}
use native.Mathlib.Decide.{dec_lt}
use native.Mathlib.Nat.{zero-add}
use Rattle.law.specs.Code.Whole.{term_parts}
use Rattle.law.proofs.WholeTerms.{parts_none, parts_node, each_part}
use Rattle.law.proofs.RunLaws.{end_low, end_high, terms_none, terms_node}
use Rattle.lints.specs.Finding.{Failure, two_integers_wanted, division_by_zero, digits_wanted}
use Rattle.lints.specs.Builtin.{is_sign, cons_found, macrodigits, unsigned, all_zero, second_fails, first_fails}
use Rattle.lints.specs.Builtin.{integers_fail, characters_of, digits_fail, Domain, integers, digits, anything, failure}
use Rattle.lints.specs.Open.{e_occurrences}
use Rattle.lints.specs.Code.Part.{argument_of, SignTaken, operand_of, all_of, zero_of, digit_of}
use Rattle.lints.specs.declared.builtin.Operand.{Operand}
use Rattle.lints.specs.declared.builtin.Operand.TheVariants.{Sign, Macrodigit}

-- a part's records from a position on, and those inside its first record, which end at a position
abbrev pub left_from : List ℕ → ℕ → List ℕ
left_from part e = take (length part - e) (drop e part)

abbrev pub inside_to : List ℕ → ℕ → List ℕ
inside_to part e = take (e - 24) (drop 24 part)

-- ---- a term before what is after it

-- the e. occurrences of a term, by those inside it
abbrev pub occurring : Term → ℕ → ℕ
occurring (Symbolic x) inside = 0
occurring (SVariable a b) inside = 0
occurring (TVariable a b) inside = 0
occurring (EVariable a b) inside = 1
occurring Bracket inside = inside
occurring (Call a b) inside = 0
occurring (Block n) inside = 0

-- the macrodigits of an operand before those of the rest
abbrev pub digits_first : Answer Operand → Option (List ℕ) → Option (List ℕ)
digits_first (Some Sign) after = none
digits_first (Some (Macrodigit n)) after = cons_found n after
digits_first None after = none

-- what a first operand says before the macrodigits of the second
abbrev pub integer_first : Bool → Answer Operand → Option (List ℕ) → Option Failure
integer_first divides (Some Sign) second = none
integer_first divides (Some (Macrodigit n)) second = second_fails divides second
integer_first divides None second = none

-- what is said of the rest after a sign, else of the whole
abbrev pub sign_first : {A : Type 0} → Answer Operand → A → A → A
sign_first (Some Sign) after whole = after
sign_first (Some (Macrodigit n)) after whole = whole
sign_first None after whole = whole

-- the characters of a term before those of the rest
abbrev pub characters_first : Term → Option (List ℕ) → Option (List ℕ)
characters_first (Symbolic (Character c)) after = cons_found c after
characters_first (Symbolic (Identifier a b)) after = none
characters_first (Symbolic (Number a b)) after = none
characters_first (SVariable a b) after = none
characters_first (TVariable a b) after = none
characters_first (EVariable a b) after = none
characters_first Bracket after = none
characters_first (Call a b) after = none
characters_first (Block n) after = none

-- a function of either of two runs
sign_ap : {A B : Type 0} (g : A → B) (op : Answer Operand) (after whole : A) → g (sign_first op after whole) ≡ sign_first op (g after) (g whole)
sign_ap g (Some Sign) after whole = refl
sign_ap g (Some (Macrodigit n)) after whole = refl
sign_ap g None after whole = refl

module _ (text : List ℕ) (own : ℕ → ℕ → Sentences) (at : ℕ) (mark : Mark) (inside after : Run) where
  e_term : (x : Term) → e_occurrences (term_run text own at mark x inside after) ≡ occurring x (e_occurrences inside) + e_occurrences after
  unfolding e_occurrences
  e_term (Symbolic x) = omega arith
  e_term (SVariable a b) = refl
  e_term (TVariable a b) = refl
  e_term (EVariable a b) = refl
  e_term Bracket = refl
  e_term (Call a b) = omega arith
  e_term (Block n) = omega arith

  digits_term : (x : Term) → macrodigits (term_run text own at mark x inside after) ≡ digits_first (operand_of text x) (macrodigits after)
  unfolding macrodigits
  digits_term (Symbolic (Character c)) = go (is_sign c)
    where
      go : (t : Bool) → none ≡ digits_first (cond t (Some Sign) None) (macrodigits after)
      go true = refl
      go false = refl
  digits_term (Symbolic (Identifier a b)) = refl
  digits_term (Symbolic (Number a b)) = go (is_macrodigit (value_of (take b (drop a text)))) (value_of (take b (drop a text)))
    where
      go : (t : Bool) (n : ℕ) → cond t (cons_found n (macrodigits after)) none ≡ digits_first (cond t (Some (Macrodigit n)) None) (macrodigits after)
      go true n = refl
      go false n = refl
  digits_term (SVariable a b) = refl
  digits_term (TVariable a b) = refl
  digits_term (EVariable a b) = refl
  digits_term Bracket = refl
  digits_term (Call a b) = refl
  digits_term (Block n) = refl

  first_term_lem : (divides : Bool) (x : Term)
      → first_fails divides (term_run text own at mark x inside after) ≡ integer_first divides (operand_of text x) (macrodigits (unsigned after))
  unfolding first_fails
  first_term_lem divides (Symbolic (Character c)) = go (is_sign c)
    where
      go : (t : Bool) → none ≡ integer_first divides (cond t (Some Sign) None) (macrodigits (unsigned after))
      go true = refl
      go false = refl
  first_term_lem divides (Symbolic (Identifier a b)) = refl
  first_term_lem divides (Symbolic (Number a b)) = go (is_macrodigit (value_of (take b (drop a text)))) (value_of (take b (drop a text)))
    where
      go : (t : Bool) (n : ℕ)
          → cond t (second_fails divides (macrodigits (unsigned after))) none
          ≡ integer_first divides (cond t (Some (Macrodigit n)) None) (macrodigits (unsigned after))
      go true n = refl
      go false n = refl
  first_term_lem divides (SVariable a b) = refl
  first_term_lem divides (TVariable a b) = refl
  first_term_lem divides (EVariable a b) = refl
  first_term_lem divides Bracket = refl
  first_term_lem divides (Call a b) = refl
  first_term_lem divides (Block n) = refl

  unsigned_term : (x : Term)
      → unsigned (term_run text own at mark x inside after) ≡ sign_first (operand_of text x) after (term_run text own at mark x inside after)
  unfolding unsigned
  unsigned_term (Symbolic (Character c)) = go (is_sign c)
    where
      go : (t : Bool)
          → cond t after (symbol (tree.Symbol.character c) after) ≡ sign_first (cond t (Some Sign) None) after (symbol (tree.Symbol.character c) after)
      go true = refl
      go false = refl
  unsigned_term (Symbolic (Identifier a b)) = refl
  unsigned_term (Symbolic (Number a b)) =
      go (is_macrodigit (value_of (take b (drop a text)))) (value_of (take b (drop a text))) (symbol (symbol_of text (Number a b)) after)
    where
      go : (t : Bool) (n : ℕ) (whole : Run) → whole ≡ sign_first (cond t (Some (Macrodigit n)) None) after whole
      go true n whole = refl
      go false n whole = refl
  unsigned_term (SVariable a b) = refl
  unsigned_term (TVariable a b) = refl
  unsigned_term (EVariable a b) = refl
  unsigned_term Bracket = refl
  unsigned_term (Call a b) = refl
  unsigned_term (Block n) = refl

  characters_term : (x : Term) → characters_of (term_run text own at mark x inside after) ≡ characters_first x (characters_of after)
  unfolding characters_of
  characters_term (Symbolic (Character c)) = refl
  characters_term (Symbolic (Identifier a b)) = refl
  characters_term (Symbolic (Number a b)) = refl
  characters_term (SVariable a b) = refl
  characters_term (TVariable a b) = refl
  characters_term (EVariable a b) = refl
  characters_term Bracket = refl
  characters_term (Call a b) = refl
  characters_term (Block n) = refl

  -- with the sign that the term may be
  unsigned_digits : (x : Term)
      → macrodigits (unsigned (term_run text own at mark x inside after))
      ≡ sign_first (operand_of text x) (macrodigits after) (digits_first (operand_of text x) (macrodigits after))
  unsigned_digits x =
      ap macrodigits (unsigned_term x)
      ∙ sign_ap macrodigits (operand_of text x) after (term_run text own at mark x inside after)
      ∙ ap (sign_first (operand_of text x) (macrodigits after)) (digits_term x)

  integers_term : (divides : Bool) (x : Term)
      → integers_fail divides (term_run text own at mark x inside after)
      ≡ sign_first (operand_of text x) (first_fails divides after) (integer_first divides (operand_of text x) (macrodigits (unsigned after)))
  integers_term divides x =
      ap (first_fails divides) (unsigned_term x)
      ∙ sign_ap (first_fails divides) (operand_of text x) after (term_run text own at mark x inside after)
      ∙ ap (sign_first (operand_of text x) (first_fails divides after)) (first_term_lem divides x)

-- ---- a part's first record before the rest

-- what is told of a run by its first term, what is inside it and what is after it, whatever the records' numbers and the blocks' sentences are
module _ {A : Type 0} (text : List ℕ) (told : Run → A) (step : Term → A → A → A)
    (law : (own : ℕ → ℕ → Sentences) (at : ℕ) (mark : Mark) (inside after : Run) (x : Term)
    → told (term_run text own at mark x inside after) ≡ step x (told inside) (told after)) where
  forest_same : (own other : ℕ → ℕ → Sentences) (f : Forest) (at to : ℕ) → told (forest_run text own at f) ≡ told (forest_run text other to f)
  unfolding forest_run
  forest_same own other end at to = refl
  forest_same own other (node s inside after) at to =
      law own at (mark_at at s 16) (forest_run text own (at + 1) inside) (forest_run text own (at + 1 + word_at s 12) after) (term_at s 0)
      ∙ rw (forest_same own other inside (at + 1) (to + 1), forest_same own other after (at + 1 + word_at s 12) (to + 1 + word_at s 12))
      (sym (law other to (mark_at to s 16) (forest_run text other (to + 1) inside) (forest_run text other (to + 1 + word_at s 12) after) (term_at s 0)))

  -- the run of a part, from any number on
  part_same : (own : ℕ → ℕ → Sentences) (at : ℕ) (part : List ℕ) → told (forest_run text own at (term_forest part)) ≡ told (argument_of text part)
  part_same own at part = forest_same own (λ t n. no_sentence) (term_forest part) at 0

  -- a part of one record or more
  part_node : (part : List ℕ) → 24 ≤ length part
      → told (argument_of text part)
      ≡ step (term_at part 0) (told (argument_of text (contents 24 end_of part))) (told (argument_of text (rest 24 end_of part)))
  unfolding forest_run
  part_node part h =
      rw (terms_node part h)
      (law (λ t n. no_sentence) 0 (mark_at 0 part 16) (forest_run text (λ t n. no_sentence) (0 + 1) (term_forest (contents 24 end_of part)))
      (forest_run text (λ t n. no_sentence) (0 + 1 + word_at part 12) (term_forest (rest 24 end_of part))) (term_at part 0)
      ∙ rw (part_same (λ t n. no_sentence) (0 + 1) (contents 24 end_of part), part_same (λ t n. no_sentence) (0 + 1 + word_at part 12) (rest 24 end_of part)))

-- a part of no record
pub part_empty : (text part : List ℕ) → length part < 24 → argument_of text part ≡ empty
unfolding forest_run
part_empty text part h = rw (terms_none part h)

-- what is told of a run as integers
record Integers (divides : Bool) : Type 0 where
  found : Option (List ℕ)
  second : Option (List ℕ)
  first : Option Failure
  whole : Option Failure

integers_in : (divides : Bool) → Run → Integers divides
integers_in divides r = record {
  found = macrodigits r;
  second = macrodigits (unsigned r);
  first = first_fails divides r;
  whole = integers_fail divides r;
}

integers_step : (divides : Bool) → Answer Operand → Integers divides → Integers divides
integers_step divides op after = record {
  found = digits_first op after.found;
  second = sign_first op after.found (digits_first op after.found);
  first = integer_first divides op after.second;
  whole = sign_first op after.first (integer_first divides op after.second);
}

integers_law : (text : List ℕ) (divides : Bool) (own : ℕ → ℕ → Sentences) (at : ℕ) (mark : Mark) (inside after : Run) (x : Term)
    → integers_in divides (term_run text own at mark x inside after) ≡ integers_step divides (operand_of text x) (integers_in divides after)
unfolding integers_in integers_step
integers_law text divides own at mark inside after x =
    rw (
      digits_term text own at mark inside after x,
      unsigned_digits text own at mark inside after x,
      integers_term text own at mark inside after divides x,
      first_term_lem text own at mark inside after divides x,
    )

-- ---- for callers: what the lints say of the run of a part is what they say of its argument

module _ (text : List ℕ) (own : ℕ → ℕ → Sentences) (at : ℕ) (part : List ℕ) where
  pub e_same : e_occurrences (forest_run text own at (term_forest part)) ≡ e_occurrences (argument_of text part)
  e_same = part_same text e_occurrences (λ x i a. occurring x i + a) (e_term text) own at part

  pub integers_same : (divides : Bool) → integers_fail divides (forest_run text own at (term_forest part)) ≡ integers_fail divides (argument_of text part)
  unfolding integers_in
  integers_same divides =
      ap (λ (z : Integers divides). z.whole)
      (part_same text (integers_in divides) (λ x i a. integers_step divides (operand_of text x) a) (integers_law text divides) own at part)

  pub characters_same : characters_of (forest_run text own at (term_forest part)) ≡ characters_of (argument_of text part)
  characters_same = part_same text characters_of (λ x i a. characters_first x a) (characters_term text) own at part

  pub failure_same : (domain : Domain) → failure domain (forest_run text own at (term_forest part)) ≡ failure domain (argument_of text part)
  failure_same (integers divides) = integers_same divides
  failure_same digits = ap digits_fail characters_same
  failure_same anything = refl

-- ---- e. occurrences, counted record by record

-- those that a record of a kind is itself, and those inside it that count
abbrev pub self_counts : ℕ → ℕ
self_counts kind = cond (eqb kind 5) 1 0

abbrev pub inside_counts : ℕ → ℕ → ℕ
inside_counts kind inside = cond (eqb kind 6) inside 0

kind_counts : (a b inside kind : ℕ) → occurring (term_from kind a b) inside ≡ self_counts kind + inside_counts kind inside
unfolding term_from
kind_counts a b inside zero = refl
kind_counts a b inside (suc zero) = refl
kind_counts a b inside (suc (suc zero)) = refl
kind_counts a b inside (suc (suc (suc zero))) = refl
kind_counts a b inside (suc (suc (suc (suc zero)))) = refl
kind_counts a b inside (suc (suc (suc (suc (suc zero))))) = refl
kind_counts a b inside (suc (suc (suc (suc (suc (suc zero)))))) = omega arith
kind_counts a b inside (suc (suc (suc (suc (suc (suc (suc zero))))))) = refl
kind_counts a b inside (suc (suc (suc (suc (suc (suc (suc (suc kind)))))))) =
    rw (
      ne_eqb (suc (suc (suc (suc (suc (suc (suc (suc kind)))))))) 5 (λ e. omega (arith, e)),
      ne_eqb (suc (suc (suc (suc (suc (suc (suc (suc kind)))))))) 6 (λ e. omega (arith, e)),
    )

e_none : (part : List ℕ) → length part < 24 → (text : List ℕ) → e_occurrences (argument_of text part) ≡ 0
unfolding e_occurrences
e_none part h text = rw (part_empty text part h)

-- those of what a part has from each of its terms on, and how long the first of these is
unfoldable pub parts_count : List ℕ → List (List ℕ) → ℕ
parts_count text [] = 0
parts_count text (s ∷ ss) = occurring (term_at s 0) (e_occurrences (argument_of text (contents 24 end_of s))) + parts_count text ss

abbrev first_length : List (List ℕ) → ℕ
first_length [] = 0
first_length (s ∷ ss) = length s

e_parts : (text part : List ℕ) → e_occurrences (argument_of text part) ≡ parts_count text (term_parts part)
unfolding parts_count
e_parts text =
    each_part (λ part. e_occurrences (argument_of text part) ≡ parts_count text (term_parts part))
    (λ part short. rw (e_none part short text, parts_none part short))
    (λ part long after. part_node text e_occurrences (λ x i a. occurring x i + a) (e_term text) part long ∙ rw (parts_node part long, after))

first_few : (s : List ℕ) → first_length (term_parts s) ≤ length s
first_few s = go (dec_lt (length s) 24)
  where
    go : Dec (length s < 24) → first_length (term_parts s) ≤ length s
    go (yes few) = rw (parts_none s few) (omega arith)
    go (no many) = let long : 24 ≤ length s = omega arith in rw (parts_node s long) (omega arith)

-- what is left begins with an item: the item is all of it, and what is behind its first term comes later
later_is : (left item : List ℕ) (later : List (List ℕ)) → term_parts left ≡ item ∷ later → later ≡ term_parts (rest 24 end_of item)
later_is left item later e = go (dec_lt (length left) 24)
  where
    go : Dec (length left < 24) → later ≡ term_parts (rest 24 end_of item)
    go (yes few) = let none : term_parts left ≡ [] = parts_none left few in cc
    go (no many) =
        let long : 24 ≤ length left = omega arith in
        let node : term_parts left ≡ left ∷ term_parts (rest 24 end_of left) = parts_node left long in
        let same : left ≡ item = cc in
        let others : later ≡ term_parts (rest 24 end_of left) = cc in
        rw same at others

-- so many are found in the terms that are gone through, and the others are in what is left
pub record Counted (part left : List ℕ) (found : ℕ) : Type 0 where
  pub few : 24 * found + first_length (term_parts left) ≤ length part
  pub counted : (text : List ℕ) → found + parts_count text (term_parts left) ≡ e_occurrences (argument_of text part)

pub e_start : (part : List ℕ) → Counted part part 0
e_start part = record { few = omega (arith, first_few part); counted = λ text. omega (arith, e_parts text part) }

module _ {part left : List ℕ} {found : ℕ} (so_far : Counted part left found) where
  -- no term is left
  pub e_end : term_parts left ≡ [] → ((text : List ℕ) → found ≡ e_occurrences (argument_of text part)) × (24 * found ≤ length part)
  unfolding parts_count
  e_end gone = ((λ text. let h = rw gone at so_far.counted text in omega (arith, h)), omega (arith, so_far.few))

  -- the next item, whose first term has a kind
  module _ {later item : List ℕ} {kind : ℕ} (long : 24 ≤ length item) (here : term_parts left ≡ item ∷ term_parts later) (word : kind ≡ word_at item 0) where
    e_next : {now : ℕ} (m : ℕ) → ((text : List ℕ) → m ≡ self_counts kind + inside_counts kind (e_occurrences (argument_of text (contents 24 end_of item))))
        → 24 * m ≤ end_of item → now ≡ found + m → Counted part later now
    unfolding parts_count term_at
    e_next {now} m is small n =
        let behind : length (rest 24 end_of item) ≡ length item - end_of item = simp (length-take, length-drop) (omega arith) in
        let after : first_length (term_parts later) ≤ length (rest 24 end_of item) = rw (later_is left item (term_parts later) here) (first_few (rest 24 end_of item)) in
        let before : 24 * found + length item ≤ length part = rw here at so_far.few in
        record {
          few = omega (arith, behind, after, before, small, n, end_high item);
          counted = λ text.
              let turn : found + (occurring (term_at item 0) (e_occurrences (argument_of text (contents 24 end_of item))) + parts_count text (term_parts later))
              ≡ e_occurrences (argument_of text part) = rw here at so_far.counted text in
              let own : occurring (term_at item 0) (e_occurrences (argument_of text (contents 24 end_of item)))
              ≡ self_counts kind + inside_counts kind (e_occurrences (argument_of text (contents 24 end_of item))) =
              rw word (kind_counts (word_at item 4) (word_at item 8) (e_occurrences (argument_of text (contents 24 end_of item))) (word_at item 0)) in
              omega (arith, turn, is text, n, own);
        }

    pub e_self : {now : ℕ} → kind ≡ 5 → now ≡ found + 1 → Counted part later now
    e_self k n = e_next 1 (λ text. rw k) (omega (arith, end_low item long)) n

    pub e_bracket : {m e now : ℕ} → e ≡ end_of item → kind ≡ 6
        → ((text : List ℕ) → m ≡ e_occurrences (argument_of text (inside_to item e))) × (24 * m ≤ length (inside_to item e))
        → now ≡ found + m → Counted part later now
    e_bracket {m} {e} q k h n =
        e_next m (λ text. rw (k, ← q, zero-add) (h.0 text)) (omega (arith, h.1, q, end_low item long, length-take (e - 24) (drop 24 item))) n

    pub e_other : {now : ℕ} → (kind ≡ 5 → ⊥) → (kind ≡ 6 → ⊥) → now ≡ found → Counted part later now
    e_other a b n = e_next 0 (λ text. rw (ne_eqb kind 5 a, ne_eqb kind 6 b)) (omega arith) (omega (arith, n))

-- ---- tests of all symbols

-- of the first symbol and of the others
abbrev pub both : Answer Bool → Answer Bool → Answer Bool
both None rest = None
both (Some t) None = None
both (Some t) (Some u) = Some (t && u)

-- of an operand and of the macrodigits after it
zeros_both : (op : Answer Operand) (after : Option (List ℕ)) → both (zero_of op) (all_of all_zero after) ≡ all_of all_zero (digits_first op after)
unfolding all_zero
zeros_both (Some Sign) after = refl
zeros_both (Some (Macrodigit n)) none = refl
zeros_both (Some (Macrodigit n)) (some ns) = refl
zeros_both None after = refl

-- of a term and of the characters after it
digits_both : (x : Term) (after : Option (List ℕ))
    → both (digit_of x) (all_of (every_byte digit_byte) after) ≡ all_of (every_byte digit_byte) (characters_first x after)
unfolding every_byte
digits_both (Symbolic (Character c)) none = refl
digits_both (Symbolic (Character c)) (some cs) = refl
digits_both (Symbolic (Identifier a b)) after = refl
digits_both (Symbolic (Number a b)) after = refl
digits_both (SVariable a b) after = refl
digits_both (TVariable a b) after = refl
digits_both (EVariable a b) after = refl
digits_both Bracket after = refl
digits_both (Call a b) after = refl
digits_both (Block n) after = refl

-- ---- integers

-- nothing is left: no macrodigit, and no operand
pub zeros_none : (text part : List ℕ) → length part < 24 → Some true ≡ all_of all_zero (macrodigits (argument_of text part))
unfolding macrodigits all_zero
zeros_none text part h = rw (part_empty text part h)

pub second_none : (text part : List ℕ) (divides : Bool) → length part < 24
    → some two_integers_wanted ≡ second_fails divides (macrodigits (argument_of text part))
unfolding macrodigits
second_none text part divides h = rw (part_empty text part h)

pub first_none : (text part : List ℕ) (divides : Bool) → length part < 24 → some two_integers_wanted ≡ first_fails divides (argument_of text part)
unfolding first_fails
first_none text part divides h = rw (part_empty text part h)

pub sign_none : (text part : List ℕ) → length part < 24 → SignTaken text part part
unfolding unsigned
sign_none text part h = rw (part_empty text part h) ((λ divides. refl), refl)

module _ (text part : List ℕ) {e : ℕ} {term : Term} {op : Answer Operand} (some : 24 ≤ length part)
    (q : e ≡ end_of part) (t : term ≡ term_at part 0) (o : op ≡ operand_of text term) where
  integers_node : (divides : Bool)
      → integers_in divides (argument_of text part) ≡ integers_step divides op (integers_in divides (argument_of text (left_from part e)))
  integers_node divides =
      rw (o, t, q) (part_node text (integers_in divides) (λ x i a. integers_step divides (operand_of text x) a) (integers_law text divides) part some)

  found_node : macrodigits (argument_of text part) ≡ digits_first op (macrodigits (argument_of text (left_from part e)))
  unfolding integers_in integers_step
  found_node = ap (λ (z : Integers true). z.found) (integers_node true)

  second_node : macrodigits (unsigned (argument_of text part))
      ≡ sign_first op (macrodigits (argument_of text (left_from part e))) (digits_first op (macrodigits (argument_of text (left_from part e))))
  unfolding integers_in integers_step
  second_node = ap (λ (z : Integers true). z.second) (integers_node true)

  first_node : (divides : Bool)
      → first_fails divides (argument_of text part) ≡ integer_first divides op (macrodigits (unsigned (argument_of text (left_from part e))))
  unfolding integers_in integers_step
  first_node divides = ap (λ (z : Integers divides). z.first) (integers_node divides)

  whole_node : (divides : Bool)
      → integers_fail divides (argument_of text part)
      ≡ sign_first op (first_fails divides (argument_of text (left_from part e)))
      (integer_first divides op (macrodigits (unsigned (argument_of text (left_from part e)))))
  unfolding integers_in integers_step
  whole_node divides = ap (λ (z : Integers divides). z.whole) (integers_node divides)

  -- whether all macrodigits are 0
  pub zeros_node : {first rest whole : Answer Bool} → first ≡ zero_of op → rest ≡ all_of all_zero (macrodigits (argument_of text (left_from part e)))
      → whole ≡ both first rest → whole ≡ all_of all_zero (macrodigits (argument_of text part))
  zeros_node f r w = w ∙ rw (f, r, found_node) (zeros_both op (macrodigits (argument_of text (left_from part e))))

  -- a sign is taken once
  pub sign_taken : op ≡ Some Sign → SignTaken text part (left_from part e)
  sign_taken k = ((λ divides. sym (whole_node divides ∙ rw k)), sym (second_node ∙ rw k))

  -- where there is no sign, nothing is taken
  pub macrodigit_kept : {n : ℕ} → op ≡ Some (Macrodigit n) → SignTaken text part part
  macrodigit_kept k = ((λ divides. first_node divides ∙ sym (whole_node divides ∙ rw k)), found_node ∙ sym (second_node ∙ rw k))

  pub other_kept : op ≡ None → SignTaken text part part
  other_kept k = ((λ divides. first_node divides ∙ sym (whole_node divides ∙ rw k)), found_node ∙ sym (second_node ∙ rw k))

  -- the first operand, and the second after it
  pub first_sign : (divides : Bool) → op ≡ Some Sign → none ≡ first_fails divides (argument_of text part)
  first_sign divides k = sym (first_node divides ∙ rw k)

  pub first_other : (divides : Bool) → op ≡ None → none ≡ first_fails divides (argument_of text part)
  first_other divides k = sym (first_node divides ∙ rw k)

  pub first_macrodigit : (divides : Bool) (second : List ℕ) {n : ℕ} {says : Option Failure} → op ≡ Some (Macrodigit n)
      → SignTaken text (left_from part e) second
      → says ≡ second_fails divides (macrodigits (argument_of text second)) → says ≡ first_fails divides (argument_of text part)
  first_macrodigit divides second k taken s = s ∙ ap (second_fails divides) taken.1 ∙ sym (first_node divides ∙ rw k)

-- the second operand's macrodigits, which are some where they are found
abbrev pub zeros_fail : Answer Bool → Option Failure
zeros_fail found = cond (option_eq beq found (Some true)) (some division_by_zero) none

second_some : (divides : Bool) (op : Answer Operand) (after : Option (List ℕ))
    → second_fails divides (digits_first op after) ≡ cond divides (zeros_fail (all_of all_zero (digits_first op after))) none
second_some true (Some Sign) after = refl
second_some true (Some (Macrodigit n)) none = refl
second_some true (Some (Macrodigit n)) (some ns) = go (all_zero (n ∷ ns))
  where
    go : (t : Bool) → cond t (some division_by_zero) none ≡ zeros_fail (Some t)
    go true = refl
    go false = refl
second_some true None after = refl
second_some false (Some Sign) after = refl
second_some false (Some (Macrodigit n)) none = refl
second_some false (Some (Macrodigit n)) (some ns) = refl
second_some false None after = refl

pub second_long : (text part : List ℕ) (divides : Bool) → 24 ≤ length part
    → second_fails divides (macrodigits (argument_of text part)) ≡ cond divides (zeros_fail (all_of all_zero (macrodigits (argument_of text part)))) none
second_long text part divides h =
    rw (found_node text part h refl refl refl)
    (second_some divides (operand_of text (term_at part 0)) (macrodigits (argument_of text (rest 24 end_of part))))

module _ (text part : List ℕ) (h : 24 ≤ length part) where
  -- a function that does not divide
  pub second_decides : {divides : Bool} → divides ≡ false → none ≡ second_fails divides (macrodigits (argument_of text part))
  second_decides {divides} e = sym (second_long text part divides h ∙ rw e)

  -- one that does
  pub second_zeros : {divides is : Bool} {found : Answer Bool} → divides ≡ true → found ≡ all_of all_zero (macrodigits (argument_of text part))
      → is ≡ option_eq beq found (Some true) → cond is (some division_by_zero) none ≡ second_fails divides (macrodigits (argument_of text part))
  second_zeros {divides} e z w = sym (second_long text part divides h ∙ rw (e, ← z, ← w))

-- ---- digits

pub digits_none : (part : List ℕ) → length part < 24 → (text : List ℕ) → Some true ≡ all_of (every_byte digit_byte) (characters_of (argument_of text part))
unfolding characters_of every_byte
digits_none part h text = rw (part_empty text part h)

pub no_digits : (part : List ℕ) → length part < 24 → (text : List ℕ) → some digits_wanted ≡ digits_fail (characters_of (argument_of text part))
unfolding characters_of
no_digits part h text = rw (part_empty text part h)

characters_node : (text part : List ℕ) → 24 ≤ length part
    → characters_of (argument_of text part) ≡ characters_first (term_at part 0) (characters_of (argument_of text (rest 24 end_of part)))
characters_node text part h = part_node text characters_of (λ x i a. characters_first x a) (characters_term text) part h

pub digits_node : (text part : List ℕ) {e : ℕ} {term : Term} {first rest whole : Answer Bool} → 24 ≤ length part
    → e ≡ end_of part → term ≡ term_at part 0 → first ≡ digit_of term
    → rest ≡ all_of (every_byte digit_byte) (characters_of (argument_of text (left_from part e)))
    → whole ≡ both first rest → whole ≡ all_of (every_byte digit_byte) (characters_of (argument_of text part))
digits_node text part h q t f r w =
    w ∙ rw (f, r, q, t, characters_node text part h) (digits_both (term_at part 0) (characters_of (argument_of text (rest 24 end_of part))))

abbrev pub digits_fail_by : Answer Bool → Option Failure
digits_fail_by found = cond (option_eq beq found (Some false)) (some digits_wanted) none

digits_some : (x : Term) (after : Option (List ℕ))
    → digits_fail (characters_first x after) ≡ digits_fail_by (all_of (every_byte digit_byte) (characters_first x after))
digits_some (Symbolic (Character c)) none = refl
digits_some (Symbolic (Character c)) (some cs) = go (every_byte digit_byte (c ∷ cs))
  where
    go : (t : Bool) → cond t none (some digits_wanted) ≡ digits_fail_by (Some t)
    go true = refl
    go false = refl
digits_some (Symbolic (Identifier a b)) after = refl
digits_some (Symbolic (Number a b)) after = refl
digits_some (SVariable a b) after = refl
digits_some (TVariable a b) after = refl
digits_some (EVariable a b) after = refl
digits_some Bracket after = refl
digits_some (Call a b) after = refl
digits_some (Block n) after = refl

pub digits_long : (part : List ℕ) {is : Bool} {found : Answer Bool} → 24 ≤ length part
    → ((text : List ℕ) → found ≡ all_of (every_byte digit_byte) (characters_of (argument_of text part))) → is ≡ option_eq beq found (Some false)
    → (text : List ℕ) → cond is (some digits_wanted) none ≡ digits_fail (characters_of (argument_of text part))
digits_long part h a w text =
    rw (w, a text, characters_node text part h) (sym (digits_some (term_at part 0) (characters_of (argument_of text (rest 24 end_of part)))))

-- Laws of lines: the words in them, their columns, and the page that findings have by their words.
use Prim.Native.Nat.{ℕ, zero, suc, ◌+◌, ◌%◌, ◌/◌, ◌≤◌}
use mathlib.Core.List.{List, [], ◌∷◌, ◌++◌, flatten, append-nil}
use mathlib.Core.Path.{◌≡◌, refl}
use native.Mathlib.Omega.{arith}
use native.Mathlib.Decide.{dec_le}
use native.Mathlib.Numerals.{add-one}
use borrow.Author.Tests.{eq-eqb, ne_eqb}
use lib.ListN.{length, get_or, length-append}
use Rattle.file.specs.Sections.{File}
use Rattle.law.specs.Text.{bytes_of}
use Rattle.law.specs.Reading.{function_name}
use Rattle.buffers.specs.Decimal.{decimal}
use Rattle.buffers.specs.Code.Put.{Put, largest}
use Rattle.buffers.proofs.PutLaws.{◌then◌}
use Rattle.pages.specs.Page.{line_feed, Line, left, right, next_field, cut, severity_word, line, heading, heading_before}
use Rattle.pages.specs.Code.Lines.{lint_word_by, word_fields, line_at}
use Rattle.pages.proofs.FieldLaws.{left_columns, right_columns}

-- ---- words by numbers

pub other_lint : (n : ℕ) → (n ≡ 1 → ⊥) → (n ≡ 2 → ⊥) → (n ≡ 3 → ⊥) → lint_word_by n ≡ bytes_of "open"
other_lint zero a b c = refl
other_lint (suc zero) a b c = absurd (a refl)
other_lint (suc (suc zero)) a b c = absurd (b refl)
other_lint (suc (suc (suc zero))) a b c = absurd (c refl)
other_lint (suc (suc (suc (suc n)))) a b c = refl

pub other_severity : (n : ℕ) → (n ≡ 0 → ⊥) → (n ≡ 1 → ⊥) → (n ≡ 2 → ⊥) → severity_word n ≡ bytes_of "allow"
other_severity zero a b c = absurd (a refl)
other_severity (suc zero) a b c = absurd (b refl)
other_severity (suc (suc zero)) a b c = absurd (c refl)
other_severity (suc (suc (suc n))) a b c = refl

-- ---- headings

pub no_heading : (functions i : ℕ) → (i % 59 ≡ 0 → ⊥) → flatten (heading_before functions i) ≡ []
unfolding flatten
no_heading functions i h = rw (ne_eqb (i % 59) 0 h)

pub some_heading : (functions i : ℕ) → i % 59 ≡ 0 → flatten (heading_before functions i) ≡ heading functions (i / 59 + 1)
unfolding flatten
some_heading functions i h = rw (eq-eqb (i % 59) 0 h, add-one (i / 59)) (append-nil (heading functions (suc (i / 59))))

-- ---- columns

pub fields_columns : (name lint severity : List ℕ) → length (left 24 name ++ next_field (left 8 lint) ++ next_field (left 5 severity)) ≡ 39
fields_columns name lint severity =
    omega (
      arith,
      length-append (left 24 name ++ next_field (left 8 lint)) (next_field (left 5 severity)),
      length-append (left 24 name) (next_field (left 8 lint)),
      left_columns 24 name,
      left_columns 8 lint,
      left_columns 5 severity,
    )

pub line_length : {bytes : List ℕ} → Line bytes → length bytes ≡ 73
line_length l = rw l.is (omega (arith, length-append l.text (line_feed ∷ []), l.columns))

pub finding_columns : (name lint severity : List ℕ) (start end a : ℕ) → Line (line name lint severity start end a)
unfolding line
finding_columns name lint severity start end a =
    let words : List ℕ = left 24 (cut name) ++ next_field (left 8 lint) ++ next_field (left 5 severity) in
    let first : List ℕ = words ++ next_field (right 10 (decimal start)) in
    let second : List ℕ = first ++ next_field (right 10 (decimal end)) in
    record {
      text = second ++ next_field (right 10 (decimal a));
      is = refl;
      columns =
          omega (
            arith,
            length-append second (next_field (right 10 (decimal a))),
            length-append first (next_field (right 10 (decimal end))),
            length-append words (next_field (right 10 (decimal start))),
            fields_columns (cut name) lint severity,
            right_columns 10 (decimal start),
            right_columns 10 (decimal end),
            right_columns 10 (decimal a),
          );
    }

pub heading_columns : (functions number : ℕ) → Line (heading functions number)
unfolding heading
heading_columns functions number = record {
  text = left 61 (decimal functions) ++ next_field (right 10 (decimal number));
  is = refl;
  columns =
      omega (
        arith,
        length-append (left 61 (decimal functions)) (next_field (right 10 (decimal number))),
        left_columns 61 (decimal functions),
        right_columns 10 (decimal number),
      );
}

pub heading_few : (functions i : ℕ) → length (flatten (heading_before functions i)) ≤ 73
heading_few functions i = go (dec_le (i % 59) 0)
  where
    go : Dec (i % 59 ≤ 0) → length (flatten (heading_before functions i)) ≤ 73
    go (yes h) = rw (some_heading functions i (omega (arith, h))) (omega (arith, line_length (heading_columns functions (i / 59 + 1))))
    go (no h) = rw (no_heading functions i (λ e. h (omega (arith, e)))) (omega arith)

-- ---- what is put

module _ (file : File) (words : List ℕ) (first : ℕ) where
  -- the fields that hold words, from what was read of a finding's words
  pub words_put : {name : List ℕ} {lint severity position : ℕ} {at second third end : ℕ} {old middle more last : List ℕ}
      → position ≡ get_or words (first + 6) 0 → name ≡ (function_name file position).spelled → lint ≡ get_or words first 0 → severity ≡ get_or words (first + 1) 0
      → Put old at (left 24 (cut name)) second middle → Put middle second (next_field (left 8 (lint_word_by lint))) third more
      → Put more third (next_field (left 5 (severity_word severity))) end last → Put old at (word_fields file words first) end last
  words_put position_is name-is lint_is severity-is p q r = rw (← position_is, ← name-is, ← lint_is, ← severity-is) (p then q then r)

  -- a line: these fields, three numbers, and a line feed
  pub line_put : {start end a : ℕ} {at s e t feed stop : ℕ} {old one two three four last : List ℕ}
      → start ≡ get_or words (first + 2) 0 → end ≡ get_or words (first + 3) 0 → a ≡ get_or words (first + 4) 0
      → Put old at (word_fields file words first) s one → Put one s (next_field (right 10 (decimal start))) e two
      → Put two e (next_field (right 10 (decimal end))) t three → Put three t (next_field (right 10 (decimal a))) feed four → Put four feed (line_feed ∷ []) stop last
      → Put old at (line_at file words first) stop last
  unfolding line
  line_put start_is end_is a_is p q r s t = rw (← start_is, ← end_is, ← a_is) (p then q then r then s then t)

  pub line_at_length : length (line_at file words first) ≡ 73
  line_at_length =
      line_length (finding_columns (function_name file (get_or words (first + 6) 0)).spelled (lint_word_by (get_or words first 0)) (severity_word (get_or words (first + 1) 0))
      (get_or words (first + 2) 0) (get_or words (first + 3) 0) (get_or words (first + 4) 0))

  -- where the numbers of a line begin
  pub near : {at next-at : ℕ} {old last : List ℕ} → at + 1024 ≤ largest → Put old at (word_fields file words first) next-at last → next-at + 985 ≤ largest
  near h p =
      omega (
        arith,
        h,
        p.end,
        fields_columns (cut (function_name file (get_or words (first + 6) 0)).spelled) (lint_word_by (get_or words first 0)) (severity_word (get_or words (first + 1) 0)),
      )

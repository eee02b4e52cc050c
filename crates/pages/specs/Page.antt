-- The listing on a page. Document 02, R-4: "Lines are 72 columns and a page has 60, the first a heading with the function count at the left and the page
-- number ending in column 72. Lines are padded with spaces and end in a line feed; the last page stops after its last line."
-- docs/SPECIFICATION.md, 21.
use Rattle.std.specs.Prelude.{ℕ, zero, suc, ◌+◌, ◌*◌, ◌-◌, ◌/◌, ◌%◌, cond, ◌≡◌, length, take, drop, replicate, eqb, leb}
use mathlib.Core.List.{List, [], ◌∷◌, ◌++◌, map, flatten}
use Rattle.buffers.specs.Decimal.{decimal}
use Rattle.law.specs.Text.{bytes_of}
use Rattle.lints.specs.Lint.{Lint, dead_sentence, recognition_impossible, builtin_domain, open_expressions}
use Rattle.lints.specs.Finding.{Finding, lint_of, word_a}
use Rattle.lints.specs.Levels.{Settings, severity_of}

abbrev pub space : ℕ
space = 32

abbrev pub line_feed : ℕ
line_feed = 10

-- ---- fields

-- a word at the left of so many columns, and a number at the right of them. What is not wider stands there whole (`left_whole`, `right_whole` of
-- proofs/FieldLaws.antt), and nothing wider is ever put there: names are cut, and the numbers of a finding have ten digits at most (`ten_digits`).
unfoldable pub left : ℕ → List ℕ → List ℕ
left columns word = take columns (word ++ replicate columns space)

unfoldable pub right : ℕ → List ℕ → List ℕ
right columns number = drop (length number) (replicate columns space ++ number)

-- "one space between fields": a field that is not the first of its line
abbrev pub next_field : List ℕ → List ℕ
next_field field = space ∷ field

-- ---- the line of a finding

-- "(a longer one cut to 23 and `+`)"
abbrev pub cut : List ℕ → List ℕ
cut name = cond (leb (length name) 24) name (take 23 name ++ bytes_of "+")

-- "`dead`, `no match`, `builtin` or `open` in 8"
abbrev pub lint_word : Lint → List ℕ
lint_word dead_sentence = bytes_of "dead"
lint_word recognition_impossible = bytes_of "no match"
lint_word builtin_domain = bytes_of "builtin"
lint_word open_expressions = bytes_of "open"

-- "severity word in 5", by document 01: "(0 error, 1 deny, 2 warn, 3 allow)"
abbrev pub severity_word : ℕ → List ℕ
severity_word zero = bytes_of "error"
severity_word (suc zero) = bytes_of "deny"
severity_word (suc (suc zero)) = bytes_of "warn"
severity_word (suc (suc (suc more))) = bytes_of "allow"

-- "function name in 24 [..] in 8, severity word in 5, start, end and a in 10 each, right-aligned"
unfoldable pub line : (name lint severity : List ℕ) → (start end a : ℕ) → List ℕ
line name lint severity start end a =
    left 24 (cut name) ++ next_field (left 8 lint) ++ next_field (left 5 severity)
    ++ next_field (right 10 (decimal start)) ++ next_field (right 10 (decimal end)) ++ next_field (right 10 (decimal a)) ++ line_feed ∷ []

abbrev pub finding_line : Settings → Finding → List ℕ
finding_line settings f =
    line f.owner.spelled (lint_word (lint_of f.claim)) (severity_word (severity_of settings (lint_of f.claim)))
    f.subject.span_start f.subject.span_end (word_a f.claim)

-- ---- pages

-- pages are numbered from 1
unfoldable pub heading : (functions number : ℕ) → List ℕ
heading functions number = left 61 (decimal functions) ++ next_field (right 10 (decimal number)) ++ line_feed ∷ []

-- a page has a heading and 59 more lines, so that a heading stands before the findings 0, 59, 118 and so on
abbrev pub heading_before : ℕ → ℕ → List (List ℕ)
heading_before functions i = cond (eqb (i % 59) 0) (heading functions (suc (i / 59)) ∷ []) []

-- the lines of findings from the one at a position on, with the headings between them
unfoldable pub lines_from : ℕ → ℕ → List (List ℕ) → List (List ℕ)
lines_from functions i [] = []
lines_from functions i (l ∷ ls) = heading_before functions i ++ l ∷ lines_from functions (suc i) ls

-- "A law without findings prints one heading."
unfoldable pub page_lines : ℕ → List (List ℕ) → List (List ℕ)
page_lines functions [] = heading functions 1 ∷ []
page_lines functions (l ∷ ls) = lines_from functions 0 (l ∷ ls)

-- the bytes of a listing on a page, in a law of so many functions
unfoldable pub page : Settings → ℕ → List Finding → List ℕ
page settings functions findings = flatten (page_lines functions (map (finding_line settings) findings))

-- ---- what holds of it (proofs/LayoutLaws.antt)

-- the lines of so many findings: one heading, or one for every 59 of them that are begun
abbrev pub line_count : ℕ → ℕ
line_count findings = findings + suc ((findings - 1) / 59)

-- their bytes: 72 columns and a line feed each
abbrev pub page_length : ℕ → ℕ
page_length findings = 73 * line_count findings

-- a line: 72 columns and a line feed
pub record Line (bytes : List ℕ) : Type 0 where
  pub text : List ℕ
  pub is : bytes ≡ text ++ line_feed ∷ []
  pub columns : length text ≡ 72

-- A finding: what its eight words and its text are made from. Document 01, "The listing": "A finding is eight words: lint [..], severity [..], span
-- start, span end, a, b, function position, subject (sentence record for 1 and 4, term record for 2 and 3). Positions count from 0."
-- docs/SPECIFICATION.md, 8.1, 10.1, 10.2.
use Rattle.std.specs.Prelude.{ℕ, suc, Bool, List, [], ◌∷◌, ◌++◌, map}
use Rattle.law.specs.Tree.{Name, Mark, Function, Law}
use Rattle.shapes.specs.Format.{Format}
use Rattle.lints.specs.Lint.{Lint, dead_sentence, recognition_impossible, builtin_domain, open_expressions, lint_number}

-- why a builtin call fails
pub data Failure : Type 0 where
  two_integers_wanted division_by_zero digits_wanted : Failure

-- what a finding says of its subject
pub data Claim : Type 0 where
  -- a sentence of the function (false) or of a block in it (true): its number, and that of the earliest one that shadows it, both from 1
  dead : Bool → ℕ → ℕ → Claim
  -- a call: its name as spelled there, the format that is accepted, and the format that is passed
  by_formats : Name → Format → Format → Claim
  -- a call with a literal argument, by its name
  by_literals : Name → Claim
  -- a call of a builtin, by its name
  fails : Name → Failure → Claim
  -- a sentence: the number of e. occurrences in its pattern
  open_pattern : ℕ → Claim

-- what a lint says of a sentence or a term, by its record and span
pub record Remark : Type 0 where
  pub subject : Mark
  pub claim : Claim

-- the same, with the function in whose sentence the subject stands: its position from 0, and its name
pub record Finding : Type 0 where
  pub position : ℕ
  pub owner : Name
  pub subject : Mark
  pub claim : Claim

-- ---- the eight words

abbrev pub lint_of : Claim → Lint
lint_of (dead in_block later earlier) = dead_sentence
lint_of (by_formats f accepted passed) = recognition_impossible
lint_of (by_literals f) = recognition_impossible
lint_of (fails f why) = builtin_domain
lint_of (open_pattern n) = open_expressions

-- "For 3: a = 1 two integers wanted, 2 division by zero, 3 digits wanted."
abbrev pub failure_number : Failure → ℕ
failure_number two_integers_wanted = 1
failure_number division_by_zero = 2
failure_number digits_wanted = 3

-- "For 1: a = the later sentence's number, b = the earliest shadowing one's, both from 1. For 2: a = 1 by formats, 2 by literals. [..] For 4: a = number
-- of e. occurrences, brackets included. Else b = 0."
abbrev pub word_a : Claim → ℕ
word_a (dead in_block later earlier) = later
word_a (by_formats f accepted passed) = 1
word_a (by_literals f) = 2
word_a (fails f why) = failure_number why
word_a (open_pattern n) = n

abbrev pub word_b : Claim → ℕ
word_b (dead in_block later earlier) = earlier
word_b (by_formats f accepted passed) = 0
word_b (by_literals f) = 0
word_b (fails f why) = 0
word_b (open_pattern n) = 0

-- the eight words in their order: lint, severity, span, a, b, function position, subject
abbrev pub eight_words : (lint severity span_start span_end a b position subject : ℕ) → List ℕ
eight_words lint severity span_start span_end a b position subject =
    lint ∷ severity ∷ span_start ∷ span_end ∷ a ∷ b ∷ position ∷ subject ∷ []

-- the words of a finding that has this severity
unfoldable pub finding_words : ℕ → Finding → List ℕ
finding_words severity f =
    eight_words (lint_number (lint_of f.claim)) severity f.subject.span_start f.subject.span_end
    (word_a f.claim) (word_b f.claim) f.position f.subject.at

-- ---- the remarks on each function, as findings

abbrev pub finding_in : ℕ → Name → Remark → Finding
finding_in position owner r = record { position = position; owner = owner; subject = r.subject; claim = r.claim }

-- in file order, from a position on
unfoldable pub findings_from : (Function → List Remark) → ℕ → Law → List Finding
findings_from remarks position [] = []
findings_from remarks position (f ∷ fs) = map (finding_in position f.name) (remarks f) ++ findings_from remarks (suc position) fs

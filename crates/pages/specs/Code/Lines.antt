-- A page by the eight words of each finding: they name functions of the law, and say all else that stands in a line.
use Rattle.std.specs.Prelude.{ℕ, zero, suc, ◌+◌, ◌*◌, ◌<◌, get_or}
use mathlib.Core.List.{List, [], ◌∷◌, ◌++◌, flatten}
use Rattle.file.specs.Sections.{File}
use Rattle.law.specs.Text.{bytes_of}
use Rattle.law.specs.Reading.{function_name}
use Rattle.pages.specs.Page.{left, next_field, cut, severity_word, line, page_lines}

-- the word of a lint's number
abbrev pub lint_word_by : ℕ → List ℕ
lint_word_by zero = bytes_of "open"
lint_word_by (suc zero) = bytes_of "dead"
lint_word_by (suc (suc zero)) = bytes_of "no match"
lint_word_by (suc (suc (suc zero))) = bytes_of "builtin"
lint_word_by (suc (suc (suc (suc more)))) = bytes_of "open"

-- the fields of a line that hold words, of the finding whose words begin at a position
abbrev pub word_fields : File → List ℕ → ℕ → List ℕ
word_fields file words at =
    left 24 (cut (function_name file (get_or words (at + 6) 0)).spelled) ++ next_field (left 8 (lint_word_by (get_or words at 0)))
    ++ next_field (left 5 (severity_word (get_or words (at + 1) 0)))

-- its line
abbrev pub line_at : File → List ℕ → ℕ → List ℕ
line_at file words at =
    line (function_name file (get_or words (at + 6) 0)).spelled (lint_word_by (get_or words at 0)) (severity_word (get_or words (at + 1) 0))
    (get_or words (at + 2) 0) (get_or words (at + 3) 0) (get_or words (at + 4) 0)

-- the lines of so many findings from there on
unfoldable pub lines_at : File → List ℕ → ℕ → ℕ → List (List ℕ)
lines_at file words at zero = []
lines_at file words at (suc count) = line_at file words at ∷ lines_at file words (at + 8) count

-- the page of so many
unfoldable pub words_page : File → List ℕ → ℕ → List ℕ
words_page file words count = flatten (page_lines file.functions.count (lines_at file words 0 count))

-- each is of a function of the law
abbrev pub Positions : File → List ℕ → ℕ → Type 0
Positions file words count = (i : ℕ) → i < count → get_or words (8 * i + 6) 0 < file.functions.count

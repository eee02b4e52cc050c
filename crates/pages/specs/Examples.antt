-- Pages by computation. docs/SPECIFICATION.md, 21.
use Rattle.std.specs.Prelude.{ℕ, ◌*◌, false, ◌≡◌, refl, length, drop, replicate}
use Prim.Native.String.{String}
use mathlib.Core.List.{List, [], ◌∷◌, ◌++◌, map, flatten}
use Rattle.buffers.specs.Decimal.{digits_within}
unfoldable pub use Rattle.law.specs.Text.{bytes_of}
use Rattle.law.specs.Tree.{Name}
use Rattle.lints.specs.Finding.{Claim, dead, by_literals, fails, division_by_zero, open_pattern, Finding}
use Rattle.lints.specs.Levels.{Settings, settings_from, override_of, severity_of}
use Rattle.pages.specs.Page.{left, right, line, heading, lines_from, page_lines, page, line_count, page_length}

-- ---- findings of a function that is named so

abbrev named : List ℕ → Name
named spelled = record { start = 0; spelled = spelled }

-- at a span
abbrev found : List ℕ → ℕ → ℕ → Claim → Finding
found owner start end claim = record { position = 0; owner = named owner; subject = record { at = 0; span_start = start; span_end = end }; claim = claim }

-- a sentence of `F` that the first shadows
abbrev second : Finding
second = found (bytes_of "F") 12 20 (dead false 2 1)

abbrev strict : Settings
strict = settings_from 1 []

-- lines of a page, each with its line feed
abbrev printed : List String → List ℕ
printed lines = flatten (map {B = List ℕ} (λ (l : String). bytes_of l ++ 10 ∷ []) lines)

-- ---- one page

-- no findings, in laws of no function, and of 64
abbrev pub Headings : Type 0
Headings =
    (page strict 0 [] ≡ printed ("0                                                                      1" ∷ []))
    × (page strict 64 [] ≡ printed ("64                                                                     1" ∷ []))

-- one of each lint, by the severities that the lints choose
abbrev pub Lints : Type 0
Lints =
    page strict 3 (second ∷ found (bytes_of "G-1") 40 45 (by_literals (named (bytes_of "H"))) ∷ found (bytes_of "Go") 0 9 (fails (named (bytes_of "Div")) division_by_zero)
    ∷ found (bytes_of "F") 12 20 (open_pattern 16) ∷ [])
    ≡ printed (
    "3                                                                      1"
    ∷ "F                        dead     deny          12         20          2"
    ∷ "G-1                      no match deny          40         45          2"
    ∷ "Go                       builtin  deny           0          9          2"
    ∷ "F                        open     allow         12         20         16" ∷ []
    )

-- the other severities, which overrides give
abbrev pub Severities : Type 0
Severities =
    page (settings_from 0 (256 ∷ 1026 ∷ [])) 1 (second ∷ found (bytes_of "F") 12 20 (open_pattern 16) ∷ [])
    ≡ printed (
    "1                                                                      1"
    ∷ "F                        dead     error         12         20          2"
    ∷ "F                        open     warn          12         20         16" ∷ []
    )

-- names of 23, 24, 25 and 64 bytes: the first two whole, of the others 23 bytes
abbrev pub Names : Type 0
Names =
    page strict 4 (map {B = Finding} (λ (name : List ℕ). found name 1 2 (dead false 3 1))
    (replicate 23 65 ∷ replicate 24 66 ∷ replicate 25 67 ∷ replicate 64 68 ∷ []))
    ≡ printed (
    "4                                                                      1"
    ∷ "AAAAAAAAAAAAAAAAAAAAAAA  dead     deny           1          2          3"
    ∷ "BBBBBBBBBBBBBBBBBBBBBBBB dead     deny           1          2          3"
    ∷ "CCCCCCCCCCCCCCCCCCCCCCC+ dead     deny           1          2          3"
    ∷ "DDDDDDDDDDDDDDDDDDDDDDD+ dead     deny           1          2          3" ∷ []
    )

-- spans of ten digits, the largest of a word among them
abbrev pub Spans : Type 0
Spans =
    page strict 1 (found (bytes_of "F") 1000000000 4294967295 (dead false 2 1) ∷ [])
    ≡ printed (
    "1                                                                      1"
    ∷ "F                        dead     deny  1000000000 4294967295          2" ∷ []
    )

-- ---- several pages

-- so many findings that are the same
abbrev many : ℕ → List ℕ
many n = page strict 1 (replicate n second)

abbrev second_line : String
second_line = "F                        dead     deny          12         20          2"

-- 59 findings have one page, of 60 lines; 60 have two, the second with one line under its heading; 118 fill two, and 119 begin a third
abbrev pub Pages : Type 0
Pages =
    (many 59 ≡ printed ("1                                                                      1" ∷ replicate 59 second_line))
    × (many 60
    ≡ printed ("1                                                                      1" ∷ replicate 59 second_line)
    ++ printed ("1                                                                      2" ∷ second_line ∷ []))
    × (many 118
    ≡ printed ("1                                                                      1" ∷ replicate 59 second_line)
    ++ printed ("1                                                                      2" ∷ replicate 59 second_line))
    × (drop (120 * 73) (many 119)
    ≡ printed ("1                                                                      3" ∷ second_line ∷ []))

-- the lines and the bytes of 0, 1, 59, 60 and 256 findings
abbrev pub Lengths : Type 0
Lengths =
    (line_count 0 ≡ 1) × (line_count 1 ≡ 2) × (line_count 59 ≡ 60) × (line_count 60 ≡ 62) × (line_count 256 ≡ 261)
    × (page_length 0 ≡ 73) × (page_length 256 ≡ 19053) × (length (many 256) ≡ 19053)

pub examples : Headings × Lints × Severities × Names × Spans × Pages × Lengths
unfolding bytes_of digits_within override_of severity_of flatten left right line heading lines_from page_lines page
examples = (
  (refl, refl),
  refl,
  refl,
  refl,
  refl,
  (refl, refl, refl, refl),
  (refl, refl, refl, refl, refl, refl, refl, refl),
)

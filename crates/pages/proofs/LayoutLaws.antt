-- How a page is laid out: every line has 72 columns and a line feed, headings stand just 60 lines apart, and the number of lines and bytes is a function
-- of the number of findings alone.
use Prim.Native.Nat.{ℕ, zero, suc, ◌+◌, ◌*◌, ◌-◌, ◌/◌, ◌%◌, ◌≤◌, ◌<◌}
use mathlib.Core.Bool.{Bool, true, false}
use mathlib.Core.List.{List, [], ◌∷◌, ◌++◌, map, flatten, Memᴰ}
use mathlib.Core.Path.{◌≡◌, refl, ◌∙◌}
use native.Mathlib.Omega.{arith}
use native.Mathlib.Decide.{dec_le}
use borrow.Author.Tests.{eqb-true, eqb-false}
use lib.Dec.{eqb}
use lib.ListN.{length, get_or, length-append, length-map}
use Rattle.lints.specs.Finding.{Finding, lint_of, word_a}
use Rattle.lints.specs.Levels.{Settings, severity_of}
use Rattle.pages.specs.Page.{Line, lint_word, severity_word, finding_line, heading, heading_before, lines_from, page_lines, page, line_count, page_length}
use Rattle.pages.proofs.LineLaws.{line_length, finding_columns, heading_columns}

-- each of these is a line
abbrev pub Lines : List (List ℕ) → Type 0
Lines [] = Unit
Lines (l ∷ ls) = Line l × Lines ls

-- a heading stands before the finding at a position, or none does
pub data Headed (functions i : ℕ) : Type 0 where
  headed : i % 59 ≡ 0 → heading_before functions i ≡ heading functions (suc (i / 59)) ∷ [] → Headed functions i
  bare : (i % 59 ≡ 0 → ⊥) → heading_before functions i ≡ [] → Headed functions i

is_headed : (functions i : ℕ) → Headed functions i
is_headed functions i = go (eqb (i % 59) 0) refl
  where
    go : (b : Bool) → eqb (i % 59) 0 ≡ b → Headed functions i
    go true e = headed (eqb-true (i % 59) 0 e) (rw e)
    go false e = bare (eqb-false (i % 59) 0 e) (rw e)

-- ---- the headings that are counted, by a finding's position

headed_now : (i : ℕ) → i % 59 ≡ 0 → (i + 58) / 59 ≡ i / 59
headed_now i z = omega (arith, z)

headed_next : (i : ℕ) → i % 59 ≡ 0 → (suc i + 58) / 59 ≡ suc (i / 59)
headed_next i z = omega (arith, z)

bare_same : (i : ℕ) → (i % 59 ≡ 0 → ⊥) → (i + 58) / 59 ≡ (suc i + 58) / 59
bare_same i z = omega (arith, z)

same_place : (i j : ℕ) → (suc i + j) / 59 ≡ (i + suc j) / 59
same_place i j = omega arith

two_before : (place j a q : ℕ) → a ≤ q → place + a ≡ suc j + suc q → (place ≡ suc (suc (place - 2))) × (place - 2 + suc a ≡ j + suc q)
two_before place j a q h e = (omega (arith, h, e), omega (arith, h, e))

one_before : (place j a q : ℕ) → a ≤ suc q → place + a ≡ suc j + suc q → (place ≡ suc (place - 1)) × (place - 1 + a ≡ j + suc q)
one_before place j a q h e = (omega (arith, h, e), omega (arith, h, e))

module _ (functions : ℕ) where
  -- ---- lines

  lines_from_lem : (i : ℕ) (ls : List (List ℕ)) → Lines ls → Lines (lines_from functions i ls)
  unfolding lines_from
  lines_from_lem i [] h = tt
  lines_from_lem i (l ∷ ls) (h, more) = go (is_headed functions i) (lines_from_lem (suc i) ls more)
    where
      go : Headed functions i → Lines (lines_from functions (suc i) ls) → Lines (heading_before functions i ++ l ∷ lines_from functions (suc i) ls)
      go (headed z e) rest = rw e (heading_columns functions (suc (i / 59)), (h, rest))
      go (bare z e) rest = rw e (h, rest)

  pub all_lines : (ls : List (List ℕ)) → Lines ls → Lines (page_lines functions ls)
  unfolding page_lines
  all_lines [] h = (heading_columns functions 1, tt)
  all_lines (l ∷ ls) h = lines_from_lem 0 (l ∷ ls) h

  -- ---- their number

  count_from : (i : ℕ) (ls : List (List ℕ)) → length (lines_from functions i ls) + (i + 58) / 59 ≡ length ls + (i + length ls + 58) / 59
  unfolding lines_from
  count_from i [] = let same : i + 0 + 58 ≡ i + 58 = omega arith in omega arith
  count_from i (l ∷ ls) = go (is_headed functions i) (count_from (suc i) ls)
    where
      go : Headed functions i → length (lines_from functions (suc i) ls) + (suc i + 58) / 59 ≡ length ls + (suc i + length ls + 58) / 59
          → length (heading_before functions i ++ l ∷ lines_from functions (suc i) ls) + (i + 58) / 59 ≡ suc (length ls) + (i + suc (length ls) + 58) / 59
      go (headed z e) h = rw e (omega (arith, z, h))
      go (bare z e) h = rw e (omega (arith, z, h))

  pub line_count_lem : (ls : List (List ℕ)) → length (page_lines functions ls) ≡ line_count (length ls)
  unfolding page_lines
  line_count_lem [] = refl
  line_count_lem (l ∷ ls) = omega (arith, count_from 0 (l ∷ ls))

  -- ---- where headings and findings stand

  -- the line at a position, where two lines or one come before the rest
  after_two : (a b : List ℕ) (ls : List (List ℕ)) (n k : ℕ) → n ≡ suc (suc k) → get_or (a ∷ b ∷ ls) n [] ≡ get_or ls k []
  after_two a b ls n k e = rw e

  after_one : (a : List ℕ) (ls : List (List ℕ)) (n k : ℕ) → n ≡ suc k → get_or (a ∷ ls) n [] ≡ get_or ls k []
  after_one a ls n k e = rw e

  -- `place` lines and headings come before a line: they were counted from the finding at `i` on
  finding_from : (i : ℕ) (ls : List (List ℕ)) (j place : ℕ) → j < length ls → place + (i + 58) / 59 ≡ j + suc ((i + j) / 59)
      → get_or (lines_from functions i ls) place [] ≡ get_or ls j []
  unfolding lines_from
  finding_from i [] j place less e = absurd (omega (arith, less))
  finding_from i (l ∷ ls) zero place less e = go (is_headed functions i)
    where
      go : Headed functions i → get_or (heading_before functions i ++ l ∷ lines_from functions (suc i) ls) place [] ≡ l
      go (headed z is) = let at : place ≡ 1 = omega (arith, z, e) in rw (is, at)
      go (bare z is) = let at : place ≡ 0 = omega (arith, z, e) in rw (is, at)
  finding_from i (l ∷ ls) (suc j) place less e = go (is_headed functions i) (λ k h. finding_from (suc i) ls j k (omega (arith, less)) h)
    where
      go : Headed functions i → ((k : ℕ) → k + (suc i + 58) / 59 ≡ j + suc ((suc i + j) / 59) → get_or (lines_from functions (suc i) ls) k [] ≡ get_or ls j [])
          → get_or (heading_before functions i ++ l ∷ lines_from functions (suc i) ls) place [] ≡ get_or ls j []
      go (headed z is) next =
          let (two, rest) = two_before place j (i / 59) ((i + suc j) / 59) (omega arith) (rw (headed_now i z) at e) in
          rw is (after_two (heading functions (suc (i / 59))) l (lines_from functions (suc i) ls) place (place - 2) two
          ∙ next (place - 2) (rw (headed_next i z, same_place i j) rest))
      go (bare z is) next =
          let (one, rest) = one_before place j ((suc i + 58) / 59) ((i + suc j) / 59) (omega (arith, z)) (rw (bare_same i z) at e) in
          rw is (after_one l (lines_from functions (suc i) ls) place (place - 1) one ∙ next (place - 1) (rw (same_place i j) rest))

  -- the heading before the finding 59 × k
  heading_from : (i : ℕ) (ls : List (List ℕ)) (k place : ℕ) → i ≤ 59 * k → 59 * k < i + length ls → place + i + (i + 58) / 59 ≡ 59 * k + k
      → get_or (lines_from functions i ls) place [] ≡ heading functions (suc k)
  unfolding lines_from
  heading_from i [] k place from less e = absurd (omega (arith, from, less))
  heading_from i (l ∷ ls) k place from less e = go (is_headed functions i) (λ n h f. heading_from (suc i) ls k n f (omega (arith, less)) h)
    where
      Next : Type 0
      Next = (n : ℕ) → n + suc i + (suc i + 58) / 59 ≡ 59 * k + k → suc i ≤ 59 * k → get_or (lines_from functions (suc i) ls) n [] ≡ heading functions (suc k)

      here : i % 59 ≡ 0 → heading_before functions i ≡ heading functions (suc (i / 59)) ∷ [] → Next → Dec (59 * k ≤ i)
          → get_or (heading_before functions i ++ l ∷ lines_from functions (suc i) ls) place [] ≡ heading functions (suc k)
      here z is next (yes h) =
          let at : place ≡ 0 = omega (arith, z, e, from, h) in
          let number : i / 59 ≡ k = omega (arith, z, from, h) in
          rw (is, at, number)
      here z is next (no h) =
          rw is (after_two (heading functions (suc (i / 59))) l (lines_from functions (suc i) ls) place (place - 2) (omega (arith, z, e, h))
          ∙ next (place - 2) (omega (arith, z, e, h)) (omega (arith, h)))

      go : Headed functions i → Next → get_or (heading_before functions i ++ l ∷ lines_from functions (suc i) ls) place [] ≡ heading functions (suc k)
      go (headed z is) next = here z is next (dec_le (59 * k) i)
      go (bare z is) next =
          rw is (after_one l (lines_from functions (suc i) ls) place (place - 1) (omega (arith, z, e, from)) ∙ next (place - 1) (omega (arith, z, e, from)) (omega (arith, z, from)))

  -- every page but the last has 60 lines: the first of each, counted from 0, is its heading, and the 59 lines under it are the next findings'
  pub heading_at : (ls : List (List ℕ)) (k : ℕ) → 60 * k < length (page_lines functions ls) → get_or (page_lines functions ls) (60 * k) [] ≡ heading functions (suc k)
  unfolding page_lines
  heading_at [] k less = let first : k ≡ 0 = omega (arith, less) in rw first
  heading_at (l ∷ ls) k less =
      heading_from 0 (l ∷ ls) k (60 * k) (omega arith) (omega (arith, less, count_from 0 (l ∷ ls))) (omega arith)

  pub finding_at : (ls : List (List ℕ)) (k j : ℕ) → j < 59 → 59 * k + j < length ls
      → get_or (page_lines functions ls) (60 * k + suc j) [] ≡ get_or ls (59 * k + j) []
  unfolding page_lines
  finding_at [] k j under less = absurd (omega (arith, less))
  finding_at (l ∷ ls) k j under less = finding_from 0 (l ∷ ls) (59 * k + j) (60 * k + suc j) less (omega (arith, under))

-- ---- bytes

bytes_of : (ls : List (List ℕ)) → Lines ls → length (flatten ls) ≡ 73 * length ls
unfolding flatten
bytes_of [] h = refl
bytes_of (l ∷ ls) (h, more) = omega (arith, length-append l (flatten ls), line_length h, bytes_of ls more)

pub page_bytes : (functions : ℕ) (ls : List (List ℕ)) → Lines ls → length (flatten (page_lines functions ls)) ≡ page_length (length ls)
page_bytes functions ls h = omega (arith, bytes_of (page_lines functions ls) (all_lines functions ls h), line_count_lem functions ls)

-- ---- a listing's page

finding_lines : (settings : Settings) (fs : List Finding) → Lines (map (finding_line settings) fs)
finding_lines settings [] = tt
finding_lines settings (f ∷ fs) = (
  finding_columns f.owner.spelled (lint_word (lint_of f.claim)) (severity_word (severity_of settings (lint_of f.claim))) f.subject.span_start
      f.subject.span_end (word_a f.claim),
  finding_lines settings fs,
)

line_in : (ls : List (List ℕ)) → Lines ls → (l : List ℕ) → Memᴰ l ls → Line l
line_in [] _ l m = elim m [ ]
line_in (x ∷ ls) (h, more) l (Memᴰ.head e) = rw e h
line_in (x ∷ ls) (h, more) l (Memᴰ.tail m) = line_in ls more l m

-- every line has 72 columns and a line feed
pub every_line : (settings : Settings) (functions : ℕ) (findings : List Finding) (l : List ℕ)
    → Memᴰ l (page_lines functions (map (finding_line settings) findings)) → Line l
every_line settings functions findings l m =
    line_in (page_lines functions (map (finding_line settings) findings))
    (all_lines functions (map (finding_line settings) findings) (finding_lines settings findings)) l m

-- the number of bytes is a function of the number of findings alone
pub page_length_lem : (settings : Settings) (functions : ℕ) (findings : List Finding) → length (page settings functions findings) ≡ page_length (length findings)
unfolding page
page_length_lem settings functions findings =
    rw (length-map findings (finding_line settings)) at (page_bytes functions (map (finding_line settings) findings) (finding_lines settings findings))

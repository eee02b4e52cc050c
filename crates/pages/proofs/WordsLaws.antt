-- The page by the words of findings is the page of these findings.
use Prim.Native.Nat.{ℕ, zero, suc, ◌+◌, ◌*◌, ◌<◌}
use mathlib.Core.List.{List, [], ◌∷◌, ◌++◌, map, flatten, Memᴰ}
use mathlib.Core.Path.{◌≡◌, refl, sym, ap, ◌∙◌}
use native.Mathlib.Omega.{arith}
use native.Mathlib.Nat.{add-zero}
use lib.ListN.{length, drop, get_or}
use lib.Seq.{get_or-drop, drop-drop}
use Rattle.file.specs.Sections.{File}
use Rattle.law.specs.Reading.{function_name}
use Rattle.lints.specs.Lint.{Lint, dead_sentence, recognition_impossible, builtin_domain, open_expressions, lint_number}
use Rattle.lints.specs.Finding.{Finding, lint_of, word_a, finding_words}
use Rattle.lints.specs.Levels.{Settings, severity_of, listing_words}
use Rattle.lints.proofs.Owners.{Owned}
use Rattle.pages.specs.Page.{Line, lint_word, severity_word, finding_line, page_lines, page, page_length}
use Rattle.pages.specs.Code.Lines.{lint_word_by, line_at, lines_at, words_page, Positions}
use Rattle.pages.proofs.LayoutLaws.{Lines, page_bytes}
use Rattle.pages.proofs.LineLaws.{finding_columns}

lint_word_lem : (l : Lint) → lint_word_by (lint_number l) ≡ lint_word l
lint_word_lem dead_sentence = refl
lint_word_lem recognition_impossible = refl
lint_word_lem builtin_domain = refl
lint_word_lem open_expressions = refl

-- ---- how long it is

module _ (file : File) (words : List ℕ) where
  lines_there : (at count : ℕ) → Lines (lines_at file words at count) × (length (lines_at file words at count) ≡ count)
  unfolding lines_at
  lines_there at zero = (tt, refl)
  lines_there at (suc count) =
      let (more, number) = lines_there (at + 8) count in
      ((line_there at, more), ap suc number)
    where
      line_there : (at : ℕ) → Line (line_at file words at)
      line_there at =
          finding_columns (function_name file (get_or words (at + 6) 0)).spelled (lint_word_by (get_or words at 0)) (severity_word (get_or words (at + 1) 0))
          (get_or words (at + 2) 0) (get_or words (at + 3) 0) (get_or words (at + 4) 0)

  pub words_length : (count : ℕ) → length (words_page file words count) ≡ page_length count
  unfolding words_page
  words_length count =
      let (lines, number) = lines_there 0 count in
      rw number at (page_bytes file.functions.count (lines_at file words 0 count) lines)

-- ---- findings by their words

module _ (file : File) (settings : Settings) (words : List ℕ) where
  -- the words from a position on are those of a finding, and others
  abbrev Found : ℕ → Finding → List ℕ → Type 0
  Found at f more = drop at words ≡ finding_words (severity_of settings (lint_of f.claim)) f ++ more

  word_at_lem : (at k word : ℕ) (rest : List ℕ) → drop at words ≡ rest → get_or rest k 0 ≡ word → get_or words (at + k) 0 ≡ word
  word_at_lem at k word rest e is = sym (get_or-drop at words k 0) ∙ ap (λ r. get_or r k 0) e ∙ is

  one_line : (at : ℕ) (f : Finding) (more : List ℕ) → Found at f more → Owned file f → line_at file words at ≡ finding_line settings f
  unfolding finding_words
  one_line at f more e (inside, owner) =
      let rest : List ℕ = finding_words (severity_of settings (lint_of f.claim)) f ++ more in
      let lint : get_or words at 0 ≡ lint_number (lint_of f.claim) = rw (add-zero at) at (word_at_lem at 0 (lint_number (lint_of f.claim)) rest e refl) in
      rw (
        lint,
        word_at_lem at 1 (severity_of settings (lint_of f.claim)) rest e refl,
        word_at_lem at 2 f.subject.span_start rest e refl,
        word_at_lem at 3 f.subject.span_end rest e refl,
        word_at_lem at 4 (word_a f.claim) rest e refl,
        word_at_lem at 6 f.position rest e refl,
        owner,
        lint_word_lem (lint_of f.claim),
      )

  -- what stands after a finding's words
  past_one : (at : ℕ) (f : Finding) (more : List ℕ) → Found at f more → drop (at + 8) words ≡ more
  unfolding finding_words
  past_one at f more e = sym (drop-drop 8 at words) ∙ ap (λ r. drop 8 r) e

  abbrev AllOwned : List Finding → Type 0
  AllOwned fs = (f : Finding) → Memᴰ f fs → Owned file f

  lines_are : (at : ℕ) (fs : List Finding) (after : List ℕ) → drop at words ≡ listing_words settings fs ++ after → AllOwned fs
      → lines_at file words at (length fs) ≡ map (finding_line settings) fs
  unfolding lines_at listing_words finding_words
  lines_are at [] after e owned = refl
  lines_are at (f ∷ fs) after e owned =
      let found : Found at f (listing_words settings fs ++ after) = e in
      rw (
        one_line at f (listing_words settings fs ++ after) found (owned f (Memᴰ.head refl)),
        lines_are (at + 8) fs after (past_one at f (listing_words settings fs ++ after) found) (λ g m. owned g (Memᴰ.tail m)),
      )

  positions_from : (at : ℕ) (fs : List Finding) (after : List ℕ) → drop at words ≡ listing_words settings fs ++ after → AllOwned fs
      → (i : ℕ) → i < length fs → get_or words (at + (8 * i + 6)) 0 < file.functions.count
  unfolding listing_words finding_words
  positions_from at [] after e owned i less = absurd (omega (arith, less))
  positions_from at (f ∷ fs) after e owned zero less =
      let rest : List ℕ = finding_words (severity_of settings (lint_of f.claim)) f ++ (listing_words settings fs ++ after) in
      rw (word_at_lem at 6 f.position rest e refl) (owned f (Memᴰ.head refl)).0
  positions_from at (f ∷ fs) after e owned (suc i) less =
      let place : at + (8 * suc i + 6) ≡ at + 8 + (8 * i + 6) = omega arith in
      rw place (positions_from (at + 8) fs after (past_one at f (listing_words settings fs ++ after) e) (λ g m. owned g (Memᴰ.tail m)) i (omega (arith, less)))

  module _ (fs : List Finding) (after : List ℕ) (e : words ≡ listing_words settings fs ++ after) (owned : AllOwned fs) where
    pub words_page_lem : words_page file words (length fs) ≡ page settings file.functions.count fs
    unfolding words_page page
    words_page_lem = ap (λ ls. flatten (page_lines file.functions.count ls)) (lines_are 0 fs after e owned)

    pub positions : Positions file words (length fs)
    positions i less =
        let place : 0 + (8 * i + 6) ≡ 8 * i + 6 = omega arith in
        rw place at (positions_from 0 fs after e owned i less)

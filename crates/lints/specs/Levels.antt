-- Settings: the mode and the overrides of severities, and the level and mode steps of `check_program_with_levels`.
-- docs/SPECIFICATION.md, 9.1 to 9.5, 10.1, 10.2.
use Rattle.std.specs.Prelude.{ℕ, ◌/◌, ◌%◌, Bool, true, false, not, cond, ◌&&◌, List, [], ◌∷◌, map, length, eqb, leb}
use Rattle.std.proofs.Math.Option.{Option, none, some}
use Rattle.names.specs.Name.{between}
use Rattle.matching.specs.Match.{when, each}
use Rattle.lints.specs.Lint.{Lint, lint_number, last_lint, allow, own_severity}
use Rattle.lints.specs.Finding.{Finding, lint_of, finding_words}

-- a lint's number, and the severity that it is given
pub record Override : Type 0 where
  pub lint : ℕ
  pub severity : ℕ

-- mode: 0 classic, 1 strict
pub record Settings : Type 0 where
  pub mode : ℕ
  pub overrides : List Override

-- an override is lent as one word: 256 × lint + severity. Each word is one override, and refusal 14 turns back all words that mean nothing.
abbrev pub override_from : ℕ → Override
override_from word = record { lint = word / 256; severity = word % 256 }

abbrev pub settings_from : ℕ → List ℕ → Settings
settings_from mode words = record { mode = mode; overrides = map override_from words }

-- refusal 14: "mode not 0 or 1, over 8 overrides, lint not 1–4, severity not 0–3"
unfoldable pub overrides_allowed : List Override → Bool
overrides_allowed [] = true
overrides_allowed (o ∷ os) = between 1 last_lint o.lint && leb o.severity allow && overrides_allowed os

unfoldable pub settings_allowed : Settings → Bool
settings_allowed s = leb s.mode 1 && leb (length s.overrides) 8 && overrides_allowed s.overrides

-- "The first override of a lint wins"
unfoldable pub override_of : List Override → Lint → Option ℕ
override_of [] l = none
override_of (o ∷ os) l = cond (eqb o.lint (lint_number l)) (some o.severity) (override_of os l)

abbrev pub severity_by : Option ℕ → Lint → ℕ
severity_by none l = own_severity l
severity_by (some severity) l = severity

unfoldable pub severity_of : Settings → Lint → ℕ
severity_of s l = severity_by (override_of s.overrides l) l

-- "an override of 3 hides it; classic mode (0) hides severity 3, strict (1) does not"
abbrev pub hidden_by : Option ℕ → Bool
hidden_by none = false
hidden_by (some severity) = eqb severity allow

unfoldable pub is_shown : Settings → Lint → Bool
is_shown s l = not (hidden_by (override_of s.overrides l)) && not (eqb s.mode 0 && eqb (severity_of s l) allow)

-- the findings that are shown, in their order
unfoldable pub shown : Settings → List Finding → List Finding
shown s fs = each (λ (f : Finding). when (is_shown s (lint_of f.claim)) (f ∷ [])) fs

-- the words of findings, eight each
unfoldable pub listing_words : Settings → List Finding → List ℕ
listing_words s fs = each (λ (f : Finding). finding_words (severity_of s (lint_of f.claim)) f) fs

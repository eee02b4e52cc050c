-- Laws of settings, as the code goes through the overrides.
use Prim.Native.Nat.{ℕ, ◌+◌, ◌/◌, ◌%◌, ◌≤◌, ◌<◌}
use mathlib.Core.Bool.{Bool, true, false, not, ◌&&◌}
use mathlib.Core.List.{List, [], ◌∷◌, map}
use mathlib.Core.Option.{none, some}
use mathlib.Core.Path.{◌≡◌, refl, sym, ap, ◌∙◌}
use native.Mathlib.Numerals.{add-one}
use borrow.Author.Tests.{eq-eqb, ne_eqb}
use Rattle.std.proofs.lemmas.List.{length-map}
use lib.ListN.{length, drop, get_or, drop_of_length-le}
use lib.Seq.{drop-cons}
use lib.Dec.{eqb, leb}
use Rattle.lints.specs.Lint.{Lint, lint_number, allow}
use Rattle.lints.specs.Levels.{override_from, settings_from, overrides_allowed, settings_allowed, override_of}
use denote.Enum.Bare.{sameb}
use Rattle.lints.specs.contracts.levels.Severity.{the_type}
use Rattle.lints.specs.declared.levels.Severity.{Severity}
use Rattle.lints.specs.declared.levels.Severity.TheVariants.{Error, Deny, Warn, Allow}
use Rattle.lints.specs.Code.Overrides.{override_allowed, severity_number}
use Rattle.std.specs.List.{list_all}

-- ---- refusal 14

pub allowed_all : (words : List ℕ) → list_all (λ w. override_allowed (override_from w)) words ≡ overrides_allowed (map override_from words)
unfolding overrides_allowed
allowed_all [] = refl
allowed_all (w ∷ ws) = ap (λ b. override_allowed (override_from w) && b) (allowed_all ws)

pub settings_test : (mode : ℕ) (words : List ℕ)
    → leb mode 1 && leb (length words) 8 && overrides_allowed (map override_from words) ≡ settings_allowed (settings_from mode words)
unfolding settings_allowed
settings_test mode words = rw length-map

-- ---- the first override of a lint

-- what the overrides say of a lint is what those from a position on say
pub record LevelFrom (words : List ℕ) (l : Lint) (i : ℕ) : Type 0 where
  pub left : override_of (map override_from words) l ≡ override_of (map override_from (drop i words)) l

pub level_start : (words : List ℕ) (l : Lint) → LevelFrom words l 0
level_start words l = record { left = refl }

module _ {words : List ℕ} {l : Lint} {i : ℕ} (h : LevelFrom words l i) where
  pub level_next : i < length words → (get_or words i 0 / 256 ≡ lint_number l → ⊥) → LevelFrom words l (i + 1)
  unfolding override_of
  level_next more q = record { left = h.left ∙ rw (drop-cons words i 0 more, add-one, ne_eqb (get_or words i 0 / 256) (lint_number l) q) }

  pub level_found : i < length words → get_or words i 0 / 256 ≡ lint_number l
      → some (get_or words i 0 % 256) ≡ override_of (map override_from words) l
  unfolding override_of
  level_found more q = sym (h.left ∙ rw (drop-cons words i 0 more, eq-eqb (get_or words i 0 / 256) (lint_number l) q))

  pub level_end : length words ≤ i → none ≡ override_of (map override_from words) l
  unfolding override_of
  level_end more = sym (h.left ∙ rw (drop_of_length-le words {i = i} more))

-- ---- severities

-- the derived test of a severity is that of its number
pub allow_same : (severity : Severity) → sameb the_type severity Allow ≡ eqb (severity_number severity) allow
allow_same Error = refl
allow_same Deny = refl
allow_same Warn = refl
allow_same Allow = refl

-- an override alone decides
pub said_shown : (a b : Bool) → not a ≡ not a && not (b && a)
said_shown true b = refl
said_shown false true = refl
said_shown false false = refl

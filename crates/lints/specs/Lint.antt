-- The lints with their numbers and severities, in one table. Document 01, "The listing": "lint (1 dead, 2 recognition, 3 builtin, 4 open), severity
-- (0 error, 1 deny, 2 warn, 3 allow)".
-- docs/SPECIFICATION.md, 8.1.
use Rattle.std.specs.Prelude.{ℕ, List, [], ◌∷◌}

pub data Lint : Type 0 where
  dead_sentence recognition_impossible builtin_domain open_expressions : Lint

abbrev pub lint_number : Lint → ℕ
lint_number dead_sentence = 1
lint_number recognition_impossible = 2
lint_number builtin_domain = 3
lint_number open_expressions = 4

-- all of them, by their numbers from 1 on: what is listed and what is done goes by this order
abbrev pub lints : List Lint
lints = dead_sentence ∷ recognition_impossible ∷ builtin_domain ∷ open_expressions ∷ []

-- the number of the last
abbrev pub last_lint : ℕ
last_lint = 4

abbrev pub deny : ℕ
deny = 1

-- the last of the severities, which are numbered from 0
abbrev pub allow : ℕ
allow = 3

-- the severity that a lint itself chooses
abbrev pub own_severity : Lint → ℕ
own_severity dead_sentence = deny
own_severity recognition_impossible = deny
own_severity builtin_domain = deny
own_severity open_expressions = allow

-- Lint 3, `builtin_domains`: calls of builtins whose literal arguments make failure certain.
-- docs/SPECIFICATION.md, 8.7, 8.8.
use Rattle.std.specs.Prelude.{ℕ, Bool, true, false, cond, ◌&&◌, ◌||◌, List, [], ◌∷◌, eqb}
use Rattle.std.proofs.Math.Option.{Option, none, some}
use Rattle.names.specs.Name.{same_bytes, digit_byte, every_byte}
use Rattle.numbers.specs.Value.{value_of, is_macrodigit}
use Rattle.law.specs.Text.{bytes_of}
use Rattle.law.specs.Tree.{character, identifier, number, Run, empty, symbol, variable, bracket, call, block, Sentences, Function, Law}
use Rattle.law.specs.Definition.{definition}
use Rattle.matching.specs.Match.{when, each}
use Rattle.lints.specs.Finding.{Failure, two_integers_wanted, division_by_zero, digits_wanted, fails, Remark, Finding, findings_from}
use Rattle.lints.specs.Calls.{Call, callee, sentence_calls}

-- ---- two integers: `ADD`, `SUB`, `MUL`, `DIV`, `MOD`, `DIVMOD`, `COMPARE`
-- As the Rust says: "an integer operand is an optional sign symbol followed by one or more macrodigit literals"; the first operand is one macrodigit with its sign, the
-- rest is the second. Nothing is decided where there is anything else.

-- something before what was found, if anything was
abbrev pub cons_found : ℕ → Option (List ℕ) → Option (List ℕ)
cons_found n none = none
cons_found n (some ns) = some (n ∷ ns)

-- the macrodigits of a run of numbers
unfoldable pub macrodigits : Run → Option (List ℕ)
macrodigits empty = some []
macrodigits (symbol (character c) after) = none
macrodigits (symbol (identifier i) after) = none
macrodigits (symbol (number n) after) = cond (is_macrodigit (value_of n.spelled)) (cons_found (value_of n.spelled) (macrodigits after)) none
macrodigits (variable k i after) = none
macrodigits (bracket inside after) = none
macrodigits (call m f inside after) = none
macrodigits (block m inside ss after) = none

-- `-` and `+`
abbrev pub is_sign : ℕ → Bool
is_sign c = eqb c 45 || eqb c 43

-- a run without the sign that it may begin with
unfoldable pub unsigned : Run → Run
unsigned empty = empty
unsigned (symbol (character c) after) = cond (is_sign c) after (symbol (character c) after)
unsigned (symbol (identifier i) after) = symbol (identifier i) after
unsigned (symbol (number n) after) = symbol (number n) after
unsigned (variable k i after) = variable k i after
unsigned (bracket inside after) = bracket inside after
unsigned (call m f inside after) = call m f inside after
unsigned (block m inside ss after) = block m inside ss after

unfoldable pub all_zero : List ℕ → Bool
all_zero [] = true
all_zero (n ∷ ns) = eqb n 0 && all_zero ns

-- the second operand's macrodigits, of a function that divides or not
abbrev pub second_fails : Bool → Option (List ℕ) → Option Failure
second_fails divides none = none
second_fails divides (some []) = some two_integers_wanted
second_fails divides (some (n ∷ ns)) = cond (divides && all_zero (n ∷ ns)) (some division_by_zero) none

-- the argument after the first operand's sign; where there is nothing, there is no second operand either
unfoldable pub first_fails : Bool → Run → Option Failure
first_fails divides empty = some two_integers_wanted
first_fails divides (symbol (character c) after) = none
first_fails divides (symbol (identifier i) after) = none
first_fails divides (symbol (number n) after) = cond (is_macrodigit (value_of n.spelled)) (second_fails divides (macrodigits (unsigned after))) none
first_fails divides (variable k i after) = none
first_fails divides (bracket inside after) = none
first_fails divides (call m f inside after) = none
first_fails divides (block m inside ss after) = none

abbrev pub integers_fail : Bool → Run → Option Failure
integers_fail divides argument = first_fails divides (unsigned argument)

-- ---- digits: `NUMB`

-- the characters of a run of characters
unfoldable pub characters_of : Run → Option (List ℕ)
characters_of empty = some []
characters_of (symbol (character c) after) = cons_found c (characters_of after)
characters_of (symbol (identifier i) after) = none
characters_of (symbol (number n) after) = none
characters_of (variable k i after) = none
characters_of (bracket inside after) = none
characters_of (call m f inside after) = none
characters_of (block m inside ss after) = none

-- one digit or more, and nothing else
abbrev pub digits_fail : Option (List ℕ) → Option Failure
digits_fail none = none
digits_fail (some []) = some digits_wanted
digits_fail (some (c ∷ cs)) = cond (every_byte digit_byte (c ∷ cs)) none (some digits_wanted)

-- ---- the lint

-- what the builtin of a folded name asks of its argument
pub data Domain : Type 0 where
  -- two integers, of which the second may not be zero (true) or may (false)
  integers : Bool → Domain
  digits : Domain
  -- no builtin that the lint knows
  anything : Domain

-- builtins by folded name
abbrev pub builtins : List (List ℕ × Domain)
builtins =
    (bytes_of "ADD", integers false)
    ∷ (bytes_of "SUB", integers false)
    ∷ (bytes_of "MUL", integers false)
    ∷ (bytes_of "DIV", integers true)
    ∷ (bytes_of "MOD", integers true)
    ∷ (bytes_of "DIVMOD", integers true)
    ∷ (bytes_of "COMPARE", integers false)
    ∷ (bytes_of "NUMB", digits)
    ∷ []

unfoldable pub domain_in : List (List ℕ × Domain) → List ℕ → Domain
domain_in [] f = anything
domain_in (b ∷ bs) f = cond (same_bytes b.0 f) b.1 (domain_in bs f)

abbrev pub failure : Domain → Run → Option Failure
failure (integers divides) argument = integers_fail divides argument
failure digits argument = digits_fail (characters_of argument)
failure anything argument = none

-- the lint's door: is a call looked at, given what the law itself defines under its name? "builtin findings ignore a law's own `Add`": always
abbrev pub looked_at : Option Sentences → Bool
looked_at own = true

abbrev pub failed : Call → Option Failure → List Remark
failed c none = []
failed c (some why) = record { subject = c.mark; claim = fails c.name why } ∷ []

unfoldable pub builtin_on : Law → Call → List Remark
builtin_on law c = when (looked_at (definition law (callee c))) (failed c (failure (domain_in builtins (callee c)) c.argument))

unfoldable pub builtin_remarks : Law → Function → List Remark
builtin_remarks law f = each (builtin_on law) (sentence_calls f.sentences)

unfoldable pub builtin_findings : Law → List Finding
builtin_findings law = findings_from (builtin_remarks law) 0 law

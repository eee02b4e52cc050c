-- What the code of lints 3 and 4 promises of one part of the term records.
use Rattle.std.specs.Prelude.{ℕ, Bool, cond, List, ◌≡◌, take, drop, eqb, Option, Some, None}
use Rattle.std.proofs.Math.Option as math
use Rattle.names.specs.Name.{digit_byte}
use Rattle.numbers.specs.Value.{value_of, is_macrodigit}
use Rattle.file.specs.declared.Symbol.{Symbol}
use Rattle.file.specs.declared.Symbol.TheVariants.{Character, Identifier, Number}
use Rattle.file.specs.declared.Term.{Term}
use Rattle.file.specs.declared.Term.TheVariants.{Symbol as Symbolic, SVariable, TVariable, EVariable, Bracket, Call, Block}
use Rattle.law.specs.Tree.{Run, no_sentence}
use Rattle.law.specs.Runs.{term_forest}
use Rattle.law.specs.Reading.{forest_run}
use Rattle.lints.specs.Finding.{Failure, two_integers_wanted, division_by_zero, digits_wanted}
use Rattle.lints.specs.Builtin.{macrodigits, is_sign, unsigned, first_fails, Domain, integers, digits, anything}
use Rattle.lints.specs.declared.builtin.Failure as answers
use Rattle.lints.specs.declared.builtin.Domain as domains
use Rattle.lints.specs.declared.builtin.Operand as operands

-- A part as a run: a pattern or a call's argument. These lints look neither at records' numbers nor at blocks' sentences, so that numbers start at 0
-- and blocks have no sentences.
abbrev pub argument_of : List ℕ → List ℕ → Run
argument_of text part = forest_run text (λ t n. no_sentence) 0 (term_forest part)

-- ---- lint 3

-- the failure that an answer says
abbrev pub failure_meant : answers.Failure → Failure
failure_meant answers.TheVariants.TwoIntegersWanted = two_integers_wanted
failure_meant answers.TheVariants.DivisionByZero = division_by_zero
failure_meant answers.TheVariants.DigitsWanted = digits_wanted

abbrev pub failure_in : Option answers.Failure → math.Option Failure
failure_in None = math.none
failure_in (Some why) = math.some (failure_meant why)

-- the domain that an answer says
abbrev pub domain_from : Option domains.Domain → Domain
domain_from (Some (domains.TheVariants.Integers divides)) = integers divides
domain_from (Some domains.TheVariants.Digits) = digits
domain_from None = anything

-- a character, a number's digits, a symbol and a term as a part of an integer
abbrev pub sign_operand : ℕ → Option operands.Operand
sign_operand c = cond (is_sign c) (Some operands.TheVariants.Sign) None

abbrev pub number_operand : List ℕ → Option operands.Operand
number_operand ds = cond (is_macrodigit (value_of ds)) (Some (operands.TheVariants.Macrodigit (value_of ds))) None

abbrev pub symbol_operand : List ℕ → Symbol → Option operands.Operand
symbol_operand text (Character c) = sign_operand c
symbol_operand text (Identifier a b) = None
symbol_operand text (Number a b) = number_operand (take b (drop a text))

abbrev pub operand_of : List ℕ → Term → Option operands.Operand
operand_of text (Symbolic x) = symbol_operand text x
operand_of text (SVariable a b) = None
operand_of text (TVariable a b) = None
operand_of text (EVariable a b) = None
operand_of text Bracket = None
operand_of text (Call a b) = None
operand_of text (Block n) = None

-- what is left of a part once the sign that it may begin with is taken
abbrev pub SignTaken : List ℕ → List ℕ → List ℕ → Type 0
SignTaken text part left =
    ((divides : Bool) → first_fails divides (argument_of text left) ≡ first_fails divides (unsigned (argument_of text part)))
    × (macrodigits (argument_of text left) ≡ macrodigits (unsigned (argument_of text part)))

-- a test of all symbols, where they were found
abbrev pub all_of : (List ℕ → Bool) → math.Option (List ℕ) → Option Bool
all_of test math.none = None
all_of test (math.some xs) = Some (test xs)

-- is an operand the macrodigit 0?
abbrev pub zero_of : Option operands.Operand → Option Bool
zero_of (Some operands.TheVariants.Sign) = None
zero_of (Some (operands.TheVariants.Macrodigit n)) = Some (eqb n 0)
zero_of None = None

-- is a symbol, a term, a digit?
abbrev pub symbol_digit : Symbol → Option Bool
symbol_digit (Character c) = Some (digit_byte c)
symbol_digit (Identifier a b) = None
symbol_digit (Number a b) = None

abbrev pub digit_of : Term → Option Bool
digit_of (Symbolic x) = symbol_digit x
digit_of (SVariable a b) = None
digit_of (TVariable a b) = None
digit_of (EVariable a b) = None
digit_of Bracket = None
digit_of (Call a b) = None
digit_of (Block n) = None

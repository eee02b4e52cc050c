-- Parts of the term records, as patterns and as rows that are matched.
use Rattle.std.specs.Prelude.{ℕ, ◌+◌, ◌-◌, ◌≤◌, Bool, true, false, cond, ◌&&◌, List, [], ◌≡◌, length, take, drop}
use Rattle.names.specs.Name.{folded_index}
use Rattle.file.specs.declared.Symbol as heads
use Rattle.file.specs.declared.Term.{Term}
use Rattle.file.specs.declared.Term.TheVariants.{Symbol as Symbolic, SVariable, TVariable, EVariable, Bracket, Call, Block}
use Rattle.law.specs.Tree.{Kind, symbol_kind, term_kind, expression_kind, no_sentence}
use Rattle.law.specs.Expression.{Terms, symbol, brackets}
use Rattle.file.specs.Forest.{contents}
use Rattle.file.specs.Head.{term_at}
use Rattle.law.specs.Runs.{end_of, term_forest}
use Rattle.law.specs.Reading as reading
use Rattle.law.specs.Variables.{Variable}
use Rattle.law.specs.Symbol.{Symbol, symbol_of}
use Rattle.matching.specs.Pattern.{Atom, literal, variable, other, Pattern, pattern_of}
use Rattle.matching.specs.Match.{same_terms}
use Rattle.matching.specs.Shadow.{same_atom}
use Rattle.matching.specs.Literal.{is_literal, literal_terms}

-- a part of the term records as a pattern: the numbers of its records, and the sentences of its blocks, do not matter to a pattern
unfoldable pub row_of : List ℕ → List ℕ → Pattern
row_of text part = pattern_of (reading.forest_run text (λ t n. no_sentence) 0 (term_forest part))

-- has a part no variable, call or block at any depth? The text does not matter either
unfoldable pub literal_part : List ℕ → Bool
literal_part part = is_literal (reading.forest_run [] (λ t n. no_sentence) 0 (term_forest part))

-- a literal part as a row of symbols
unfoldable pub symbols_of : List ℕ → List ℕ → Terms Symbol
symbols_of text part = literal_terms (reading.forest_run text (λ t n. no_sentence) 0 (term_forest part))

-- what is left of a part from a position on, as the code cuts it
abbrev pub from : ℕ → List ℕ → List ℕ
from n part = take (length part - n) (drop n part)

-- a term of a part begins at the position, or the part ends there
pub data Begin (part : List ℕ) : ℕ → Type 0 where
  at_start : Begin part 0
  one_on : {n : ℕ} → 24 ≤ length (from n part) → Begin part n → Begin part (n + end_of (from n part))

-- a part stands among the term records, from a position on
pub record Stands (terms part : List ℕ) (at : ℕ) : Type 0 where
  pub inside : at + length part ≤ length terms
  pub same : part ≡ take (length part) (drop at terms)

-- a term as an atom, and before the terms after it; a bracket has its contents
abbrev pub symbol_at : List ℕ → heads.Symbol → Symbol
symbol_at text x = symbol_of (reading.symbol_of text x)

abbrev pub variable_from : List ℕ → Kind → ℕ → ℕ → Variable
variable_from text kind start len = record { kind = kind; index = folded_index (take len (drop start text)) }

abbrev pub atom_of : List ℕ → Term → Atom
atom_of text (Symbolic x) = literal (symbol_at text x)
atom_of text (SVariable a b) = variable (variable_from text symbol_kind a b)
atom_of text (TVariable a b) = variable (variable_from text term_kind a b)
atom_of text (EVariable a b) = variable (variable_from text expression_kind a b)
atom_of text Bracket = other
atom_of text (Call a b) = other
atom_of text (Block n) = other

abbrev pub term_row : List ℕ → Term → Pattern → Pattern → Pattern
term_row text (Symbolic x) inside after = symbol (atom_of text (Symbolic x)) after
term_row text (SVariable a b) inside after = symbol (atom_of text (SVariable a b)) after
term_row text (TVariable a b) inside after = symbol (atom_of text (TVariable a b)) after
term_row text (EVariable a b) inside after = symbol (atom_of text (EVariable a b)) after
term_row text Bracket inside after = brackets inside after
term_row text (Call a b) inside after = symbol other after
term_row text (Block n) inside after = symbol other after

abbrev pub is_bracket : Term → Bool
is_bracket (Symbolic x) = false
is_bracket (SVariable a b) = false
is_bracket (TVariable a b) = false
is_bracket (EVariable a b) = false
is_bracket Bracket = true
is_bracket (Call a b) = false
is_bracket (Block n) = false

-- are the first terms of two parts the same?
abbrev pub same_heads : List ℕ → Term → Term → Bool → Bool
same_heads text x y inside = cond (is_bracket x && is_bracket y) inside (same_atom (atom_of text x) (atom_of text y))

abbrev pub same_first : List ℕ → List ℕ → List ℕ → Bool
same_first text p q =
    same_heads text (term_at p 0) (term_at q 0) (same_terms same_atom (row_of text (contents 24 end_of p)) (row_of text (contents 24 end_of q)))

-- Expressions: what a law's functions are called on and give back. Document 01, "A run of a law": "any expression (symbols, numbers by value,
-- brackets around expressions)"; "a number record is one symbol, also above 4294967295".
-- docs/SPECIFICATION.md, 15.1.
use Rattle.std.specs.Prelude.{ℕ, List}

-- a symbol: a character, an identifier, folded, or a number, by value
pub data Literal : Type 0 where
  character : ℕ → Literal
  identifier : List ℕ → Literal
  number : ℕ → Literal
  deriving Discrete as literal-discrete

-- terms in a row, contents and then the rest: symbols of some kind, and brackets
pub data Terms (A : Type 0) : Type 0 where
  nothing : Terms A
  symbol : A → Terms A → Terms A
  brackets : Terms A → Terms A → Terms A

abbrev pub Expression : Type 0
Expression = Terms Literal

-- one row after another
module _ {A : Type 0} where
  infixl 65 ◌⊕◌
  abbrev pub ◌⊕◌ : Terms A → Terms A → Terms A
  nothing ⊕ y = y
  symbol a x ⊕ y = symbol a (x ⊕ y)
  brackets c x ⊕ y = brackets c (x ⊕ y)

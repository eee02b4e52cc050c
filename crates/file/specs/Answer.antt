-- Document 01, "Where a call is turned back": "A refusal is its number only; the first in this table's order is given."
-- docs/SPECIFICATION.md, 2.1.
use Rattle.std.specs.Prelude.{ℕ, Bool, true, false}

-- a refusal's number, or what was asked for
pub data Answer (A : Type 0) : Type 0 where
  refused : ℕ → Answer A
  given : A → Answer A

-- `do` puts steps in order: the first refusal is the answer
infixl 20 ◌>>=◌
abbrev pub ◌>>=◌ : {A B : Type 0} → Answer A → (A → Answer B) → Answer B
refused n >>= f = refused n
given a >>= f = f a

infixl 20 ◌>>◌
abbrev pub ◌>>◌ : {A B : Type 0} → Answer A → Answer B → Answer B
refused n >> b = refused n
given a >> b = b

abbrev pub refuse_if : ℕ → Bool → Answer (Unit {0})
refuse_if n true = refused n
refuse_if n false = given tt

-- an answer's value, changed
abbrev pub map_answer : {A B : Type 0} → (A → B) → Answer A → Answer B
map_answer f (refused n) = refused n
map_answer f (given a) = given (f a)

-- What a term record's words say. Document 01: "Kinds: 0 character (a = Unicode scalar value), 1 identifier, 2 number, 3 s., 4 t., 5 e. variable
-- (1 to 5: a, b = start and length in the text), 6 bracket, 7 call (a, b = name), 8 block (a = number of sentences)."
-- docs/SPECIFICATION.md, 1.5, 1.6.
use Rattle.std.specs.Prelude.{ℕ, ◌+◌, List, [], ◌∷◌, get_or}
use Rattle.file.specs.Word.{word_at}
use Rattle.file.specs.declared.Symbol.TheVariants.{Character, Identifier, Number}
use Rattle.file.specs.declared.Term.{Term}
use Rattle.file.specs.declared.Term.TheVariants.{Symbol, SVariable, TVariable, EVariable, Bracket, Call, Block}

-- the term that a kind and the words a and b say; from 8 on a block, since no other kind passes refusal 5
unfoldable pub term_from : ℕ → ℕ → ℕ → Term
term_from kind a b =
    get_or
    (Symbol (Character a)
    ∷ Symbol (Identifier a b)
    ∷ Symbol (Number a b)
    ∷ SVariable a b
    ∷ TVariable a b
    ∷ EVariable a b
    ∷ Bracket
    ∷ Call a b
    ∷ []) kind (Block a)

-- the term record at a byte position
unfoldable pub term_at : List ℕ → ℕ → Term
term_at s at = term_from (word_at s at) (word_at s (at + 4)) (word_at s (at + 8))

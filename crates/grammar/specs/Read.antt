-- The phrase of a text, where the grammar has one: `phrase_of bytes ≡ some text` exactly where `Written bytes text`, `written_found` and `found_written` of
-- proofs/Reading.antt.
use Rattle.std.specs.Prelude.{ℕ, List, [], cond}
use Rattle.std.proofs.Math.Option.{Option, none, some}
use Rattle.tokens.specs.Token.{Piece, Placed, placed}
use Rattle.tokens.specs.Lex.{lex}
use Rattle.grammar.specs.Grammar.{Text}
use Rattle.grammar.specs.Parse.{phrase}
use Rattle.grammar.specs.Accept.{accepts}
use Rattle.grammar.specs.declared.table.Mode.TheVariants.{AtText}

-- the phrase of tokens that the machine accepts
abbrev pub phrase_of_tokens : List Placed → Option Text
phrase_of_tokens ts = cond (accepts AtText [] ts) (some (phrase ts)) none

-- the phrase of a text's pieces
abbrev pub phrase_in : Option (List Piece) → Option Text
phrase_in none = none
phrase_in (some ps) = phrase_of_tokens (placed 0 ps)

-- the phrase of a text; none outside the grammar
unfoldable pub phrase_of : List ℕ → Option Text
phrase_of bytes = phrase_in (lex bytes)

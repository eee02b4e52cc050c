-- A format's words as the code holds them.
use Rattle.std.specs.Prelude.{ℕ, ◌+◌, ◌%◌, min, List, ◌≡◌, length, get_or}
use Rattle.shapes.specs.Format.{Format}
use Rattle.shapes.specs.Words.{format_words, Encodable}

-- where the shapes of a format's words end: at the last word at most
unfoldable pub row_end : List ℕ → ℕ
row_end s = min (1 + get_or s 0 0 % 256) (length s)

-- words that are a format's
pub record FormatIn (limit : ℕ) (words : List ℕ) : Type 0 where
  pub format : Format
  pub encodable : Encodable limit format
  pub same : words ≡ format_words limit format

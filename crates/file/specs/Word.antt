-- Document 01: "Counts and fields are unsigned 32-bit words, least byte first."
-- docs/SPECIFICATION.md, 1.2.
use Rattle.std.specs.Prelude.{ℕ, ◌+◌, ◌*◌, List, get_or}

-- the word at a byte position, least byte first; bytes past the end count as 0
unfoldable pub word_at : List ℕ → ℕ → ℕ
word_at s at = get_or s at 0 + get_or s (at + 1) 0 * 256 + get_or s (at + 2) 0 * 65536 + get_or s (at + 3) 0 * 16777216

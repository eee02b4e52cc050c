-- The store. Document 01, "Formats": "The store holds, by sorted folded name, argument then result format, 65 words each, unused words 0."
-- A format has one word more than the limit on its shapes.
-- docs/SPECIFICATION.md, 5.1.
use Rattle.std.specs.Prelude.{ℕ, ◌+◌, ◌*◌, List, [], ◌∷◌, ◌++◌}
use Rattle.shapes.specs.Words.{filled, format_words}
use Rattle.formats.specs.Infer.{Entry, Inferred}

-- argument then result of each name
unfoldable pub entry_words : ℕ → List Entry → List Entry → List ℕ
entry_words limit [] rs = []
entry_words limit (a ∷ rest) [] = []
entry_words limit (a ∷ rest) (r ∷ rs) = format_words limit a.format ++ format_words limit r.format ++ entry_words limit rest rs

-- 64 names at most, two formats each: 128 formats
abbrev pub store_size : ℕ → ℕ
store_size limit = 128 * (limit + 1)

-- the store's words for argument and result formats, name by name
unfoldable pub store_of : ℕ → List Entry → List Entry → List ℕ
store_of limit arguments results = filled (store_size limit) (entry_words limit arguments results)

abbrev pub store_words : ℕ → Inferred → List ℕ
store_words limit i = store_of limit i.formats.arguments i.formats.results

-- Texts as bytes.
use Rattle.std.specs.Prelude.{ℕ, List, [], ◌∷◌}
use Prim.Native.Char.{code}
use Prim.Native.String.{String, [] as no_text, ◌∷◌ as ◌·◌}

-- the bytes of a text in ASCII
unfoldable pub bytes_of : String → List ℕ
bytes_of no_text = []
bytes_of (◌·◌ c s) = code c ∷ bytes_of s

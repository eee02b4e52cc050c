-- The entries of names by number, as the code reaches them in the store.
use Rattle.std.specs.Prelude.{ℕ, zero, suc, ◌≤◌, List, [], ◌∷◌, ◌++◌, ◌≡◌, length, replicate}
use Rattle.shapes.specs.Format.{Format, never}
use Rattle.shapes.specs.Words.{filled, format_words, Encodable}
use Rattle.formats.specs.Infer.{Entry}
use Rattle.formats.specs.Store.{store_size, store_of}

-- the names of entries, in order
abbrev pub entry_names : List Entry → List (List ℕ)
entry_names [] = []
entry_names (e ∷ es) = e.name ∷ entry_names es

-- the format of entry number p; never past the last
unfoldable pub format_in : List Entry → ℕ → Format
format_in [] p = never
format_in (e ∷ es) zero = e.format
format_in (e ∷ es) (suc p) = format_in es p

-- the entries with the format of entry number p changed; the same entries where there is none
unfoldable pub put : ℕ → Format → List Entry → List Entry
put p f [] = []
put zero f (e ∷ es) = record { name = e.name; format = f } ∷ es
put (suc p) f (e ∷ es) = e ∷ put p f es

-- every format of the entries has the property
abbrev pub EachEntry : (Format → Type 0) → List Entry → Type 0
EachEntry P [] = Unit {0}
EachEntry P (e ∷ es) = P e.format × EachEntry P es

-- entries that a store holds: the same names, 64 at most, and formats that it has words for
pub record Storable (limit : ℕ) (names : List (List ℕ)) (arguments results : List Entry) : Type 0 where
  pub argument_names : entry_names arguments ≡ names
  pub result_names : entry_names results ≡ names
  pub few : length names ≤ 64
  pub arguments_encodable : EachEntry (Encodable limit) arguments
  pub results_encodable : EachEntry (Encodable limit) results

-- a store that holds entries, and then words that are not its own
pub record StoreHolds (limit : ℕ) (names : List (List ℕ)) (arguments results : List Entry) (tail store : List ℕ) : Type 0 where
  pub entries : Storable limit names arguments results
  pub words : store ≡ store_of limit arguments results ++ tail

-- ---- the store at the start

-- the words of formats one after the other
unfoldable pub row_words : ℕ → List Format → List ℕ
row_words limit [] = []
row_words limit (f ∷ fs) = format_words limit f ++ row_words limit fs

-- the store's words where the first k formats are never, and zeros
unfoldable pub start_of : ℕ → ℕ → List ℕ
start_of limit k = filled (store_size limit) (row_words limit (replicate k never))

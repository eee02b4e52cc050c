-- Where a law's names stand in the store, so that no call's name is looked up again in each round.
use Rattle.std.specs.Prelude.{ℕ, zero, suc, ◌+◌, ◌*◌, ◌-◌, ◌≤◌, ◌<◌, List, [], ◌∷◌, Bool, true, false, not, cond, ◌||◌, ◌&&◌, ◌≡◌, length, take, drop, get_or, Option, MatchOption}
use Rattle.std.specs.Ordering.{is_lt}
use Rattle.names.specs.Name.{folded, same_bytes, order_bytes}
use Rattle.file.specs.Word.{word_at}
use Rattle.file.specs.Sections.{File}
use Rattle.law.specs.Reading.{function_name, tree_of}
use Rattle.formats.specs.Infer.{insert_name, names_of}
use Rattle.formats.specs.declared.slots.Slots.{Slots}

-- where a name stands among names; their number where it is not one of them
unfoldable pub position : List (List ℕ) → List ℕ → ℕ
position [] n = 0
position (m ∷ ms) n = cond (same_bytes m n) 0 (suc (position ms n))

module _ (file : File) where
  -- the folded name of a function, and of the call at a term record
  abbrev pub function_folded : ℕ → List ℕ
  function_folded f = folded (function_name file f).spelled

  abbrev pub call_folded : ℕ → List ℕ
  call_folded t =
      folded (take (word_at file.terms.records (24 * t + 8)) (drop (word_at file.terms.records (24 * t + 4)) file.text.records))

  abbrev pub file_names : List (List ℕ)
  file_names = names_of (tree_of file)

  -- a term record is a call
  abbrev pub IsCall : ℕ → Type 0
  IsCall t = word_at file.terms.records (24 * t) ≡ 7

  -- the slots of a law: those of no function and of no call are 0
  pub record SlotsOf (slots : Slots) : Type 0 where
    pub functions : (f : ℕ) → f < file.functions.count → get_or slots.functions f 0 ≡ position file_names (function_folded f)
    pub calls : (t : ℕ) → t < file.terms.count → IsCall t → get_or slots.calls t 0 ≡ position file_names (call_folded t)
    pub count : slots.names ≡ length file_names
    pub marked : (t : ℕ) → t < file.terms.count → IsCall t → slots.has_call ≡ true
    pub unmarked : ((t : ℕ) → t < file.terms.count → IsCall t → ⊥) → slots.has_call ≡ false
    pub other_functions : (f : ℕ) → file.functions.count ≤ f → get_or slots.functions f 0 ≡ 0
    pub other_calls : (t : ℕ) → (t < file.terms.count → IsCall t → ⊥) → get_or slots.calls t 0 ≡ 0

-- ---- what the functions that fill the slots promise

-- is a name among these?
unfoldable pub is_among : List (List ℕ) → List ℕ → Bool
is_among [] n = false
is_among (m ∷ ms) n = same_bytes m n || is_among ms n

-- the sorted distinct names of so many functions from f on
unfoldable pub names_from : (ℕ → List ℕ) → ℕ → ℕ → List (List ℕ)
names_from name zero f = []
names_from name (suc left) f = insert_name (name f) (names_from name left (suc f))

-- from n on the bytes are as they were
abbrev pub KeptFrom : List ℕ → List ℕ → ℕ → Type 0
KeptFrom before after n = (j : ℕ) → n ≤ j → get_or after j 0 ≡ get_or before j 0

module _ (file : File) where
  -- the names of the functions from f on
  unfoldable pub names_at : ℕ → List (List ℕ)
  names_at f = names_from (function_folded file) (file.functions.count - f) f

  -- has no later function the name of the function f?
  abbrev pub is_last : ℕ → Bool
  is_last f = not (is_among (names_at (f + 1)) (function_folded file f))

  -- is the function g the last of its name, and does that come before a name?
  abbrev pub counted : List ℕ → ℕ → Bool
  counted name g = is_last g && is_lt (order_bytes (function_folded file g) name)

  -- the first function from `from` on that has a name, or none
  pub record FirstFrom (from : ℕ) (name : List ℕ) (r : ℕ) : Type 0 where
    pub inside : r < file.functions.count
    pub not_before : from ≤ r
    pub first : (f : ℕ) → from ≤ f → f < r → same_bytes (function_folded file f) name ≡ false
    pub same : function_folded file r ≡ name

  abbrev pub NamedFrom : ℕ → List ℕ → Option ℕ → Type 0
  NamedFrom from name r =
      MatchOption r (is_among (names_at from) name ≡ false) (λ f. FirstFrom from name f × (is_among (names_at from) name ≡ true))

  -- which functions are the last of their name
  abbrev pub LastAre : List Bool → Type 0
  LastAre last = (f : ℕ) → f < file.functions.count → get_or last f false ≡ is_last f

  -- the place of the name of each function
  abbrev pub Places : List ℕ → Type 0
  Places slots = (f : ℕ) → f < file.functions.count → get_or slots f 0 ≡ position (file_names file) (function_folded file f)

  -- the slots with the calls of the first n term records
  pub record SlotsUpTo (slots : Slots) (n : ℕ) : Type 0 where
    pub functions : Places slots.functions
    pub count : slots.names ≡ length (file_names file)
    pub marked : (t : ℕ) → t < n → IsCall file t → slots.has_call ≡ true
    pub unmarked : ((t : ℕ) → t < n → IsCall file t → ⊥) → slots.has_call ≡ false
    pub calls : (t : ℕ) → t < n → IsCall file t → get_or slots.calls t 0 ≡ position (file_names file) (call_folded file t)
    pub other_functions : (f : ℕ) → file.functions.count ≤ f → get_or slots.functions f 0 ≡ 0
    pub other_calls : (t : ℕ) → (t < n → IsCall file t → ⊥) → get_or slots.calls t 0 ≡ 0

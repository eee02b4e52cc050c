-- Laws of the tables of formats (specs/Infer.antt): which names they have, and what is found after a change.
use Prim.Native.Nat.{ℕ}
use mathlib.Core.Bool.{Bool, true, false, cond, ◌||◌, false≢true}
use mathlib.Core.List.{List, [], ◌∷◌}
use mathlib.Core.Option.{Option, none, some}
use mathlib.Core.Path.{◌≡◌, refl, sym, ◌∙◌}
use Rattle.names.specs.Name.{folded, same_bytes}
use Rattle.names.proofs.Laws.{same_sound}
use Rattle.law.specs.Tree.{Law}
use Rattle.shapes.specs.Format.{Format}
use Rattle.formats.specs.Infer.{Entry, names_of, find, renew, or_never}
use Rattle.formats.specs.Code.Entries.{entry_names, format_in}
use Rattle.formats.specs.Code.Slots.{position, is_among}
use Rattle.formats.proofs.SlotLaws.{listed_insert}
use Rattle.formats.proofs.EntryLaws.{renew_put, found_or_never, put_same}

-- ---- names

-- has a function of the law this folded name?
abbrev pub defines : Law → List ℕ → Bool
defines [] n = false
defines (f ∷ fs) n = same_bytes (folded f.name.spelled) n || defines fs n

-- the law's names are those of its functions
pub listed_names : (law : Law) (n : List ℕ) → is_among (names_of law) n ≡ defines law n
unfolding names_of is_among
listed_names [] n = refl
listed_names (f ∷ fs) n = listed_insert (folded f.name.spelled) (names_of fs) n ∙ rw (listed_names fs n)

-- ---- what is found

-- was a format found?
abbrev pub is_found : Option Format → Bool
is_found none = false
is_found (some f) = true

-- a format is found where the name is among the table's
pub found_listed : (es : List Entry) (n : List ℕ) → is_found (find es n) ≡ is_among (entry_names es) n
unfolding find is_among
found_listed [] n = refl
found_listed (e ∷ es) n = go (same_bytes e.name n) (found_listed es n)
  where
    go : (b : Bool) → is_found (find es n) ≡ is_among (entry_names es) n → is_found (cond b (some e.format) (find es n)) ≡ b || is_among (entry_names es) n
    go true ih = refl
    go false ih = ih

-- in a table of the law's names: where a function has the name, and nowhere else
pub found_defined : (law : Law) (es : List Entry) (n : List ℕ) → entry_names es ≡ names_of law → is_found (find es n) ≡ defines law n
found_defined law es n e = found_listed es n ∙ rw e (listed_names law n)

-- then there is one
pub found_some : (o : Option Format) → is_found o ≡ true → (f : Format) × (o ≡ some f)
found_some none h = absurd (false≢true h)
found_some (some f) h = (f, refl)

-- else there is none
pub found_none : (o : Option Format) → is_found o ≡ false → o ≡ none
found_none none h = refl
found_none (some f) h = absurd (false≢true (sym h))

-- what is found under a name whose format was changed
pub find_renew : (n : List ℕ) (f : Format) (es : List Entry) → is_found (find es n) ≡ true → find (renew n f es) n ≡ some f
unfolding find renew
find_renew n f [] h = absurd (false≢true h)
find_renew n f (e ∷ es) h = go (same_bytes e.name n) refl h (find_renew n f es)
  where
    go : (b : Bool) → same_bytes e.name n ≡ b → is_found (cond b (some e.format) (find es n)) ≡ true → (is_found (find es n) ≡ true → find (renew n f es) n ≡ some f)
        → find (cond b (record { name = e.name; format = f } ∷ es) (e ∷ renew n f es)) n ≡ some f
    go true q k ih = rw q refl
    go false q k ih = rw q (ih k)

-- and under another name
pub find_renew_other : (n m : List ℕ) (f : Format) (es : List Entry) → same_bytes m n ≡ false → find (renew m f es) n ≡ find es n
unfolding find renew
find_renew_other n m f [] h = refl
find_renew_other n m f (e ∷ es) h = go (same_bytes e.name m) refl (find_renew_other n m f es h)
  where
    go : (b : Bool) → same_bytes e.name m ≡ b → find (renew m f es) n ≡ find es n
        → find (cond b (record { name = e.name; format = f } ∷ es) (e ∷ renew m f es)) n ≡ find (e ∷ es) n
    go true q ih = rw (same_sound e.name m q, h) refl
    go false q ih = rw ih refl

-- a format that is changed to itself
pub renew_same : (n : List ℕ) (es : List Entry) → renew n (or_never (find es n)) es ≡ es
renew_same n es = rw (found_or_never es n, renew_put n (format_in es (position (entry_names es) n)) es) (put_same (position (entry_names es) n) es)

-- a name that no function has is not found
pub find_undefined : (law : Law) (es : List Entry) (n : List ℕ) → entry_names es ≡ names_of law → defines law n ≡ false → find es n ≡ none
find_undefined law es n e h = found_none (find es n) (found_defined law es n e ∙ h)

-- a name that a function has is found
pub find_defined : (law : Law) (es : List Entry) (n : List ℕ) → entry_names es ≡ names_of law → defines law n ≡ true → (f : Format) × (find es n ≡ some f)
find_defined law es n e h = found_some (find es n) (found_defined law es n e ∙ h)

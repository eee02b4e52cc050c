-- Names, identifiers, variables' indices and numbers as they are spelled: lists of ASCII bytes.
-- Document 01, "The law file": "Names, identifiers and indices: 1 to 64 ASCII letters, digits, `-`, `_`. Names and identifiers
-- compare, and sort by bytes, when folded: upper case, `_` read as `-`. Indices fold to upper case only. Numbers: 1 to 64 decimal digits."
-- docs/SPECIFICATION.md, 1.7 to 1.9.
use Rattle.std.specs.Prelude.{ℕ, ◌-◌, List, [], ◌∷◌, map, Bool, true, false, cond, ◌&&◌, ◌||◌, length, eqb, leb}
use Rattle.std.specs.declared.cmp.Ordering.{Ordering}
use Rattle.std.specs.declared.cmp.Ordering.TheVariants.{Less, Equal, Greater}

-- is this byte at least `low` and at most `high`?
abbrev pub between : ℕ → ℕ → ℕ → Bool
between low high c = leb low c && leb c high

abbrev pub digit_byte : ℕ → Bool
digit_byte c = between 48 57 c

-- ASCII letters
abbrev pub letter_byte : ℕ → Bool
letter_byte c = between 97 122 c || between 65 90 c

-- ASCII letters, digits, `-` and `_`
abbrev pub name_byte : ℕ → Bool
name_byte c = letter_byte c || digit_byte c || eqb c 45 || eqb c 95

-- upper case: `a` to `z` become `A` to `Z`
abbrev pub upper_byte : ℕ → ℕ
upper_byte c = cond (between 97 122 c) (c - 32) c

-- upper case, and `_` read as `-`
abbrev pub fold_byte : ℕ → ℕ
fold_byte c = cond (eqb c 95) 45 (upper_byte c)

-- a name or identifier, folded
abbrev pub folded : List ℕ → List ℕ
folded = map fold_byte

-- a variable's index, folded: upper case only
abbrev pub folded_index : List ℕ → List ℕ
folded_index = map upper_byte

-- are these bytes the same?
unfoldable pub same_bytes : List ℕ → List ℕ → Bool
same_bytes [] [] = true
same_bytes [] (y ∷ ys) = false
same_bytes (x ∷ xs) [] = false
same_bytes (x ∷ xs) (y ∷ ys) = eqb x y && same_bytes xs ys

-- the order of bytes: the first byte that differs decides, and a list comes after each of its beginnings
unfoldable pub order_bytes : List ℕ → List ℕ → Ordering
order_bytes [] [] = Equal
order_bytes [] (y ∷ ys) = Less
order_bytes (x ∷ xs) [] = Greater
order_bytes (x ∷ xs) (y ∷ ys) = cond (eqb x y) (order_bytes xs ys) (cond (leb x y) Less Greater)

-- every byte passes the test
unfoldable pub every_byte : (ℕ → Bool) → List ℕ → Bool
every_byte p [] = true
every_byte p (x ∷ xs) = p x && every_byte p xs

-- 1 to 64 bytes
abbrev pub length_allowed : ℕ → Bool
length_allowed n = between 1 64 n

-- a name, identifier or index that a law may spell
abbrev pub name_allowed : List ℕ → Bool
name_allowed s = length_allowed (length s) && every_byte name_byte s

-- a number that a law may spell
abbrev pub number_allowed : List ℕ → Bool
number_allowed s = length_allowed (length s) && every_byte digit_byte s

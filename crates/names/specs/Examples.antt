-- Examples of the definitions in `Name`, each by computation. A text stands as the list of its bytes.
use Rattle.std.specs.Prelude.{[], ◌∷◌, true, false, ◌≡◌, refl, replicate}
use Rattle.names.specs.Name.{folded, folded_index, same_bytes, order_bytes, every_byte, name_allowed, number_allowed}
use Rattle.std.specs.declared.cmp.Ordering.TheVariants.{Less, Equal}

-- ---- the same?

-- `Foo_bar1` and `FOO-BAR1` are one name
name_fold : same_bytes (folded (70 ∷ 111 ∷ 111 ∷ 95 ∷ 98 ∷ 97 ∷ 114 ∷ 49 ∷ [])) (folded (70 ∷ 79 ∷ 79 ∷ 45 ∷ 66 ∷ 65 ∷ 82 ∷ 49 ∷ [])) ≡ true
unfolding same_bytes
name_fold = refl

-- and two indices
index_no_fold : same_bytes (folded_index (70 ∷ 111 ∷ 111 ∷ 95 ∷ 98 ∷ 97 ∷ 114 ∷ 49 ∷ [])) (folded_index (70 ∷ 79 ∷ 79 ∷ 45 ∷ 66 ∷ 65 ∷ 82 ∷ 49 ∷ [])) ≡ false
unfolding same_bytes
index_no_fold = refl

-- `e_X` and `E_x` are one index
index_fold : same_bytes (folded_index (101 ∷ 95 ∷ 88 ∷ [])) (folded_index (69 ∷ 95 ∷ 120 ∷ [])) ≡ true
unfolding same_bytes
index_fold = refl

-- ---- the order of names

-- `AB` before `ABC`
beginning_first : order_bytes (folded (65 ∷ 66 ∷ [])) (folded (65 ∷ 66 ∷ 67 ∷ [])) ≡ Less
unfolding order_bytes
beginning_first = refl

-- `A-` before `AB`
hyphen_first : order_bytes (folded (65 ∷ 45 ∷ [])) (folded (65 ∷ 66 ∷ [])) ≡ Less
unfolding order_bytes
hyphen_first = refl

-- `a_` is `A-`
fold_equal : order_bytes (folded (97 ∷ 95 ∷ [])) (folded (65 ∷ 45 ∷ [])) ≡ Equal
unfolding order_bytes
fold_equal = refl

-- ---- allowed?

-- 64 times `A` is a name
name_longest : name_allowed (replicate 64 65) ≡ true
unfolding every_byte
name_longest = refl

-- 65 times is none
name_too_long : name_allowed (replicate 65 65) ≡ false
unfolding every_byte
name_too_long = refl

-- no bytes are no name
name_empty : name_allowed [] ≡ false
unfolding every_byte
name_empty = refl

-- `-` is a name
name_hyphen : name_allowed (45 ∷ []) ≡ true
unfolding every_byte
name_hyphen = refl

-- `7a` is a name
name_digit : name_allowed (55 ∷ 97 ∷ []) ≡ true
unfolding every_byte
name_digit = refl

-- `12` is a number
number : number_allowed (49 ∷ 50 ∷ []) ≡ true
unfolding every_byte
number = refl

-- `1a` is none
number_letter : number_allowed (49 ∷ 97 ∷ []) ≡ false
unfolding every_byte
number_letter = refl

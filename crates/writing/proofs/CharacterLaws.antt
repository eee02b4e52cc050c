-- Laws for the number of characters in some bytes: as many as bytes that begin one.
use Prim.Native.Nat.{ℕ, zero, suc, ◌+◌, ◌-◌, ◌/◌, ◌%◌, ◌≤◌, ◌<◌}
use mathlib.Core.List.{List, [], ◌∷◌, ◌++◌}
use mathlib.Core.Bool.{Bool, true, false, not, true≢false, false≢true}
use mathlib.Core.Path.{◌≡◌, refl, ◌∙◌}
use native.Mathlib.Omega.{arith}
use native.Mathlib.Numerals.{add-one}
use lib.ListN.{length, take, drop, get_or, drop_of_length-le}
use lib.Seq.{drop-cons}
use lib.Dec.{ltb}
use borrow.Author.Tests.{ltb-true, ltb-false, le-leb, lt-leb}
use Rattle.std.proofs.Common.{min}
use Rattle.names.specs.Name.{between}
use Rattle.tokens.specs.Token.{utf8, characters_bytes}
use Rattle.tokens.proofs.Utf8.{utf8_one, utf8_two, utf8_three, utf8_four}
use Rattle.writing.specs.Code.Found.{start_here, count_starts}

-- ---- the loop

plain_true : (b : Bool) → not b ≡ true → b ≡ false
plain_true true h = absurd (false≢true h)
plain_true false h = refl

plain_false : (b : Bool) → not b ≡ false → b ≡ true
plain_false true h = refl
plain_false false h = absurd (true≢false h)

-- n begin before place i
pub record Starts (s : List ℕ) (from to i n : ℕ) : Type 0 where
  pub few : n + from ≤ i
  pub small : n ≤ 4096
  pub left : count_starts (take (to - from) (drop from s)) ≡ n + count_starts (take (to - i) (drop i s))

pub starts_begin : (s : List ℕ) (from to : ℕ) → Starts s from to from 0
starts_begin s from to = record { few = omega arith; small = omega arith; left = omega arith }

take_none : (n : ℕ) → ◌≡◌ {A = List ℕ} (take n []) []
take_none zero = refl
take_none (suc n) = refl

module _ {s : List ℕ} {from to i n : ℕ} (h : Starts s from to i n) where
  next : (t : ℕ) → i < to → i < length s → start_here (get_or s i 0) ≡ t → count_starts (take (to - i) (drop i s)) ≡ t + count_starts (take (to - (i + 1)) (drop (i + 1) s))
  unfolding count_starts
  next t k l e = let size : to - i ≡ suc (to - (i + 1)) = omega arith in rw (size, drop-cons s i 0 l, e, add-one i)

  pub starts_one : i < to → i < length s → length s ≤ 4096 → not (between 128 191 (get_or s i 0)) ≡ true → Starts s from to (i + 1) (n + 1)
  starts_one k l m e =
      let more = next 1 k l (rw (plain_true (between 128 191 (get_or s i 0)) e)) in
      record { few = omega (arith, h.few); small = omega (arith, h.few); left = omega (arith, h.left, more) }

  pub starts_none : i < to → i < length s → not (between 128 191 (get_or s i 0)) ≡ false → Starts s from to (i + 1) n
  starts_none k l e =
      let more = next 0 k l (rw (plain_false (between 128 191 (get_or s i 0)) e)) in
      record { few = omega (arith, h.few); small = h.small; left = omega (arith, h.left, more) }

  pub starts_end : min to (length s) ≤ i → (n ≡ count_starts (take (to - from) (drop from s))) × (n ≤ 4096)
  unfolding count_starts
  starts_end l = go (ltb i to) refl
    where
      go : (b : Bool) → ltb i to ≡ b → (n ≡ count_starts (take (to - from) (drop from s))) × (n ≤ 4096)
      go true t =
          let none : count_starts (take (to - i) (drop i s)) ≡ 0 = rw (drop_of_length-le s {i = i} (omega (arith, l, ltb-true i to t)), take_none (to - i)) in
          (omega (arith, h.left, none), h.small)
      go false t =
          let size : to - i ≡ 0 = omega (arith, ltb-false i to t) in
          let none : count_starts (take (to - i) (drop i s)) ≡ 0 = rw size in
          (omega (arith, h.left, none), h.small)

-- ---- characters are counted

low_start : (b : ℕ) → b < 128 → start_here b ≡ 1
low_start b h = rw (lt-leb 128 b h)

high_start : (b : ℕ) → 192 ≤ b → start_here b ≡ 1
high_start b h = rw (le-leb 128 b (omega arith), lt-leb b 191 (omega arith))

later_byte : (b : ℕ) → 128 ≤ b → b ≤ 191 → start_here b ≡ 0
later_byte b h k = rw (le-leb 128 b h, le-leb b 191 k)

character_one : (c : ℕ) (r : List ℕ) → count_starts (utf8 c ++ r) ≡ 1 + count_starts r
unfolding count_starts
character_one c r = go (ltb c 128) (ltb c 2048) (ltb c 65536) refl refl refl
  where
    go : (x y z : Bool) → ltb c 128 ≡ x → ltb c 2048 ≡ y → ltb c 65536 ≡ z → count_starts (utf8 c ++ r) ≡ 1 + count_starts r
    go true y z p q w = let l : c < 128 = ltb-true c 128 p in rw (utf8_one c l, low_start c l)
    go false true z p q w =
        rw (utf8_two c (ltb-false c 128 p) (ltb-true c 2048 q), high_start (192 + c / 64) (omega arith), later_byte (128 + c % 64) (omega arith) (omega arith)) (omega arith)
    go false false true p q w =
        rw (
          utf8_three c (ltb-false c 2048 q) (ltb-true c 65536 w),
          high_start (224 + c / 4096) (omega arith),
          later_byte (128 + c / 64 % 64) (omega arith) (omega arith),
          later_byte (128 + c % 64) (omega arith) (omega arith),
        ) (omega arith)
    go false false false p q w =
        rw (
          utf8_four c (ltb-false c 65536 w),
          high_start (240 + c / 262144) (omega arith),
          later_byte (128 + c / 4096 % 64) (omega arith) (omega arith),
          later_byte (128 + c / 64 % 64) (omega arith) (omega arith),
          later_byte (128 + c % 64) (omega arith) (omega arith),
        ) (omega arith)

-- the number of characters in their bytes
pub characters_counted : (cs : List ℕ) → count_starts (characters_bytes cs) ≡ length cs
unfolding count_starts characters_bytes
characters_counted [] = refl
characters_counted (c ∷ cs) = character_one c (characters_bytes cs) ∙ rw (characters_counted cs) (omega arith)

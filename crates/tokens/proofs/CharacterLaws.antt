-- Laws for the character at a byte: the number that the bytes say, where it is a character with as many bytes as the first of them tells.
use Rattle.std.proofs.Common.{ℕ, ◌+◌, ◌*◌, ◌-◌, ◌≤◌, ◌<◌, List, [], ◌∷◌, ◌++◌, Bool, true, false, eqb, ◌&&◌, ◌≡◌, refl, sym, ap, ◌∙◌, Some, None, length, drop, get_or, arith, length-append}
use mathlib.Core.Bool.{true≢false}
use mathlib.Core.Logic.{◌⊎◌, inl, inr}
use Rattle.std.specs.List.{slice_get, slice_range}
use Rattle.std.proofs.Math.Utf8.{scalar, encode}
use Rattle.std.proofs.lemmas.List.{take_all}
use Rattle.std.proofs.lemmas.Bool.Decides.{nat_tests}
use lib.Seq.{drop-cons}
use borrow.Author.Tests.{lt-ltb, le-ltb}
use lib.ListN.{length-drop}
use Rattle.file.specs.Fields.{scalar_allowed}
use Rattle.file.proofs.Below.{both_first, both_second}
use Rattle.tokens.specs.Token.{utf8}
use Rattle.tokens.specs.Lex.{begins, character_in}
use Rattle.tokens.specs.Code.Found.{width_of, CharacterAt, GoesOn, Spelled}
use Rattle.tokens.proofs.Utf8.{utf8_one, first_byte, scalar_bound, utf8_some, character_found, width_found, second_byte, third_byte, fourth_byte, two_spelled, three_spelled, four_spelled}
use Rattle.tokens.proofs.Begins.{begins_all, begins_found}

-- ---- the library's words

pub same_bytes : (c : ℕ) → encode c ≡ utf8 c
unfolding encode utf8
same_bytes c = refl

scalar_to : (c : ℕ) → scalar c ≡ true → scalar_allowed c ≡ true
scalar_to c h = grind (arith, nat_tests)

scalar_from : (c : ℕ) → scalar_allowed c ≡ true → scalar c ≡ true
scalar_from c h = grind (arith, nat_tests)

low_allowed : (b : ℕ) → b < 128 → scalar_allowed b ≡ true
low_allowed b l = grind (arith, nat_tests)

-- the bytes from one on
pub rest_of : (s : List ℕ) (at : ℕ) (r : List ℕ) → r ≡ slice_range s at (length s) → r ≡ drop at s
rest_of s at r e = e ∙ take_all _ (drop at s) (omega (arith, length-drop at s))

pub past_end : (s : List ℕ) (at : ℕ) → (length s < at) ⊎ (length s < length s) → length (drop at s) ≤ 0
past_end s at (inl l) = omega (arith, length-drop at s)
past_end s at (inr l) = omega arith

-- ---- where no character stands

none_stands : (b : Bool) → (b ≡ true → ⊥) → b ≡ false
none_stands true h = absurd (h refl)
none_stands false h = refl

-- a character that stands has as many bytes as the first tells
module _ (s : List ℕ) (c : ℕ) (h : scalar_allowed c && begins (utf8 c) s ≡ true) where
  allowed : scalar_allowed c ≡ true
  allowed = both_first (scalar_allowed c) (begins (utf8 c) s) h

  whole : utf8 c ++ drop (length (utf8 c)) s ≡ s
  whole = begins_found (utf8 c) s (both_second (scalar_allowed c) (begins (utf8 c) s) h)

  width : width_of (get_or s 0 0) ≡ length (utf8 c)
  width = ap (λ x. width_of (get_or x 0 0)) (sym whole) ∙ width_found c (drop (length (utf8 c)) s) (scalar_bound c allowed)

  room : (length (utf8 c) ≤ length s) × (1 ≤ length (utf8 c))
  room = (omega (arith, ap length whole, length-append (utf8 c) (drop (length (utf8 c)) s)), utf8_some c)

pub nothing_left : (s : List ℕ) → length s ≤ 0 → CharacterAt s None
nothing_left s e = none_stands _ (λ h. let r = room s (character_in s) h in omega arith)

-- a byte that should go it on does not
module _ (s : List ℕ) where
  there : (c : ℕ) → scalar_allowed c && begins (utf8 c) s ≡ true → (i : ℕ) → get_or (utf8 c ++ drop (length (utf8 c)) s) i 0 ≡ get_or s i 0
  there c h i = ap (λ x. get_or x i 0) (whole s c h)

  pub no_second : 128 ≤ get_or s 0 0 → GoesOn (get_or s 1 0) None → CharacterAt s None
  no_second l n = none_stands _ (λ h.
      let at = there (character_in s) h in
      let first : 128 ≤ get_or (utf8 (character_in s) ++ drop (length (utf8 (character_in s))) s) 0 0 = rw (at 0) l in
      let (d, small, is) = second_byte (character_in s) (drop (length (utf8 (character_in s))) s) first in
      n d small (sym (at 1) ∙ is))

  pub no_third : 224 ≤ get_or s 0 0 → GoesOn (get_or s 2 0) None → CharacterAt s None
  no_third l n = none_stands _ (λ h.
      let at = there (character_in s) h in
      let first : 224 ≤ get_or (utf8 (character_in s) ++ drop (length (utf8 (character_in s))) s) 0 0 = rw (at 0) l in
      let (d, small, is) = third_byte (character_in s) (drop (length (utf8 (character_in s))) s) first in
      n d small (sym (at 2) ∙ is))

  pub no_fourth : 240 ≤ get_or s 0 0 → GoesOn (get_or s 3 0) None → CharacterAt s None
  no_fourth l n = none_stands _ (λ h.
      let at = there (character_in s) h in
      let first : 240 ≤ get_or (utf8 (character_in s) ++ drop (length (utf8 (character_in s))) s) 0 0 = rw (at 0) l in
      let (d, small, is) = fourth_byte (character_in s) (drop (length (utf8 (character_in s))) s) first in
      n d small (sym (at 3) ∙ is))

  -- the number is no scalar value, or one that has other bytes
  module _ (n w : ℕ) (h : Spelled s (Some (n, w))) where
    pub no_scalar : (scalar n ≡ true → ⊥) → CharacterAt s None
    no_scalar k = none_stands _ (λ t. k (scalar_from n (ap scalar_allowed h.0 ∙ allowed s (character_in s) t)))

    pub other_width : (length (utf8 n) ≡ w → ⊥) → CharacterAt s None
    other_width k = none_stands _ (λ t. k (ap (λ x. length (utf8 x)) h.0 ∙ sym (width s (character_in s) t) ∙ sym h.1))

    -- ---- where one does

    pub whole_character : (c : ℕ) → scalar n ≡ true → c ≡ n → length (utf8 n) ≡ w → CharacterAt s (Some (c, w))
    whole_character c v e l = rw e (h.0, scalar_to n v, h.2 l, sym l, rw (← l) (utf8_some n))

-- the number of two, three and four bytes
pub two_bytes : (s : List ℕ) (n d : ℕ) → 128 ≤ get_or s 0 0 → get_or s 0 0 < 224 → GoesOn (get_or s 1 0) (Some d) → n ≡ (get_or s 0 0 - 192) * 64 + d
    → Spelled s (Some (n, 2))
unfolding character_in
two_bytes [] n d l h g e = absurd (omega arith)
two_bytes (a ∷ []) n d l h g e = let z : 0 ≡ 128 + d = g.0 in absurd (omega arith)
two_bytes (a ∷ b ∷ r) n d l h g e =
    let second : b ≡ 128 + d = g.0 in
    rw (le-ltb a 128 l, lt-ltb a 224 h, second)
    (omega arith, refl, λ w. ap (begins (utf8 n)) (sym (two_spelled n a d r e g.1 h w)) ∙ begins_all (utf8 n) r)

pub three_bytes : (s : List ℕ) (n d f : ℕ) → 224 ≤ get_or s 0 0 → get_or s 0 0 < 240 → GoesOn (get_or s 1 0) (Some d) → GoesOn (get_or s 2 0) (Some f)
    → n ≡ (get_or s 0 0 - 224) * 4096 + d * 64 + f → Spelled s (Some (n, 3))
unfolding character_in
three_bytes [] n d f l h g k e = absurd (omega arith)
three_bytes (a ∷ []) n d f l h g k e = let z : 0 ≡ 128 + d = g.0 in absurd (omega arith)
three_bytes (a ∷ b ∷ []) n d f l h g k e = let z : 0 ≡ 128 + f = k.0 in absurd (omega arith)
three_bytes (a ∷ b ∷ c ∷ r) n d f l h g k e =
    let second : b ≡ 128 + d = g.0 in
    let third : c ≡ 128 + f = k.0 in
    rw (le-ltb a 128 (omega arith), le-ltb a 224 l, lt-ltb a 240 h, second, third)
    (omega arith, refl, λ w. ap (begins (utf8 n)) (sym (three_spelled n a d f r e g.1 k.1 l h w)) ∙ begins_all (utf8 n) r)

pub four_bytes : (s : List ℕ) (n d f g : ℕ) → 240 ≤ get_or s 0 0 → GoesOn (get_or s 1 0) (Some d) → GoesOn (get_or s 2 0) (Some f) → GoesOn (get_or s 3 0) (Some g)
    → n ≡ (get_or s 0 0 - 240) * 262144 + d * 4096 + f * 64 + g → Spelled s (Some (n, 4))
unfolding character_in
four_bytes [] n d f g l i j k e = absurd (omega arith)
four_bytes (a ∷ []) n d f g l i j k e = let z : 0 ≡ 128 + d = i.0 in absurd (omega arith)
four_bytes (a ∷ b ∷ []) n d f g l i j k e = let z : 0 ≡ 128 + f = j.0 in absurd (omega arith)
four_bytes (a ∷ b ∷ c ∷ []) n d f g l i j k e = let z : 0 ≡ 128 + g = k.0 in absurd (omega arith)
four_bytes (a ∷ b ∷ c ∷ o ∷ r) n d f g l i j k e =
    let second : b ≡ 128 + d = i.0 in
    let third : c ≡ 128 + f = j.0 in
    let fourth : o ≡ 128 + g = k.0 in
    rw (le-ltb a 128 (omega arith), le-ltb a 224 (omega arith), le-ltb a 240 l, second, third, fourth)
    (omega arith, refl, λ w. ap (begins (utf8 n)) (sym (four_spelled n a d f g r e i.1 j.1 k.1 l w)) ∙ begins_all (utf8 n) r)

-- a byte below 128 is one
pub byte_character : (s : List ℕ) (b : ℕ) → b < 128 → Some b ≡ slice_get s 0 → CharacterAt s (Some (b, 1))
byte_character [] b l e = absurd (cc)
byte_character (c ∷ r) b l e =
    let same : c ≡ b = cc in
    let one : utf8 b ≡ b ∷ [] = utf8_one b l in
    let found : character_in (b ∷ r) ≡ b = rw one at (character_found b r (omega arith)) in
    rw same (sym found, low_allowed b l, rw one (begins_all (b ∷ []) r), rw one, omega arith)

-- it lies in the text
pub character_within : (s : List ℕ) (at : ℕ) (c w : ℕ) → CharacterAt (drop at s) (Some (c, w)) → (at + w ≤ length s) × (w ≡ length (utf8 c)) × (1 ≤ w)
character_within s at c w h =
    let there : utf8 c ++ drop (length (utf8 c)) (drop at s) ≡ drop at s = begins_found (utf8 c) (drop at s) h.2 in
    let more = ap length there in
    (omega (arith, h.3, h.4, more, length-append (utf8 c) (drop (length (utf8 c)) (drop at s)), length-drop at s), h.3, h.4)

-- its first byte, where that is below 128, is the character
pub first_here : (s : List ℕ) (i c w b : ℕ) → b < 128 → CharacterAt (drop i s) (Some (c, w)) → (i < length s) × (eqb (get_or s i 0) b ≡ eqb c b)
first_here s i c w b l h =
    let inside = character_within s i c w h in
    let here : i < length s = omega arith in (
      here,
      rw (drop-cons s i 0 here) at
          (ap (λ z. eqb (get_or z 0 256) b) (sym (begins_found (utf8 c) (drop i s) h.2)) ∙ first_byte c b 256 (drop (length (utf8 c)) (drop i s)) l),
    )

-- a byte below 128 is a character
pub ascii_stands : (b : ℕ) (r : List ℕ) → b < 128 → CharacterAt (b ∷ r) None → ⊥
ascii_stands b r l h =
    let one : utf8 b ≡ b ∷ [] = utf8_one b l in
    let found : character_in (b ∷ r) ≡ b = rw one at (character_found b r (omega arith)) in
    true≢false (sym (rw (found, low_allowed b l, one) (begins_all (b ∷ []) r)) ∙ h)

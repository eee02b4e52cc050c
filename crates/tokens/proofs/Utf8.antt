-- Characters are found again from their bytes: `character_found`; `to_quote` and `to_close` for those of a quoted run and of a comment.
use Prim.Native.Nat.{ℕ, zero, suc, ◌+◌, ◌*◌, ◌-◌, ◌/◌, ◌%◌, ◌≤◌, ◌<◌}
use mathlib.Core.List.{List, [], ◌∷◌, ◌++◌, append_assoc}
use mathlib.Core.Bool.{Bool, true, false, not, ◌&&◌, true≢false}
use mathlib.Core.Path.{◌≡◌, refl, ap, ◌∙◌}
use native.Mathlib.Omega.{arith}
use lib.ListN.{length, drop, get_or, length-append}
use lib.Seq.{drop-append_seam}
use lib.Dec.{ltb, leb, eqb}
use borrow.Author.Tests.{ltb-true, ltb-false, leb-true, eqb-true, ne_eqb, lt-ltb, le-ltb, not-true}
use Rattle.names.specs.Name.{between, every_byte}
use Rattle.file.specs.Fields.{scalar_allowed}
use Rattle.file.proofs.Below.{both_first, both_second}
use Rattle.tokens.specs.Token.{utf8, characters_bytes, quotable, apart, unclosed}
use Rattle.tokens.specs.Lex.{character_in, characters_to, at_quote, at_close}
use Rattle.tokens.specs.Code.Found.{width_of}

-- the bytes of a character by their number
pub utf8_one : (c : ℕ) → c < 128 → utf8 c ≡ c ∷ []
unfolding utf8
utf8_one c h = rw (lt-ltb c 128 h)

pub utf8_two : (c : ℕ) → 128 ≤ c → c < 2048 → utf8 c ≡ (192 + c / 64) ∷ (128 + c % 64) ∷ []
unfolding utf8
utf8_two c l h = rw (le-ltb c 128 l, lt-ltb c 2048 h)

pub utf8_three : (c : ℕ) → 2048 ≤ c → c < 65536 → utf8 c ≡ (224 + c / 4096) ∷ (128 + c / 64 % 64) ∷ (128 + c % 64) ∷ []
unfolding utf8
utf8_three c l h = rw (le-ltb c 128 (omega arith), le-ltb c 2048 l, lt-ltb c 65536 h)

pub utf8_four : (c : ℕ) → 65536 ≤ c → utf8 c ≡ (240 + c / 262144) ∷ (128 + c / 4096 % 64) ∷ (128 + c / 64 % 64) ∷ (128 + c % 64) ∷ []
unfolding utf8
utf8_four c l = rw (le-ltb c 128 (omega arith), le-ltb c 2048 (omega arith), le-ltb c 65536 l)

-- a character by the number of its bytes
data Size (c : ℕ) : Type 0 where
  one : c < 128 → Size c
  two : 128 ≤ c → c < 2048 → Size c
  three : 2048 ≤ c → c < 65536 → Size c
  four : 65536 ≤ c → Size c

sized : (c : ℕ) → Size c
sized c = go (ltb c 128) (ltb c 2048) (ltb c 65536) refl refl refl
  where
    go : (x y z : Bool) → ltb c 128 ≡ x → ltb c 2048 ≡ y → ltb c 65536 ≡ z → Size c
    go true y z p q r = one (ltb-true c 128 p)
    go false true z p q r = two (ltb-false c 128 p) (ltb-true c 2048 q)
    go false false true p q r = three (ltb-false c 2048 q) (ltb-true c 65536 r)
    go false false false p q r = four (ltb-false c 65536 r)

add_back : (a b : ℕ) → a + b - a ≡ b
add_back a b = omega arith

-- a number from its digits to base 64
four_digits : (c : ℕ) → c / 262144 * 262144 + c / 4096 % 64 * 4096 + c / 64 % 64 * 64 + c % 64 ≡ c
four_digits c =
    let p : c / 4096 ≡ c / 64 / 64 = omega arith in
    let q : c / 262144 ≡ c / 4096 / 64 = omega arith in
    let e : c / 4096 ≡ c / 262144 * 64 + c / 4096 % 64 = rw q (omega arith) in
    let f : c / 64 ≡ c / 4096 * 64 + c / 64 % 64 = rw p (omega arith) in
    let g : c ≡ c / 64 * 64 + c % 64 = omega arith in
    sums (c / 262144) (c / 4096) (c / 64) c (c / 4096 % 64) (c / 64 % 64) (c % 64) e f g
  where
    sums : (x y z w a b d : ℕ) → y ≡ x * 64 + a → z ≡ y * 64 + b → w ≡ z * 64 + d → x * 262144 + a * 4096 + b * 64 + d ≡ w
    sums x y z w a b d e f g = omega arith

-- the character that some bytes begin with
pub character_found : (c : ℕ) (r : List ℕ) → c ≤ 0x10FFFF → character_in (utf8 c ++ r) ≡ c
unfolding character_in
character_found c r h = go (sized c)
  where
    go : Size c → character_in (utf8 c ++ r) ≡ c
    go (one l) = rw (utf8_one c l, lt-ltb c 128 l)
    go (two l k) = rw (utf8_two c l k, le-ltb (192 + c / 64) 128 (omega arith), lt-ltb (192 + c / 64) 224 (omega arith)) (omega arith)
    go (three l k) =
        rw (utf8_three c l k, le-ltb (224 + c / 4096) 128 (omega arith), le-ltb (224 + c / 4096) 224 (omega arith), lt-ltb (224 + c / 4096) 240 (omega arith))
        (omega arith)
    go (four l) =
        rw (utf8_four c l, le-ltb (240 + c / 262144) 128 (omega arith), le-ltb (240 + c / 262144) 224 (omega arith), le-ltb (240 + c / 262144) 240 (omega arith))
        (rw (add_back 240 (c / 262144), add_back 128 (c / 4096 % 64), add_back 128 (c / 64 % 64), add_back 128 (c % 64)) (four_digits c))

-- a byte below 128 at the start is the character itself
pub first_byte : (c b d : ℕ) (r : List ℕ) → b < 128 → eqb (get_or (utf8 c ++ r) 0 d) b ≡ eqb c b
first_byte c b d r h = go (sized c)
  where
    go : Size c → eqb (get_or (utf8 c ++ r) 0 d) b ≡ eqb c b
    go (one l) = rw (utf8_one c l)
    go (two l k) = rw (utf8_two c l k, ne_eqb (192 + c / 64) b (λ e. omega arith), ne_eqb c b (λ e. omega arith))
    go (three l k) = rw (utf8_three c l k, ne_eqb (224 + c / 4096) b (λ e. omega arith), ne_eqb c b (λ e. omega arith))
    go (four l) = rw (utf8_four c l, ne_eqb (240 + c / 262144) b (λ e. omega arith), ne_eqb c b (λ e. omega arith))

-- the first byte tells how many there are
pub width_found : (c : ℕ) (r : List ℕ) → c ≤ 0x10FFFF → width_of (get_or (utf8 c ++ r) 0 0) ≡ length (utf8 c)
width_found c r h = go (sized c)
  where
    go : Size c → width_of (get_or (utf8 c ++ r) 0 0) ≡ length (utf8 c)
    go (one l) = rw (utf8_one c l, lt-ltb c 128 l)
    go (two l k) = rw (utf8_two c l k, le-ltb (192 + c / 64) 128 (omega arith), lt-ltb (192 + c / 64) 224 (omega arith))
    go (three l k) =
        rw (utf8_three c l k, le-ltb (224 + c / 4096) 128 (omega arith), le-ltb (224 + c / 4096) 224 (omega arith), lt-ltb (224 + c / 4096) 240 (omega arith))
    go (four l) =
        rw (utf8_four c l, le-ltb (240 + c / 262144) 128 (omega arith), le-ltb (240 + c / 262144) 224 (omega arith), le-ltb (240 + c / 262144) 240 (omega arith))

-- its other bytes go it on: a second, a third where the first is at least 224, a fourth where it is at least 240
module _ (c : ℕ) (r : List ℕ) where
  pub second_byte : 128 ≤ get_or (utf8 c ++ r) 0 0 → (d : ℕ) × (d < 64) × (get_or (utf8 c ++ r) 1 0 ≡ 128 + d)
  second_byte l = go (sized c)
    where
      go : Size c → (d : ℕ) × (d < 64) × (get_or (utf8 c ++ r) 1 0 ≡ 128 + d)
      go (one k) = let low : 128 ≤ c = rw (utf8_one c k) at l in absurd (omega arith)
      go (two k h) = (c % 64, omega arith, rw (utf8_two c k h))
      go (three k h) = (c / 64 % 64, omega arith, rw (utf8_three c k h))
      go (four k) = (c / 4096 % 64, omega arith, rw (utf8_four c k))

  pub third_byte : 224 ≤ get_or (utf8 c ++ r) 0 0 → (d : ℕ) × (d < 64) × (get_or (utf8 c ++ r) 2 0 ≡ 128 + d)
  third_byte l = go (sized c)
    where
      go : Size c → (d : ℕ) × (d < 64) × (get_or (utf8 c ++ r) 2 0 ≡ 128 + d)
      go (one k) = let low : 224 ≤ c = rw (utf8_one c k) at l in absurd (omega arith)
      go (two k h) = let low : 224 ≤ 192 + c / 64 = rw (utf8_two c k h) at l in absurd (omega arith)
      go (three k h) = (c % 64, omega arith, rw (utf8_three c k h))
      go (four k) = (c / 64 % 64, omega arith, rw (utf8_four c k))

  pub fourth_byte : 240 ≤ get_or (utf8 c ++ r) 0 0 → (d : ℕ) × (d < 64) × (get_or (utf8 c ++ r) 3 0 ≡ 128 + d)
  fourth_byte l = go (sized c)
    where
      go : Size c → (d : ℕ) × (d < 64) × (get_or (utf8 c ++ r) 3 0 ≡ 128 + d)
      go (one k) = let low : 240 ≤ c = rw (utf8_one c k) at l in absurd (omega arith)
      go (two k h) = let low : 240 ≤ 192 + c / 64 = rw (utf8_two c k h) at l in absurd (omega arith)
      go (three k h) = let low : 240 ≤ 224 + c / 4096 = rw (utf8_three c k h) at l in absurd (omega arith)
      go (four k) = (c % 64, omega arith, rw (utf8_four c k))

-- bytes that say a number, and are its own where it has as many
pub two_spelled : (n a d : ℕ) (r : List ℕ) → n ≡ (a - 192) * 64 + d → d < 64 → a < 224 → length (utf8 n) ≡ 2 → utf8 n ++ r ≡ a ∷ (128 + d) ∷ r
two_spelled n a d r e l h w = go (sized n)
  where
    go : Size n → utf8 n ++ r ≡ a ∷ (128 + d) ∷ r
    go (one k) = let z : ◌≡◌ {A = ℕ} 1 2 = rw (utf8_one n k) at w in absurd (omega arith)
    go (two k m) = let x : 192 + n / 64 ≡ a = omega arith in let y : 128 + n % 64 ≡ 128 + d = omega arith in rw (utf8_two n k m, x, y)
    go (three k m) = let z : ◌≡◌ {A = ℕ} 3 2 = rw (utf8_three n k m) at w in absurd (omega arith)
    go (four k) = let z : ◌≡◌ {A = ℕ} 4 2 = rw (utf8_four n k) at w in absurd (omega arith)

pub three_spelled : (n a d f : ℕ) (r : List ℕ) → n ≡ (a - 224) * 4096 + d * 64 + f → d < 64 → f < 64 → 224 ≤ a → a < 240 → length (utf8 n) ≡ 3
    → utf8 n ++ r ≡ a ∷ (128 + d) ∷ (128 + f) ∷ r
three_spelled n a d f r e l p g h w = go (sized n)
  where
    go : Size n → utf8 n ++ r ≡ a ∷ (128 + d) ∷ (128 + f) ∷ r
    go (one k) = let z : ◌≡◌ {A = ℕ} 1 3 = rw (utf8_one n k) at w in absurd (omega arith)
    go (two k m) = let z : ◌≡◌ {A = ℕ} 2 3 = rw (utf8_two n k m) at w in absurd (omega arith)
    go (three k m) =
        let x : 224 + n / 4096 ≡ a = omega arith in
        let q : n / 64 ≡ (a - 224) * 64 + d = omega arith in
        let y : 128 + n / 64 % 64 ≡ 128 + d = rw q (omega arith) in
        let z : 128 + n % 64 ≡ 128 + f = omega arith in
        rw (utf8_three n k m, x, y, z)
    go (four k) = let z : ◌≡◌ {A = ℕ} 4 3 = rw (utf8_four n k) at w in absurd (omega arith)

pub four_spelled : (n a d f g : ℕ) (r : List ℕ) → n ≡ (a - 240) * 262144 + d * 4096 + f * 64 + g → d < 64 → f < 64 → g < 64 → 240 ≤ a → length (utf8 n) ≡ 4
    → utf8 n ++ r ≡ a ∷ (128 + d) ∷ (128 + f) ∷ (128 + g) ∷ r
four_spelled n a d f g r e l p o h w = go (sized n)
  where
    go : Size n → utf8 n ++ r ≡ a ∷ (128 + d) ∷ (128 + f) ∷ (128 + g) ∷ r
    go (one k) = let z : ◌≡◌ {A = ℕ} 1 4 = rw (utf8_one n k) at w in absurd (omega arith)
    go (two k m) = let z : ◌≡◌ {A = ℕ} 2 4 = rw (utf8_two n k m) at w in absurd (omega arith)
    go (three k m) = let z : ◌≡◌ {A = ℕ} 3 4 = rw (utf8_three n k m) at w in absurd (omega arith)
    go (four k) =
        let x : 240 + n / 262144 ≡ a = omega arith in
        let q : n / 4096 ≡ (a - 240) * 64 + d = omega arith in
        let y : 128 + n / 4096 % 64 ≡ 128 + d = rw q (omega arith) in
        let u : n / 64 ≡ ((a - 240) * 64 + d) * 64 + f = omega arith in
        let v : 128 + n / 64 % 64 ≡ 128 + f = rw u (omega arith) in
        let z : 128 + n % 64 ≡ 128 + g = omega arith in
        rw (utf8_four n k, x, y, v, z)

-- a scalar value is at most 0x10FFFF
pub scalar_bound : (c : ℕ) → scalar_allowed c ≡ true → c ≤ 0x10FFFF
scalar_bound c h = leb-true c 0x10FFFF (both_first (leb c 0x10FFFF) (not (between 0xD800 0xDFFF c)) h)

-- a character has at least one byte
pub utf8_some : (c : ℕ) → 1 ≤ length (utf8 c)
utf8_some c = go (sized c)
  where
    go : Size c → 1 ≤ length (utf8 c)
    go (one l) = rw (utf8_one c l) (omega arith)
    go (two l k) = rw (utf8_two c l k) (omega arith)
    go (three l k) = rw (utf8_three c l k) (omega arith)
    go (four l) = rw (utf8_four c l) (omega arith)

-- characters are at most as many as their bytes
pub characters_fewer : (cs : List ℕ) → length cs ≤ length (characters_bytes cs)
unfolding characters_bytes
characters_fewer [] = omega arith
characters_fewer (c ∷ cs) = omega (arith, length-append (utf8 c) (characters_bytes cs), utf8_some c, characters_fewer cs)

-- one character more
one_more : (stop : List ℕ → Bool) (c k : ℕ) (r : List ℕ) → c ≤ 0x10FFFF → stop (utf8 c ++ r) ≡ false
    → characters_to stop (suc k) (utf8 c ++ r) ≡ c ∷ characters_to stop k r
unfolding characters_to
one_more stop c k r h p = go (stop (utf8 c ++ r)) p
  where
    go : (b : Bool) → b ≡ false
        → elim b as (λ _. List ℕ) [
          | true ↦ []
          | false ↦ character_in (utf8 c ++ r) ∷ characters_to stop k (drop (length (utf8 (character_in (utf8 c ++ r)))) (utf8 c ++ r))
        ] ≡ c ∷ characters_to stop k r
    go true e = absurd (true≢false e)
    go false e = rw (character_found c r h, drop-append_seam (utf8 c) r)

-- the characters before a quote
pub to_quote : (cs r : List ℕ) (k : ℕ) → every_byte quotable cs ≡ true → length cs ≤ k → characters_to at_quote k (characters_bytes cs ++ 39 ∷ r) ≡ cs
unfolding characters_to characters_bytes every_byte
to_quote [] r zero h l = refl
to_quote [] r (suc k) h l = refl
to_quote (c ∷ cs) r zero h l = let z : ⊥ = omega arith in absurd z
to_quote (c ∷ cs) r (suc k) h l =
    let q : quotable c ≡ true = both_first (quotable c) (every_byte quotable cs) h in
    let front : scalar_allowed c && not (eqb c 39) ≡ true = both_first (scalar_allowed c && not (eqb c 39)) (not (eqb c 92)) q in
    let other : eqb c 39 ≡ false = not-true (eqb c 39) (both_second (scalar_allowed c) (not (eqb c 39)) front) in
    let rest = characters_bytes cs ++ 39 ∷ r in
    rw (append_assoc (utf8 c) (characters_bytes cs) (39 ∷ r))
    (one_more at_quote c k rest (scalar_bound c (both_first (scalar_allowed c) (not (eqb c 39)) front)) (first_byte c 39 39 rest (omega arith) ∙ other)
    ∙ ap (◌∷◌ c) (to_quote cs r k (both_second (quotable c) (every_byte quotable cs) h) (omega arith)))

-- no `*/` begins at a character of a comment
not_close : (c : ℕ) (cs r : List ℕ) → apart c cs ≡ true → at_close (utf8 c ++ (characters_bytes cs ++ 42 ∷ 47 ∷ r)) ≡ false
unfolding characters_bytes utf8
not_close c cs r h = rw (first_byte c 42 0 (characters_bytes cs ++ 42 ∷ 47 ∷ r) (omega arith)) (go (eqb c 42) refl cs h)
  where
    go : (b : Bool) → eqb c 42 ≡ b → (ds : List ℕ) → apart c ds ≡ true → b && eqb (get_or (utf8 c ++ (characters_bytes ds ++ 42 ∷ 47 ∷ r)) 1 0) 47 ≡ false
    go false e ds h = refl
    go true e [] h = rw (eqb-true c 42 e)
    go true e (d ∷ ds) h =
        rw (eqb-true c 42 e, append_assoc (utf8 d) (characters_bytes ds) (42 ∷ 47 ∷ r))
        (first_byte d 47 0 (characters_bytes ds ++ 42 ∷ 47 ∷ r) (omega arith) ∙ not-true (eqb d 47) (rw e at h))

-- the characters before `*/`
pub to_close : (cs r : List ℕ) (k : ℕ) → every_byte scalar_allowed cs ≡ true → unclosed cs ≡ true → length cs ≤ k
    → characters_to at_close k (characters_bytes cs ++ 42 ∷ 47 ∷ r) ≡ cs
unfolding characters_to characters_bytes every_byte unclosed
to_close [] r zero h u l = refl
to_close [] r (suc k) h u l = refl
to_close (c ∷ cs) r zero h u l = let z : ⊥ = omega arith in absurd z
to_close (c ∷ cs) r (suc k) h u l =
    rw (append_assoc (utf8 c) (characters_bytes cs) (42 ∷ 47 ∷ r))
    (one_more at_close c k (characters_bytes cs ++ 42 ∷ 47 ∷ r) (scalar_bound c (both_first (scalar_allowed c) (every_byte scalar_allowed cs) h))
    (not_close c cs r (both_first (apart c cs) (unclosed cs) u))
    ∙ ap (◌∷◌ c) (to_close cs r k (both_second (scalar_allowed c) (every_byte scalar_allowed cs) h) (both_second (apart c cs) (unclosed cs) u) (omega arith)))

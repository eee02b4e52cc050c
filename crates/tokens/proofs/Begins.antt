-- Bytes that begin with others, and the bytes at the start that pass a test.
use Prim.Native.Nat.{ℕ, zero, suc, ◌+◌, ◌<◌}
use mathlib.Core.List.{List, [], ◌∷◌, ◌++◌, append-nil}
use mathlib.Core.Bool.{Bool, true, false, cond, ◌&&◌, false≢true, and-true}
use mathlib.Core.Logic.{◌⊎◌, inl, inr}
use mathlib.Core.Path.{◌≡◌, refl, ap}
use native.Mathlib.Omega.{arith}
use native.Mathlib.Numerals.{add-one}
use lib.ListN.{length, drop, length-append}
use lib.Dec.{eqb}
use borrow.Author.Tests.{eqb-true, eq-eqb}
use Rattle.names.specs.Name.{every_byte}
use Rattle.file.proofs.Below.{both, both_first, both_second}
use Rattle.tokens.specs.Lex.{leading, begins}

-- ---- bytes that begin with others

pub eqb_self : (n : ℕ) → eqb n n ≡ true
eqb_self n = eq-eqb n n refl

-- what stands on both sides is put aside
pub begins_append : (x y z : List ℕ) → begins (x ++ y) (x ++ z) ≡ begins y z
unfolding begins
begins_append [] y z = refl
begins_append (c ∷ x) y z = rw (eqb_self c) (begins_append x y z)

pub begins_all : (x r : List ℕ) → begins x (x ++ r) ≡ true
unfolding begins
begins_all [] r = refl
begins_all (c ∷ x) r = rw (eqb_self c) (begins_all x r)

-- what bytes begin with, and the bytes after it
pub begins_found : (x s : List ℕ) → begins x s ≡ true → x ++ drop (length x) s ≡ s
unfolding begins
begins_found [] s h = refl
begins_found (c ∷ x) [] h = absurd (false≢true h)
begins_found (c ∷ x) (d ∷ s) h =
    let e : c ≡ d = eqb-true c d (both_first (eqb c d) (begins x s) h) in
    rw e (ap (◌∷◌ d) (begins_found x s (both_second (eqb c d) (begins x s) h)))

-- ---- runs

-- the bytes at the start pass the test, and stand there
pub leading_every : (p : ℕ → Bool) (s : List ℕ) → every_byte p (leading p s) ≡ true
unfolding leading every_byte
leading_every p [] = refl
leading_every p (c ∷ s) = go (p c) refl (leading_every p s)
  where
    go : (b : Bool) → p c ≡ b → every_byte p (leading p s) ≡ true → every_byte p (cond b (c ∷ leading p s) []) ≡ true
    go true e h = both (p c) (every_byte p (leading p s)) e h
    go false e h = refl

pub leading_begins : (p : ℕ → Bool) (s : List ℕ) → begins (leading p s) s ≡ true
unfolding leading begins
leading_begins p [] = refl
leading_begins p (c ∷ s) = go (p c) (leading_begins p s)
  where
    go : (b : Bool) → begins (leading p s) s ≡ true → begins (cond b (c ∷ leading p s) []) (c ∷ s) ≡ true
    go true h = both (eqb c c) (begins (leading p s) s) (eqb_self c) h
    go false h = refl

-- bytes that pass the test are among them
pub leading_append : (p : ℕ → Bool) (x r : List ℕ) → every_byte p x ≡ true → leading p (x ++ r) ≡ x ++ leading p r
unfolding leading every_byte
leading_append p [] r h = refl
leading_append p (c ∷ x) r h = rw (both_first (p c) (every_byte p x) h) (ap (◌∷◌ c) (leading_append p x r (both_second (p c) (every_byte p x) h)))

pub every_append : (p : ℕ → Bool) (x y : List ℕ) → every_byte p x ≡ true → every_byte p y ≡ true → every_byte p (x ++ y) ≡ true
unfolding every_byte
every_append p [] y h k = k
every_append p (c ∷ x) y h k = both (p c) (every_byte p (x ++ y)) (both_first (p c) (every_byte p x) h) (every_append p x y (both_second (p c) (every_byte p x) h) k)

-- what stands after a list, or nothing
pub grown : (x y : List ℕ) → (x ++ y ≡ x) ⊎ (length x < length (x ++ y))
grown x [] = inl (append-nil x)
grown x (c ∷ y) = inr (omega (arith, length-append x (c ∷ y)))

-- a part of what bytes begin with
pub begins_front : (x y s : List ℕ) → begins (x ++ y) s ≡ true → begins x s ≡ true
unfolding begins
begins_front [] y s h = refl
begins_front (c ∷ x) y [] h = h
begins_front (c ∷ x) y (d ∷ s) h =
    both (eqb c d) (begins x s) (both_first (eqb c d) (begins (x ++ y) s) h) (begins_front x y s (both_second (eqb c d) (begins (x ++ y) s) h))

pub every_back : (p : ℕ → Bool) (x y : List ℕ) → every_byte p (x ++ y) ≡ true → every_byte p y ≡ true
unfolding every_byte
every_back p [] y h = h
every_back p (c ∷ x) y h = every_back p x y (both_second (p c) (every_byte p (x ++ y)) h)

pub every_one : (p : ℕ → Bool) (c : ℕ) → p c ≡ true → every_byte p (c ∷ []) ≡ true
unfolding every_byte
every_one p c h = both (p c) true h refl

pub every_first : (p : ℕ → Bool) (c : ℕ) (x : List ℕ) → every_byte p (c ∷ x) ≡ true → p c ≡ true
unfolding every_byte
every_first p c x h = both_first (p c) (every_byte p x) h

pub begins_nothing : (x : List ℕ) (y : ℕ) (z : List ℕ) → begins (x ++ y ∷ z) [] ≡ false
unfolding begins
begins_nothing [] y z = refl
begins_nothing (c ∷ x) y z = refl

-- ---- bytes from a place on

-- bytes that begin with one, and then with others
pub begins_next : (s : List ℕ) (at a : ℕ) (r : List ℕ) → begins (a ∷ r) (drop at s) ≡ begins (a ∷ []) (drop at s) && begins r (drop (at + 1) s)
unfolding begins
begins_next [] zero a r = refl
begins_next [] (suc at) a r = refl
begins_next (c ∷ s) zero a r = rw (and-true (eqb a c))
begins_next (c ∷ s) (suc at) a r = rw (add-one (suc at)) (rw (add-one at) at (begins_next s at a r))

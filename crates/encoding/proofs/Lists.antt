-- Lists after each other, what holds of every element, sums over a list and tests of it.
use Prim.Native.Nat.{ℕ, zero, suc, ◌+◌, ◌≤◌, ◌<◌}
use mathlib.Core.List.{List, [], ◌∷◌, ◌++◌, append_assoc, map, flat_map}
use mathlib.Core.Bool.{Bool, ◌&&◌, and_assoc, and-true}
use mathlib.Core.Path.{◌≡◌, refl, sym, ap, ◌∙◌}
use native.Mathlib.Omega.{arith}
use native.Mathlib.Nat.{zero-add, add-zero, add_assoc}
use lib.ListN.{length, take, drop, get_or, length-append, take-append-drop}
use lib.Seq.{take_at, take-suc}
use Rattle.file.specs.Below.{every, total}
use Rattle.encoding.specs.LawOfText.{all_of}

module _ {A : Type 0} (P : A → Type 0) where
  -- what holds of every element
  abbrev pub All : List A → Type 0
  All [] = Unit {0}
  All (x ∷ xs) = P x × All xs

  pub all_append : (xs ys : List A) → All xs → All ys → All (xs ++ ys)
  all_append [] ys h k = k
  all_append (x ∷ xs) ys h k = (h.0, all_append xs ys h.1 k)

  pub all_at_lem : (xs : List A) (i : ℕ) (d : A) → All xs → i < length xs → P (get_or xs i d)
  all_at_lem [] i d h l = let z : ⊥ = omega arith in absurd z
  all_at_lem (x ∷ xs) zero d h l = h.0
  all_at_lem (x ∷ xs) (suc i) d h l = all_at_lem xs i d h.1 (omega arith)

  pub all_map : {B : Type 0} (f : B → A) (ys : List B) → ((y : B) → P (f y)) → All (map f ys)
  all_map f [] h = tt
  all_map f (y ∷ ys) h = (h y, all_map f ys h)

  pub all-flatMap : {B : Type 0} (f : B → List A) (ys : List B) → ((y : B) → All (f y)) → All (flat_map f ys)
  unfolding flat_map
  all-flatMap f [] h = tt
  all-flatMap f (y ∷ ys) h = all_append (f y) (flat_map f ys) (h y) (all-flatMap f ys h)

module _ {A : Type 0} where
  abbrev pub sum : (A → ℕ) → List A → ℕ
  sum g [] = 0
  sum g (x ∷ xs) = g x + sum g xs

  pub sum_append : (g : A → ℕ) (xs ys : List A) → sum g (xs ++ ys) ≡ sum g xs + sum g ys
  sum_append g [] ys = sym (zero-add (sum g ys))
  sum_append g (x ∷ xs) ys = rw (sum_append g xs ys) (sym (add_assoc (g x) (sum g xs) (sum g ys)))

  pub sum_one : (g : A → ℕ) (x : A) → sum g (x ∷ []) ≡ g x
  sum_one g x = add-zero (g x)

  pub sum_take : (g : A → ℕ) (xs : List A) (n : ℕ) → sum g (take n xs) ≤ sum g xs
  sum_take g xs n =
      let whole : sum g (take n xs) + sum g (drop n xs) ≡ sum g xs = sym (sum_append g (take n xs) (drop n xs)) ∙ ap (sum g) (take-append-drop n xs) in
      omega arith

  -- a sum over the first n numbers is one over the first n elements
  pub total_take : (d : A) (g : A → ℕ) (f : ℕ → ℕ) (xs : List A) (n : ℕ) → n ≤ length xs → ((i : ℕ) → i < length xs → f i ≡ g (get_or xs i d)) → total n f ≡ sum g (take n xs)
  unfolding total
  total_take d g f xs zero l h = refl
  total_take d g f xs (suc n) l h =
      rw (total_take d g f xs n (omega arith) h, h n l, take-suc xs n d l, sum_append g (take n xs) (get_or xs n d ∷ [])) (omega arith)

pub map_at : {A B : Type 0} (f : A → B) (xs : List A) (i : ℕ) (d : A) (e : B) → i < length xs → get_or (map f xs) i e ≡ f (get_or xs i d)
map_at f [] i d e l = let z : ⊥ = omega arith in absurd z
map_at f (x ∷ xs) zero d e l = refl
map_at f (x ∷ xs) (suc i) d e l = map_at f xs i d e (omega arith)

module _ {A B : Type 0} (f : A → List B) where
  pub flatMap-append : (xs ys : List A) → flat_map f (xs ++ ys) ≡ flat_map f xs ++ flat_map f ys
  unfolding flat_map
  flatMap-append [] ys = refl
  flatMap-append (x ∷ xs) ys = rw (flatMap-append xs ys) (sym (append_assoc (f x) (flat_map f xs) (flat_map f ys)))

  pub flatMap-length : (xs : List A) → length (flat_map f xs) ≡ sum (λ x. length (f x)) xs
  unfolding flat_map
  flatMap-length [] = refl
  flatMap-length (x ∷ xs) = rw (length-append (f x) (flat_map f xs), flatMap-length xs)

  -- the lists of the first n elements come first
  pub flatMap-take : (xs : List A) (n : ℕ) → take (sum (λ x. length (f x)) (take n xs)) (flat_map f xs) ≡ flat_map f (take n xs)
  flatMap-take xs n =
      let whole : flat_map f (take n xs) ++ flat_map f (drop n xs) ≡ flat_map f xs = sym (flatMap-append (take n xs) (drop n xs)) ∙ ap (flat_map f) (take-append-drop n xs) in
      rw (← whole) (take_at (flat_map f (take n xs)) (flat_map f (drop n xs)) (sum (λ x. length (f x)) (take n xs)) (flatMap-length (take n xs)))

every_front : (n : ℕ) (p : ℕ → Bool) → every (suc n) p ≡ p 0 && every n (λ i. p (suc i))
unfolding every
every_front zero p = sym (and-true (p 0))
every_front (suc n) p = ap (λ z. z && p (suc n)) (every_front n p) ∙ and_assoc (p 0) (every n (λ i. p (suc i))) (p (suc n))

-- a test of the numbers below a list's length as one of its elements
pub every_list : {A : Type 0} (d : A) (q : A → Bool) (p : ℕ → Bool) (xs : List A) → ((i : ℕ) → i < length xs → p i ≡ q (get_or xs i d)) → every (length xs) p ≡ all_of q xs
unfolding every
every_list d q p [] h = refl
every_list d q p (x ∷ xs) h =
    every_front (length xs) p ∙ rw (h 0 (omega arith), every_list d q (λ i. p (suc i)) xs (λ i l. h (suc i) (omega arith)))

pub all_of_append : {A : Type 0} (p : A → Bool) (xs ys : List A) → all_of p (xs ++ ys) ≡ all_of p xs && all_of p ys
all_of_append p [] ys = refl
all_of_append p (x ∷ xs) ys = rw (all_of_append p xs ys) (sym (and_assoc (p x) (all_of p xs) (all_of p ys)))

-- Lists of variables (law: specs/Variables.antt): where a variable occurs, and how many different ones there are.
use Prim.Native.Nat.{suc, ◌≤◌}
use mathlib.Core.Bool.{Bool, true, false, cond, ◌||◌}
use mathlib.Core.List.{List, [], ◌∷◌, ◌++◌}
use mathlib.Core.Logic.{◌⊎◌, inl, inr}
use mathlib.Core.Path.{◌≡◌, refl, ap, sym, ◌∙◌}
use native.Mathlib.Omega.{arith}
use Rattle.law.specs.Variables.{Variable, same_variable, occurs, distinct}
use Rattle.matching.proofs.SameLaws.{false_not_true, variable_sound, variable_refl}

-- ---- tests

-- one of two tests holds
either : (a b : Bool) → (a || b) ≡ true → (a ≡ true) ⊎ (b ≡ true)
either true b h = inl refl
either false b h = inr h

-- two tests, of which the first or the second holds
or_first : (a b : Bool) → a ≡ true → (a || b) ≡ true
or_first a b h = rw h

or_second : (a b : Bool) → b ≡ true → (a || b) ≡ true
or_second true b h = refl
or_second false b h = h

-- ---- where a variable occurs

-- it is the first, or occurs after it
pub occurs_first : (v : Variable) (l : List Variable) → occurs v (v ∷ l) ≡ true
unfolding occurs
occurs_first v l = or_first (same_variable v v) (occurs v l) (variable_refl v)

pub occurs_later : (v w : Variable) (l : List Variable) → occurs v l ≡ true → occurs v (w ∷ l) ≡ true
unfolding occurs
occurs_later v w l h = or_second (same_variable v w) (occurs v l) h

pub occurs_cases : (v w : Variable) (l : List Variable) → occurs v (w ∷ l) ≡ true → (v ≡ w) ⊎ (occurs v l ≡ true)
unfolding occurs
occurs_cases v w l h = go (either (same_variable v w) (occurs v l) h)
  where
    go : (same_variable v w ≡ true) ⊎ (occurs v l ≡ true) → (v ≡ w) ⊎ (occurs v l ≡ true)
    go (inl e) = inl (variable_sound v w e)
    go (inr k) = inr k

-- in one of two lists
pub occurs_left : (v : Variable) (l m : List Variable) → occurs v l ≡ true → occurs v (l ++ m) ≡ true
unfolding occurs
occurs_left v [] m h = absurd (false_not_true h)
occurs_left v (w ∷ l) m h = go (either (same_variable v w) (occurs v l) h) (occurs_left v l m)
  where
    go : (same_variable v w ≡ true) ⊎ (occurs v l ≡ true) → (occurs v l ≡ true → occurs v (l ++ m) ≡ true)
        → (same_variable v w || occurs v (l ++ m)) ≡ true
    go (inl e) below = or_first (same_variable v w) (occurs v (l ++ m)) e
    go (inr k) below = or_second (same_variable v w) (occurs v (l ++ m)) (below k)

pub occurs_right : (v : Variable) (l m : List Variable) → occurs v m ≡ true → occurs v (l ++ m) ≡ true
unfolding occurs
occurs_right v [] m h = h
occurs_right v (w ∷ l) m h = or_second (same_variable v w) (occurs v (l ++ m)) (occurs_right v l m h)

pub occurs_either : (v : Variable) (l m : List Variable) → occurs v (l ++ m) ≡ true → (occurs v l ≡ true) ⊎ (occurs v m ≡ true)
unfolding occurs
occurs_either v [] m h = inr h
occurs_either v (w ∷ l) m h = go (either (same_variable v w) (occurs v (l ++ m)) h) (occurs_either v l m)
  where
    go : (same_variable v w ≡ true) ⊎ (occurs v (l ++ m) ≡ true) → (occurs v (l ++ m) ≡ true → (occurs v l ≡ true) ⊎ (occurs v m ≡ true))
        → ((same_variable v w || occurs v l) ≡ true) ⊎ (occurs v m ≡ true)
    go (inl e) below = inl (or_first (same_variable v w) (occurs v l) e)
    go (inr k) below = last (below k)
      where
        last : (occurs v l ≡ true) ⊎ (occurs v m ≡ true) → ((same_variable v w || occurs v l) ≡ true) ⊎ (occurs v m ≡ true)
        last (inl e) = inl (or_second (same_variable v w) (occurs v l) e)
        last (inr e) = inr e

-- ---- how many different variables there are

-- a list without a variable
unfoldable without : Variable → List Variable → List Variable
without v [] = []
without v (w ∷ l) = cond (same_variable v w) (without v l) (w ∷ without v l)

-- where it does not occur, that is the list
without_absent : (v : Variable) (l : List Variable) → occurs v l ≡ false → without v l ≡ l
unfolding without occurs
without_absent v [] h = refl
without_absent v (w ∷ l) h = go (same_variable v w) refl h (without_absent v l)
  where
    go : (b : Bool) → same_variable v w ≡ b → (b || occurs v l) ≡ false → (occurs v l ≡ false → without v l ≡ l)
        → cond b (without v l) (w ∷ without v l) ≡ w ∷ l
    go true e q below = absurd (false_not_true (sym q))
    go false e q below = ap {B = List Variable} (λ m. w ∷ m) (below q)

-- the others occur as before
without_other : (v u : Variable) (l : List Variable) → same_variable u v ≡ false → occurs u (without v l) ≡ occurs u l
unfolding without occurs
without_other v u [] h = refl
without_other v u (w ∷ l) h = go (same_variable v w) refl (without_other v u l h)
  where
    go : (b : Bool) → same_variable v w ≡ b → occurs u (without v l) ≡ occurs u l
        → occurs u (cond b (without v l) (w ∷ without v l)) ≡ (same_variable u w || occurs u l)
    go true e below = let i : v ≡ w = variable_sound v w e in rw (← i, h) below
    go false e below = rw below

-- a variable that occurs counts once
distinct_without : (v : Variable) (l : List Variable) → occurs v l ≡ true → distinct l ≡ suc (distinct (without v l))
unfolding without occurs distinct
distinct_without v [] h = absurd (false_not_true h)
distinct_without v (w ∷ l) h = go (same_variable v w) refl (occurs v l) refl h (distinct_without v l)
  where
    go : (b : Bool) → same_variable v w ≡ b → (t : Bool) → occurs v l ≡ t → (b || t) ≡ true
        → (occurs v l ≡ true → distinct l ≡ suc (distinct (without v l)))
        → cond (occurs w l) (distinct l) (suc (distinct l)) ≡ suc (distinct (cond b (without v l) (w ∷ without v l)))
    go true e true o q below = let i : v ≡ w = variable_sound v w e in rw (← i, o) (below o)
    go true e false o q below = let i : v ≡ w = variable_sound v w e in rw (← i, o, without_absent v l o)
    go false e true o q below = rw (without_other v w l (turned e)) (both (occurs w l) (below o))
      where
        turned : same_variable v w ≡ false → same_variable w v ≡ false
        turned f = other (same_variable w v) refl
          where
            other : (b : Bool) → same_variable w v ≡ b → b ≡ false
            other true k = let i : w ≡ v = variable_sound w v k in absurd (false_not_true (sym f ∙ rw i (variable_refl v)))
            other false k = refl

        both : (b : Bool) → distinct l ≡ suc (distinct (without v l))
            → cond b (distinct l) (suc (distinct l)) ≡ suc (cond b (distinct (without v l)) (suc (distinct (without v l))))
        both true k = k
        both false k = rw k
    go false e false o q below = absurd (false_not_true q)

-- a list whose variables all occur in another has no more different ones
pub distinct_fewer : (fewer more : List Variable) → ((v : Variable) → occurs v fewer ≡ true → occurs v more ≡ true) → distinct fewer ≤ distinct more
unfolding occurs distinct
distinct_fewer [] more h = omega arith
distinct_fewer (w ∷ l) more h = go (occurs w l) refl (λ m k. distinct_fewer l m k)
  where
    go : (b : Bool) → occurs w l ≡ b → ((m : List Variable) → ((v : Variable) → occurs v l ≡ true → occurs v m ≡ true) → distinct l ≤ distinct m)
        → cond b (distinct l) (suc (distinct l)) ≤ distinct more
    go true e below = below more (λ v k. h v (occurs_later v w l k))
    go false e below =
        omega (
          arith,
          distinct_without w more (h w (occurs_first w l)),
          below (without w more) (λ v k. rw (without_other w v more (apart v k (same_variable v w) refl)) (h v (occurs_later v w l k))),
        )
      where
        apart : (v : Variable) → occurs v l ≡ true → (b : Bool) → same_variable v w ≡ b → b ≡ false
        apart v k true f = let i : v ≡ w = variable_sound v w f in absurd (false_not_true (sym e ∙ rw (← i) k))
        apart v k false f = refl

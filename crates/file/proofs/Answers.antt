-- Laws of `Answer` (specs/Answer.antt): what is known of the steps where the whole is given or refused.
use Prim.Native.Nat.{ℕ}
use mathlib.Core.Bool.{Bool, true, false}
use mathlib.Core.Path.{◌≡◌, refl}
use native.Mathlib.Omega.{arith}
use Rattle.file.specs.Answer.{Answer, refused, given, refuse_if, map_answer, ◌>>=◌, ◌>>◌}

-- no answer is both
pub never_both : {A : Type 0} (a : A) (n : ℕ) → refused n ≡ given a → ⊥
never_both a n h =
    let z : ◌≡◌ {A = ℕ} 0 1 = cc in
    omega arith

-- what a step gave, for a use of it, where the steps after it give an answer
pub bind_given : {A B R : Type 0} (a : Answer A) (f : A → Answer B) (b : B) → a >>= f ≡ given b
    → ((x : A) → a ≡ given x → f x ≡ given b → R) → R
bind_given (refused n) f b h use-of = absurd (never_both b n h)
bind_given (given x) f b h use-of = use-of x refl h

-- a test that did not refuse, for a use of that
pub pass_given : {B R : Type 0} (n : ℕ) (t : Bool) (after : Answer B) (b : B) → refuse_if n t >> after ≡ given b
    → (t ≡ false → after ≡ given b → R) → R
pass_given n true after b h use-of = absurd (never_both b n h)
pass_given n false after b h use-of = use-of refl h

-- a changed answer is refused where the answer is
pub map_refused : {A B : Type 0} (f : A → B) (a : Answer A) (n : ℕ) → refused n ≡ map_answer f a → a ≡ refused n
map_refused f (refused m) n h = cc
map_refused f (given x) n h = absurd (never_both (f x) n h)

-- a changed answer is given where the answer is
pub map_given : {A B R : Type 0} (f : A → B) (a : Answer A) (b : B) → given b ≡ map_answer f a
    → ((x : A) → a ≡ given x → b ≡ f x → R) → R
map_given f (refused m) b h use-of = absurd (never_both b m (cc))
map_given f (given x) b h use-of = use-of x refl (cc)

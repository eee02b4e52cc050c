-- What a move does to the code's stack: one law for each way out of `push`, `pop` and `perform`.
use Prim.Native.Nat.{ℕ, zero, suc, ◌+◌, ◌-◌, ◌≤◌, ◌<◌}
use mathlib.Core.List.{List, [], ◌∷◌}
use mathlib.Core.Bool.{Bool}
use mathlib.Core.Path.{◌≡◌, refl}
use native.Mathlib.Omega.{arith}
use native.Mathlib.Numerals.{add-one}
use lib.ListN.{length, get_or, set}
use lib.Seq.{get_or-set_same, get_or-set_other}
use borrow.Author.Tests.{ne_eqb}
use Rattle.std.proofs.Common.{nat_eq}
use Rattle.std.specs.Bool.{then_some}
use Rattle.grammar.specs.Accept.{Opened, open_of, perform}
use Rattle.grammar.specs.Code.Machine.{stack_of, stepped}
use Rattle.grammar.specs.declared.stack.Pair.{Pair}
use Rattle.grammar.specs.declared.stack.Pair.TheVariants.{Bracket}
use Rattle.grammar.specs.declared.table.Mode.{Mode}
use Rattle.grammar.specs.declared.table.Move.TheVariants.{Leave}

-- a place that is not used
unused : (d e : ℕ) (s : List Pair) (v : Pair) → d ≤ e → stack_of d (set s e v) ≡ stack_of d s
unfolding stack_of
unused zero e s v h = refl
unused (suc d) e s v h = rw (get_or-set_other s e d v Bracket (λ q. omega arith), unused d e s v (omega arith))

pub stack_push : (d : ℕ) (s : List Pair) (v : Pair) → d < length s → stack_of (d + 1) (set s d v) ≡ open_of v ∷ stack_of d s
unfolding stack_of
stack_push d s v h = rw (add-one d, get_or-set_same s d v Bracket h, unused d d s v (omega arith))

pub stack_top : (d : ℕ) (s : List Pair) → (d ≡ 0 → ⊥) → stack_of d s ≡ open_of (get_or s (d - 1) Bracket) ∷ stack_of (d - 1) s
unfolding stack_of
stack_top zero s h = absurd (h refl)
stack_top (suc d) s h = let e : suc d - 1 ≡ d = omega arith in rw e

pub stack_empty : (d : ℕ) (s : List Pair) → d ≡ 0 → stack_of d s ≡ []
unfolding stack_of
stack_empty d s h = rw h

-- a move where nothing may be open
pub done_leave : (d : ℕ) (s : List Pair) (m : Mode) (then : Mode → List Opened → Bool)
    → perform (Leave m) (stack_of d s) then ≡ stepped (then_some (nat_eq d 0) m) (stack_of d s) then
unfolding stack_of
done_leave zero s m then = refl
done_leave (suc d) s m then = rw (ne_eqb (suc d) 0 (λ e. omega arith))

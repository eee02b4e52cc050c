-- What the loop over all digits uses: the state after those read, and what is kept of the value of all.
use Prim.Native.Nat.{ℕ, ◌+◌, ◌≤◌, ◌<◌}
use mathlib.Core.List.{List, [], ◌∷◌}
use mathlib.Core.Path.{◌≡◌, refl, sym, ◌∙◌}
use native.Mathlib.Omega.{arith}
use native.Mathlib.Numerals.{add-one}
use lib.ListN.{length, drop, get_or, drop_of_length-le}
use lib.Seq.{drop-cons}
use Rattle.numbers.specs.Value.{value_after}
use Rattle.numbers.specs.OnePass.{capped, state_of}
use Rattle.numbers.proofs.CapLaws.{value_grows, capped_after}

-- `i` digits are read, and the state after all digits is that after those left, which are read after the state
pub record StateFrom (ds : List ℕ) (state i : ℕ) : Type 0 where
  pub inside : i ≤ length ds
  pub small : state ≤ 4294967296
  pub left : state_of ds ≡ capped (value_after state (drop i ds))

pub state_start : (ds : List ℕ) → StateFrom ds 0 0
state_start ds = record { inside = omega arith; small = omega arith; left = refl }

module _ {ds : List ℕ} {state i : ℕ} (h : StateFrom ds state i) where
  -- the digit at `i` is read
  pub state_next : {after : ℕ} → i < length ds → after ≡ capped (value_after state (get_or ds i 0 ∷ [])) → StateFrom ds after (i + 1)
  state_next {after} l e = record {
    inside = omega arith;
    small = omega (arith, e);
    left = h.left ∙ (rw (drop-cons ds i 0 l, add-one) refl ∙ (sym (capped_after (value_after state (get_or ds i 0 ∷ [])) (drop (i + 1) ds)) ∙ rw e refl));
  }

  -- the state is past the macrodigits, and stays so
  pub state_past : 4294967296 ≤ state → state ≡ state_of ds
  state_past o = omega (arith, h.left, h.small, value_grows state (drop i ds))

  -- no digit is left
  pub state_end : length ds ≤ i → state ≡ state_of ds
  state_end l =
      let same : state_of ds ≡ capped state = h.left ∙ rw (drop_of_length-le ds {i = i} l) in
      omega (arith, same, h.small)

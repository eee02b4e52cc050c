-- What a part has from each of its terms on (specs/Code/Whole.antt): the part itself, then what its rest has.
use Prim.Native.Nat.{ℕ, zero, suc, ◌≤◌, ◌<◌}
use mathlib.Core.List.{List, [], ◌∷◌}
use mathlib.Core.Path.{◌≡◌, ap}
use native.Mathlib.Omega.{arith}
use native.Mathlib.Decide.{dec_lt}
use lib.ListN.{length}
use lib.Dec.{lit<}
use Rattle.file.proofs.Forest.{rest_falls}
use Rattle.file.specs.Forest.{rest}
use Rattle.law.specs.Runs.{end_of}
use Rattle.std.proofs.lemmas.Iterator.{YieldsList}
use Rattle.std.proofs.lemmas.Iterator.Consumers.{YieldsList-from_shown}
use Rattle.law.specs.declared.whole.Terms.{Terms}
use Rattle.law.specs.Code.Whole.{heads, term_parts, YieldsTerm}
use Rattle.law.proofs.RunLaws.{end_low, end_high, terms_none, terms_node}

pub parts_none : (s : List ℕ) → length s < 24 → term_parts s ≡ []
unfolding term_parts heads
parts_none s h = rw (terms_none s h)

pub parts_node : (s : List ℕ) → 24 ≤ length s → term_parts s ≡ s ∷ term_parts (rest 24 end_of s)
unfolding term_parts heads
parts_node s h = rw (terms_node s h)

-- what holds of too few bytes for a record, and of a part if of what follows its first term, holds of each part
module _ (P : List ℕ → Type 0) (none : (s : List ℕ) → length s < 24 → P s) (node : (s : List ℕ) → 24 ≤ length s → P (rest 24 end_of s) → P s) where
  part_turn : (s : List ℕ) → ((t : List ℕ) → length t < length s → P t) → P s
  part_turn s below = go (dec_lt (length s) 24)
    where
      go : Dec (length s < 24) → P s
      go (yes few) = none s few
      go (no many) = let long : 24 ≤ length s = omega arith in node s long (below _ (rest_falls 24 end_of (lit< tt) end_low end_high s long))

  part_up_to : (n : ℕ) (s : List ℕ) → length s ≤ n → P s
  part_up_to zero s h = none s (omega arith)
  part_up_to (suc n) s h = part_turn s (λ t less. part_up_to n t (omega arith))

  pub each_part : (s : List ℕ) → P s
  each_part s = part_up_to (length s) s (omega arith)

-- the terms that the iterator goes over, as a chain of iterators asks for them
pub YieldsList-from_terms : {s : Terms} (part : List ℕ) → s.0.now ≡ part → YieldsList (λ before item later. YieldsTerm before.0.now item later.0.now) (λ x. x.now) s (term_parts part)
YieldsList-from_terms {s} part e = rw (← e) (YieldsList-from_shown _ _ (λ t. term_parts t.0.now) (λ t u h. ap length h.0) (λ t x u h. h.1) s)

-- Laws for the section of conditions.
use Prim.Native.Nat.{ℕ, ◌+◌, ◌*◌, ◌<◌}
use mathlib.Core.List.{List, [], ◌∷◌, ◌++◌, flat_map}
use mathlib.Core.Bool.{Bool, true, false, cond, ◌&&◌}
use mathlib.Core.Path.{◌≡◌, refl, ◌∙◌}
use native.Mathlib.Numerals.{add-one}
use lib.ListN.{length, drop, get_or}
use lib.Dec.{eqb}
use Rattle.tokens.specs.Token.{Placed}
use Rattle.encoding.specs.Encode.{records_bytes}
use Rattle.encoding.specs.Code.FlatTerms.{inside, kind_at}
use Rattle.encoding.specs.Code.FlatFile.{part_records, part_end, condition_here, within, flat_conditions}
use Rattle.encoding.proofs.Lists.{All, all_append}
use Rattle.encoding.proofs.RecordLaws.{Sized, records_length}
use Rattle.writing.specs.Code.Found.{place_of, conditions_at}
use Rattle.writing.specs.Code.Held.{Held, at_first}
use Rattle.writing.proofs.HeldLaws.{token_at, end_here, after_here, start_here_lem}

-- ---- where one begins

pub comma_outside : (b : Bool) (k : ℕ) → b ≡ false → false ≡ b && eqb k 44
comma_outside b k h = rw h

pub comma_inside : (b : Bool) (k : ℕ) → b ≡ true → eqb k 44 ≡ b && eqb k 44
comma_inside b k h = rw h

-- ---- the record after a token

module _ {ks ss es : List ℕ} {ts : List Placed} (h : Held ks ss es ts) {i : ℕ} (l : i < length ks) (b : Bool) {x : ℕ} (e : x ≡ get_or ks i 0) {t : Bool} (s : t ≡ b && eqb x 44) where
  here_begun : at_first (conditions_at b) (drop i ts) ≡ cond t (condition_here (drop (i + 1) ts) ∷ []) []
  here_begun =
      let at = token_at h i l in
      rw (at.rest, ← at.kind, ← e, ← s, add-one i)

  pub condition_none : t ≡ false → at_first (conditions_at b) (drop i ts) ≡ []
  condition_none n = here_begun ∙ rw n

  pub condition_found : {result colon pattern start close end : ℕ} → t ≡ true → result ≡ part_records inside (drop (i + 1) ts) → colon ≡ place_of 58 (i + 1) ks
      → pattern ≡ part_records inside (drop (colon + 1) ts) → start ≡ get_or ss (i + 1) 0 → close ≡ get_or es colon 0 → end ≡ part_end close (drop (colon + 1) ts)
      → at_first (conditions_at b) (drop i ts) ≡ (result ∷ pattern ∷ start ∷ end ∷ []) ∷ []
  condition_found n r q p st cl en =
      here_begun ∙ rw (n, r, p, st, en, cl, q, end_here h 58 (i + 1), after_here h 58 (i + 1), start_here_lem h (i + 1))

-- ---- the loop

pub conditions_step : {ks ss es : List ℕ} {ts : List Placed} → Held ks ss es ts → (b : Bool) (i : ℕ) {c : Bool} → i < length ks → c ≡ within b (get_or ks i 0)
    → flat_conditions b (drop i ts) ≡ at_first (conditions_at b) (drop i ts) ++ flat_conditions c (drop (i + 1) ts)
conditions_step h b i l e = let t = token_at h i l in rw (e, t.rest, t.kind, add-one i)

-- ---- the section

condition_sized : (b : Bool) (p : Placed) (ps : List Placed) → All (Sized 16) (conditions_at b p ps)
unfolding flat_map
condition_sized b p ps = go (b && eqb (kind_at p) 44)
  where
    go : (x : Bool) → All (Sized 16) (cond x (condition_here ps ∷ []) [])
    go true = (refl, tt)
    go false = tt

conditions_sized : (b : Bool) (ts : List Placed) → All (Sized 16) (flat_conditions b ts)
conditions_sized b [] = tt
conditions_sized b (p ∷ ps) =
    let c = within b (kind_at p) in
    all_append (Sized 16) (conditions_at b p ps) (flat_conditions c ps) (condition_sized b p ps) (conditions_sized c ps)

pub conditions_length : (ts : List Placed) → length (records_bytes (flat_conditions false ts)) ≡ 16 * length (flat_conditions false ts)
conditions_length ts = records_length 16 (flat_conditions false ts) (conditions_sized false ts)

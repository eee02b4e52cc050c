-- Laws for the section of functions.
use Prim.Native.Nat.{ℕ, suc, ◌+◌, ◌-◌, ◌*◌, ◌<◌}
use mathlib.Core.List.{List, [], ◌∷◌, ◌++◌, flat_map}
use mathlib.Core.Bool.{Bool, true, false, cond, ◌&&◌}
use mathlib.Core.Path.{◌≡◌, refl}
use native.Mathlib.Numerals.{add-one}
use lib.ListN.{length, drop, get_or}
use lib.Dec.{eqb}
use borrow.Author.Tests.{eq-eqb, ne_eqb}
use Rattle.tokens.specs.Token.{Placed}
use Rattle.encoding.specs.Encode.{Record, records_bytes}
use Rattle.encoding.specs.Code.FlatTerms.{kind_at}
use Rattle.encoding.specs.Code.FlatFile.{first_is, function_here, functions_at, flat_functions}
use Rattle.encoding.proofs.Lists.{All, all_append}
use Rattle.encoding.proofs.RecordLaws.{Sized, records_length}
use Rattle.writing.specs.Code.Found.{place_of, count_kinds}
use Rattle.writing.specs.Code.Held.{Held, at_first}
use Rattle.writing.proofs.HeldLaws.{token_at, count_here, end_here, first_here, size_of}

-- ---- the record at a token

module _ {ks ss es : List ℕ} {ts : List Placed} (h : Held ks ss es ts) {i : ℕ} (l : i < length ks) {x : ℕ} (e : x ≡ get_or ks i 0) where
  -- no name
  pub function_unnamed : (x ≡ 1 → ⊥) → at_first functions_at (drop i ts) ≡ []
  function_unnamed d = let t = token_at h i l in rw (t.rest, ← t.kind, ← e, ne_eqb x 1 d)

  module _ {y : ℕ} (f : y ≡ get_or ks (i + 1) 0) where
    opens : eqb y 123 ≡ first_is 123 (drop (suc i) ts)
    opens = rw (f, ← add-one i) (first_here h 123 (i + 1) refl)

    -- a name before no brace
    pub function_unopened : (y ≡ 123 → ⊥) → at_first functions_at (drop i ts) ≡ []
    function_unopened d = let t = token_at h i l in rw (t.rest, ← opens, ne_eqb y 123 d) (go (function_here t.here (drop (suc i) ts)) (eqb (kind_at t.here) 1))
      where
        go : (r : Record) (b : Bool) → cond (b && false) (r ∷ []) [] ≡ []
        go r true = refl
        go r false = refl

    pub function_found : {start end size count place last : ℕ} → x ≡ 1 → y ≡ 123 → start ≡ get_or ss i 0 → end ≡ get_or es i 0 → size ≡ end - start
        → count ≡ count_kinds 61 125 (drop (i + 1) ks) → place ≡ place_of 125 (i + 1) ks → last ≡ get_or es place 0
        → at_first functions_at (drop i ts) ≡ (start ∷ size ∷ count ∷ start ∷ last ∷ []) ∷ []
    function_found c d st en sz ct pl la =
        let t = token_at h i l in
        rw (
          sz,
          en,
          st,
          ct,
          la,
          pl,
          t.rest,
          ← opens,
          eq-eqb y 123 d,
          ← t.kind,
          ← e,
          eq-eqb x 1 c,
          t.start,
          t.end,
          size_of t.here,
          count_here h 61 125 (i + 1),
          end_here h 125 (i + 1),
          add-one i,
        )

-- ---- the loop

pub functions_step : {ks ss es : List ℕ} {ts : List Placed} → Held ks ss es ts → (i : ℕ) → i < length ks
    → flat_functions (drop i ts) ≡ at_first functions_at (drop i ts) ++ flat_functions (drop (i + 1) ts)
functions_step h i l = rw ((token_at h i l).rest, add-one i)

-- ---- the section

function_sized : (p : Placed) (ps : List Placed) → All (Sized 20) (functions_at p ps)
unfolding flat_map
function_sized p ps = go (eqb (kind_at p) 1 && first_is 123 ps)
  where
    go : (b : Bool) → All (Sized 20) (cond b (function_here p ps ∷ []) [])
    go true = (refl, tt)
    go false = tt

functions_sized : (ts : List Placed) → All (Sized 20) (flat_functions ts)
functions_sized [] = tt
functions_sized (p ∷ ps) = all_append (Sized 20) (functions_at p ps) (flat_functions ps) (function_sized p ps) (functions_sized ps)

pub functions_length : (ts : List Placed) → length (records_bytes (flat_functions ts)) ≡ 20 * length (flat_functions ts)
functions_length ts = records_length 20 (flat_functions ts) (functions_sized ts)

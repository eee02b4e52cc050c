-- Laws for the section of terms.
use Prim.Native.Nat.{ℕ, suc, ◌+◌, ◌-◌, ◌*◌, ◌<◌}
use mathlib.Core.List.{List, [], ◌∷◌, ◌++◌, flat_map}
use mathlib.Core.Bool.{Bool, true, false, cond}
use mathlib.Core.Path.{◌≡◌, refl, ap, ◌∙◌}
use native.Mathlib.Numerals.{add-one}
use lib.ListN.{length, drop, get_or}
use lib.Dec.{eqb}
use borrow.Author.Tests.{eq-eqb, ne_eqb}
use Rattle.tokens.specs.Token.{utf8, identifier, number, variable, quoted, Token, sign, atom, Placed}
use Rattle.encoding.specs.Encode.{records_bytes, character_records}
use Rattle.encoding.specs.Code.FlatTerms.{Where, outside, inside, calling, where_after, own_records, own, kind_at, end_at, scan, terms_at, flat_terms}
use Rattle.encoding.proofs.Lists.{All, all_append}
use Rattle.encoding.proofs.RecordLaws.{Sized, records_length}
use Rattle.buffers.specs.Code.Put.{Put}
use Rattle.writing.specs.Code.Held.{Held, Stands, Stand, at_first}
use Rattle.writing.specs.Code.Found.{run_state, bracket_at, call_at}
use Rattle.writing.specs.Code.Closers.{called_at}
use Rattle.writing.proofs.HeldLaws.{token_at, start_here_lem, length_here}
use Rattle.writing.proofs.PartLaws.{stands_at}
use Rattle.writing.proofs.ScanLaws.{scan_end}

-- ---- brackets and calls

module _ {ks ss es : List ℕ} {ts : List Placed} (h : Held ks ss es ts) {i : ℕ} (l : i < length ks) where
  called_behind : called_at ks (i + 1) ≡ eqb (get_or ks i 0) 60
  called_behind = rw (add-one i)

  pub bracket_found : {records start end : ℕ} → get_or ks i 0 ≡ 40 → records ≡ (scan (run_state (called_at ks (i + 1))) 0 (drop (i + 1) ts)).records → start ≡ get_or ss i 0
      → end ≡ (scan inside 0 (drop (i + 1) ts)).end → at_first bracket_at (drop i ts) ≡ (6 ∷ 0 ∷ 0 ∷ records ∷ start ∷ end ∷ []) ∷ []
  bracket_found q r s e = let at = token_at h i l in ap (at_first bracket_at) at.rest ∙ rw (r, s, e, called_behind, q, at.start, add-one i)

  pub call_found_lem : {records start end name last size : ℕ} → get_or ks i 0 ≡ 60 → name ≡ get_or ss (i + 1) 0 → last ≡ get_or es (i + 1) 0 → size ≡ last - name
      → records ≡ (scan (run_state (called_at ks (i + 1))) 0 (drop (i + 1) ts)).records → start ≡ get_or ss i 0 → end ≡ (scan inside 0 (drop (i + 1) ts)).end
      → at_first call_at (drop i ts) ≡ (7 ∷ name ∷ size ∷ records ∷ start ∷ end ∷ []) ∷ []
  call_found_lem q n la z r s e =
      let at = token_at h i l in
      ap (at_first call_at) at.rest
      ∙ rw (
        z,
        la,
        n,
        r,
        called_behind,
        q,
        s,
        e,
        at.start,
        start_here_lem h (i + 1),
        add-one i,
        ← length_here h (suc i),
        scan_end calling inside 0 (drop (suc i) ts),
      )
      (rw (start_here_lem h (suc i)))

  -- ---- by kind

  module _ {k : ℕ} (e : k ≡ get_or ks i 0) (w : Where) where
    pub term_bracket : k ≡ 40 → at_first (terms_at w) (drop i ts) ≡ at_first bracket_at (drop i ts)
    term_bracket q = let at = token_at h i l in rw (at.rest, ← at.kind, ← e, eq-eqb k 40 q)

    module _ (d : k ≡ 40 → ⊥) where
      pub term_call : k ≡ 60 → at_first (terms_at w) (drop i ts) ≡ at_first call_at (drop i ts)
      term_call q = let at = token_at h i l in rw (at.rest, ← at.kind, ← e, ne_eqb k 40 d, eq-eqb k 60 q)

      pub term_own : (k ≡ 60 → ⊥) → at_first (terms_at w) (drop i ts) ≡ own w (token_at h i l).here
      term_own f = let at = token_at h i l in rw (at.rest, ← at.kind, ← e, ne_eqb k 40 d, ne_eqb k 60 f)

-- outside braces, and the name of a call
own_outside : (at : ℕ) (t : Token) → own_records outside at t ≡ []
own_outside at (sign g) = refl
own_outside at (atom a) = refl

own_calling : (at : ℕ) (t : Token) → own_records calling at t ≡ []
own_calling at (sign g) = refl
own_calling at (atom a) = refl

module _ {ks ss es : List ℕ} {ts : List Placed} (h : Held ks ss es ts) {i : ℕ} (l : i < length ks) {k : ℕ} (e : k ≡ get_or ks i 0) (d : k ≡ 40 → ⊥) (f : k ≡ 60 → ⊥) where
  pub outside_none : at_first (terms_at outside) (drop i ts) ≡ []
  outside_none = let at = (token_at h i l).here in term_own h l e outside d f ∙ own_outside at.start at.what

  pub calling_none : at_first (terms_at calling) (drop i ts) ≡ []
  calling_none = let at = (token_at h i l).here in term_own h l e calling d f ∙ own_calling at.start at.what

  pub term_atom : (text : List ℕ) {start end at next : ℕ} {old last : List ℕ} → Stand text ts → start ≡ get_or ss i 0 → end ≡ get_or es i 0
      → ((p : Placed) → k ≡ kind_at p → start ≡ p.start → end ≡ end_at p → Stands text p → Put old at (records_bytes (own inside p)) next last)
      → Put old at (records_bytes (at_first (terms_at inside) (drop i ts))) next last
  term_atom text st s t put =
      let token = token_at h i l in
      rw (term_own h l e inside d f) (put token.here (e ∙ token.kind) (s ∙ token.start) (t ∙ token.end) (stands_at text st token))

-- ---- the loop

pub terms_step : {ks ss es : List ℕ} {ts : List Placed} → Held ks ss es ts → (w : Where) (i : ℕ) {v : Where} → i < length ks → v ≡ where_after w (get_or ks i 0)
    → flat_terms w (drop i ts) ≡ at_first (terms_at w) (drop i ts) ++ flat_terms v (drop (i + 1) ts)
terms_step h w i l e = let t = token_at h i l in rw (e, t.rest, t.kind, add-one i)

-- ---- the section

characters_sized : (at : ℕ) (cs : List ℕ) → All (Sized 24) (character_records at cs)
unfolding character_records flat_map
characters_sized at [] = tt
characters_sized at (c ∷ cs) = (refl, characters_sized (at + length (utf8 c)) cs)

own_sized : (w : Where) (at : ℕ) (t : Token) → All (Sized 24) (own_records w at t)
unfolding flat_map
own_sized w at (sign g) = tt
own_sized outside at (atom a) = tt
own_sized inside at (atom (identifier x)) = (refl, tt)
own_sized inside at (atom (number x)) = (refl, tt)
own_sized inside at (atom (variable k x)) = (refl, tt)
own_sized inside at (atom (quoted cs)) = characters_sized (at + 1) cs
own_sized calling at (atom a) = tt

term_sized : (w : Where) (p : Placed) (ps : List Placed) → All (Sized 24) (terms_at w p ps)
unfolding flat_map
term_sized w p ps = go (eqb (kind_at p) 40) (eqb (kind_at p) 60)
  where
    go : (x y : Bool) → All (Sized 24) (cond x (bracket_at p ps) (cond y (call_at p ps) (own w p)))
    go true y = (refl, tt)
    go false true = (refl, tt)
    go false false = own_sized w p.start p.what

terms_sized : (w : Where) (ts : List Placed) → All (Sized 24) (flat_terms w ts)
terms_sized w [] = tt
terms_sized w (p ∷ ps) =
    let v = where_after w (kind_at p) in
    all_append (Sized 24) (terms_at w p ps) (flat_terms v ps) (term_sized w p ps) (terms_sized v ps)

pub terms_length : (ts : List Placed) → length (records_bytes (flat_terms outside ts)) ≡ 24 * length (flat_terms outside ts)
terms_length ts = records_length 24 (flat_terms outside ts) (terms_sized outside ts)

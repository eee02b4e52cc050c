-- Laws for the section of sentences.
use Prim.Native.Nat.{ℕ, ◌+◌, ◌*◌, ◌<◌}
use mathlib.Core.List.{List, [], ◌∷◌, ◌++◌, flat_map}
use mathlib.Core.Bool.{Bool, true, false, cond, not, ◌&&◌, ◌||◌, true≢false, false≢true}
use mathlib.Core.Path.{◌≡◌, refl, sym, ◌∙◌}
use native.Mathlib.Numerals.{add-one}
use lib.ListN.{length, drop, get_or}
use lib.Dec.{eqb}
use borrow.Author.Tests.{eq-eqb, ne_eqb}
use Rattle.tokens.specs.Token.{Placed}
use Rattle.encoding.specs.Encode.{Record, records_bytes}
use Rattle.encoding.specs.Code.FlatTerms.{inside, kind_at}
use Rattle.encoding.specs.Code.FlatFile.{part_records, part_end, first_is, sentence_here, within, flat_sentences}
use Rattle.encoding.proofs.Lists.{All, all_append}
use Rattle.encoding.proofs.RecordLaws.{Sized, records_length}
use Rattle.writing.specs.Code.Found.{place_of, count_kinds, sentence_begins, sentences_at}
use Rattle.writing.specs.Code.Held.{Held, at_first}
use Rattle.writing.proofs.HeldLaws.{token_at, count_here, end_here, after_here, start_here_lem, first_here}

-- ---- where one begins

pub begins_closed : (b : Bool) (k after : ℕ) → after ≡ 125 → false ≡ sentence_begins b k after
begins_closed b k after h = go (eqb k 123 || (b && eqb k 59)) (eqb after 125) (eq-eqb after 125 h)
  where
    go : (x y : Bool) → y ≡ true → false ≡ x && not y
    go true true e = refl
    go false true e = refl
    go x false e = absurd (false≢true e)

module _ (b : Bool) (k after : ℕ) (d : after ≡ 125 → ⊥) where
  pub begins_braced : k ≡ 123 → true ≡ sentence_begins b k after
  begins_braced h = rw (eq-eqb k 123 h, ne_eqb after 125 d)

  pub begins_outside : (k ≡ 123 → ⊥) → b ≡ false → false ≡ sentence_begins b k after
  begins_outside f h = rw (ne_eqb k 123 f, h)

  pub begins_parted : (k ≡ 123 → ⊥) → b ≡ true → eqb k 59 ≡ sentence_begins b k after
  begins_parted f h = rw (ne_eqb k 123 f, h, ne_eqb after 125 d) (go (eqb k 59))
    where
      go : (x : Bool) → x ≡ x && true
      go true = refl
      go false = refl

-- ---- the record after a token

module _ {ks ss es : List ℕ} {ts : List Placed} (h : Held ks ss es ts) {i : ℕ} (l : i < length ks) (b : Bool) {x y : ℕ} (e : x ≡ get_or ks i 0) (f : y ≡ get_or ks (i + 1) 0) where
  abbrev begun : Bool
  begun = eqb x 123 || (b && eqb x 59)

  here_parts : at_first (sentences_at b) (drop i ts) ≡ cond begun (cond (eqb y 125) [] (sentence_here (drop (i + 1) ts) ∷ [])) []
  here_parts =
      let t = token_at h i l in
      rw (t.rest, ← t.kind, ← e, f, first_here h 125 (i + 1) refl, add-one i)

  pub sentence_none : {t : Bool} → t ≡ sentence_begins b x y → t ≡ false → at_first (sentences_at b) (drop i ts) ≡ []
  sentence_none s n = here_parts ∙ go (sentence_here (drop (i + 1) ts) ∷ []) begun (eqb y 125) (sym s ∙ n)
    where
      go : (r : List Record) (p q : Bool) → p && not q ≡ false → cond p (cond q [] r) [] ≡ []
      go r true true k = refl
      go r true false k = absurd (true≢false k)
      go r false q k = refl

  pub sentence_found : {t : Bool} {pattern conditions equals result start close end : ℕ} → t ≡ sentence_begins b x y → t ≡ true
      → pattern ≡ part_records inside (drop (i + 1) ts) → conditions ≡ count_kinds 58 61 (drop (i + 1) ks) → equals ≡ place_of 61 (i + 1) ks
      → result ≡ part_records inside (drop (equals + 1) ts) → start ≡ get_or ss (i + 1) 0 → close ≡ get_or es equals 0 → end ≡ part_end close (drop (equals + 1) ts)
      → at_first (sentences_at b) (drop i ts) ≡ (pattern ∷ conditions ∷ result ∷ start ∷ end ∷ []) ∷ []
  sentence_found s n p c q r st cl en =
      here_parts ∙ (go (sentence_here (drop (i + 1) ts) ∷ []) begun (eqb y 125) (sym s ∙ n)
      ∙ rw (
        p,
        c,
        r,
        st,
        en,
        cl,
        q,
        count_here h 58 61 (i + 1),
        end_here h 61 (i + 1),
        after_here h 61 (i + 1),
        start_here_lem h (i + 1),
      ))
    where
      go : (r : List Record) (p q : Bool) → p && not q ≡ true → cond p (cond q [] r) [] ≡ r
      go r true true k = absurd (false≢true k)
      go r true false k = refl
      go r false q k = absurd (false≢true k)

-- ---- the loop

pub sentences_step : {ks ss es : List ℕ} {ts : List Placed} → Held ks ss es ts → (b : Bool) (i : ℕ) {c : Bool} → i < length ks → c ≡ within b (get_or ks i 0)
    → flat_sentences b (drop i ts) ≡ at_first (sentences_at b) (drop i ts) ++ flat_sentences c (drop (i + 1) ts)
sentences_step h b i l e = let t = token_at h i l in rw (e, t.rest, t.kind, add-one i)

-- ---- the section

sentence_sized : (b : Bool) (p : Placed) (ps : List Placed) → All (Sized 20) (sentences_at b p ps)
unfolding flat_map
sentence_sized b p ps = go (eqb (kind_at p) 123 || (b && eqb (kind_at p) 59)) (first_is 125 ps)
  where
    go : (x y : Bool) → All (Sized 20) (cond x (cond y [] (sentence_here ps ∷ [])) [])
    go true true = tt
    go true false = (refl, tt)
    go false y = tt

sentences_sized : (b : Bool) (ts : List Placed) → All (Sized 20) (flat_sentences b ts)
sentences_sized b [] = tt
sentences_sized b (p ∷ ps) =
    let c = within b (kind_at p) in
    all_append (Sized 20) (sentences_at b p ps) (flat_sentences c ps) (sentence_sized b p ps) (sentences_sized c ps)

pub sentences_length : (ts : List Placed) → length (records_bytes (flat_sentences false ts)) ≡ 20 * length (flat_sentences false ts)
sentences_length ts = records_length 20 (flat_sentences false ts) (sentences_sized false ts)

-- Laws for the loop over the characters of a quoted run: one for each way out, and for a character more.
use Prim.Native.Nat.{ℕ, suc, ◌+◌, ◌≤◌, ◌<◌}
use mathlib.Core.List.{List, [], ◌∷◌, ◌++◌, append_assoc}
use mathlib.Core.Bool.{Bool, true, false, not, ◌&&◌}
use mathlib.Core.Option.{none, some}
use mathlib.Core.Path.{◌≡◌, refl, sym, ap, ◌∙◌}
use native.Mathlib.Omega.{arith}
use native.Mathlib.Numerals.{add-one}
use lib.ListN.{length, drop, get_or, length-append, length-drop}
use lib.Seq.{drop-cons}
use lib.Dec.{eqb, ltb}
use borrow.Author.Tests.{eqb-true, eqb-false, eq-eqb, ne_eqb, ltb-true, ltb-false}
use Rattle.names.specs.Name.{every_byte}
use Rattle.file.specs.Fields.{scalar_allowed}
use Rattle.file.proofs.Below.{both, second_fails_lem}
use Rattle.tokens.specs.Token.{utf8, characters_bytes, quoted, quotable, atom_bytes, atom, token}
use Rattle.tokens.specs.Lex.{begins, character_in, characters_to, at_quote, guess, checked, next}
use Rattle.tokens.specs.Code.Found.{CharacterAt, found_at}
use Rattle.tokens.proofs.CharacterLaws.{first_here, ascii_stands}
use Rattle.tokens.proofs.Utf8.{first_byte, utf8_some}
use Rattle.tokens.proofs.Begins.{begins_found}
use Rattle.tokens.proofs.NextPiece.{quoted_next}
use Rattle.tokens.proofs.Passed.{bytes_one, Passed, passed_start, passed_next, passed_bad, passed_over, passed_all}
use Rattle.std.proofs.Common.{Some, None}
use Rattle.tokens.specs.declared.kinds.Kind.TheVariants.{Quoted}
use Rattle.tokens.specs.declared.pieces.Found.TheVariants.{Token as Tokened}

-- where the characters before the next quote are not allowed or do not stand, there is no quoted run
quote_fails : (r : List ℕ) → every_byte quotable (characters_to at_quote (length r) r) && begins (characters_bytes (characters_to at_quote (length r) r) ++ (39 ∷ [])) r ≡ false
    → next (39 ∷ r) ≡ none
unfolding next guess begins
quote_fails r h = go (characters_to at_quote (length r) r) h
  where
    go : (cs : List ℕ) → every_byte quotable cs && begins (characters_bytes cs ++ (39 ∷ [])) r ≡ false → checked (39 ∷ r) (some (token (atom (quoted cs)))) ≡ none
    go [] e = refl
    go (c ∷ cs) e = rw e

quote_empty : (r : List ℕ) → characters_to at_quote (length r) r ≡ [] → next (39 ∷ r) ≡ none
unfolding next guess begins
quote_empty r h = rw h

quote_stops : (s : List ℕ) (i : ℕ) → i < length s → get_or s i 0 ≡ 39 → at_quote (drop i s) ≡ true
quote_stops s i l e = rw (drop-cons s i 0 l) (eq-eqb (get_or s i 0) 39 e)

quote_goes : (s : List ℕ) (i : ℕ) → i < length s → (get_or s i 0 ≡ 39 → ⊥) → at_quote (drop i s) ≡ false
quote_goes s i l e = rw (drop-cons s i 0 l) (ne_eqb (get_or s i 0) 39 e)

-- a character that stands is no quote where no quote stands
not_quote : (s : List ℕ) (c : ℕ) → begins (utf8 c) s ≡ true → at_quote s ≡ false → eqb c 39 ≡ false
not_quote s c b n =
    let whole : utf8 c ++ drop (length (utf8 c)) s ≡ s = begins_found (utf8 c) s b in
    sym (first_byte c 39 39 (drop (length (utf8 c)) s) (omega arith)) ∙ rw whole n

-- the loop over the characters of a quoted run whose quote stands at byte `at`
pub record Quoting (s : List ℕ) (at i : ℕ) : Type 0 where
  pub small : length s ≤ 4096
  pub inside : at < length s
  pub quote : get_or s at 0 ≡ 39
  pub passed : Passed at_quote quotable (length (drop (at + 1) s)) s (at + 1) i

pub quoting_start : (s : List ℕ) (at : ℕ) → (length s ≤ 4096) × (at < length s) × (get_or s at 0 ≡ 39) → Quoting s at (at + 1)
quoting_start s at h =
    record {
      small = h.0;
      inside = h.1;
      quote = h.2;
      passed = passed_start at_quote quotable (length (drop (at + 1) s)) s (at + 1) (omega (arith, h.1)) (omega (arith, length-drop (at + 1) s));
    }

module _ {s : List ℕ} {at i : ℕ} (h : Quoting s at i) where
  quote_here : drop at s ≡ 39 ∷ drop (at + 1) s
  quote_here = drop-cons s at 0 h.inside ∙ rw (h.quote, add-one at)

  none_found : next (39 ∷ drop (at + 1) s) ≡ none → None ≡ found_at at (next (drop at s))
  none_found f = rw (quote_here, f)

  -- the text ends before a quote
  pub quoting_over : length s ≤ i → None ≡ found_at at (next (drop at s))
  quoting_over k = none_found (quote_fails (drop (at + 1) s) (passed_over h.passed 39 [] k))

  -- no character stands here
  pub quoting_broken : i < length s → (get_or s i 0 ≡ 39 → ⊥) → CharacterAt (drop i s) None → None ≡ found_at at (next (drop at s))
  quoting_broken k n f =
      none_found (quote_fails (drop (at + 1) s) (passed_bad h.passed (39 ∷ []) k (quote_goes s i k n) (go (scalar_allowed c) f)))
    where
      c : ℕ
      c = character_in (drop i s)

      go : (x : Bool) → x && begins (utf8 c) (drop i s) ≡ false → (x && not (eqb c 39) && not (eqb c 92)) && begins (utf8 c) (drop i s) ≡ false
      go false f = refl
      go true f = second_fails_lem (true && not (eqb c 39) && not (eqb c 92)) (begins (utf8 c) (drop i s)) f

  -- a backslash
  pub quoting_backslash : {c w : ℕ} → i < length s → (get_or s i 0 ≡ 39 → ⊥) → CharacterAt (drop i s) (Some (c, w)) → c ≡ 92
      → None ≡ found_at at (next (drop at s))
  quoting_backslash k n f z =
      let q = f in
      none_found (quote_fails (drop (at + 1) s) (passed_bad h.passed (39 ∷ []) k (quote_goes s i k n) (rw (← q.0, z) refl)))

  -- a character more
  pub quoting_next : {c w : ℕ} → i < length s → (get_or s i 0 ≡ 39 → ⊥) → CharacterAt (drop i s) (Some (c, w)) → (c ≡ 92 → ⊥) → Quoting s at (i + w)
  quoting_next {c = c} {w = w} k n f z =
      let q = f in
      record {
        small = h.small;
        inside = h.inside;
        quote = h.quote;
        passed =
            passed_next h.passed c w k (quote_goes s i k n) q.0
            (both (scalar_allowed c && not (eqb c 39)) (not (eqb c 92))
            (both (scalar_allowed c) (not (eqb c 39)) q.1 (ap not (not_quote (drop i s) c q.2 (quote_goes s i k n))))
            (ap not (ne_eqb c 92 z))) q.2 q.3;
      }

  -- which ends in the text, past its start
  pub quoting_within : {c w : ℕ} → i < length s → (get_or s i 0 ≡ 39 → ⊥) → CharacterAt (drop i s) (Some (c, w)) → (c ≡ 92 → ⊥)
      → (i + w ≤ length s) × (1 ≤ w) × (length s ≤ 4096)
  quoting_within k n f z =
      let q = f in
      ((quoting_next k n f z).passed.inside, q.4, h.small)

  -- a quote after no character
  pub quoting_empty : i < length s → get_or s i 0 ≡ 39 → i ≡ at + 1 → None ≡ found_at at (next (drop at s))
  quoting_empty k n z = none_found (quote_empty (drop (at + 1) s) (passed_all h.passed (quote_stops s i k n) ∙ go h.passed.found h.passed.place))
    where
      go : (cs : List ℕ) → i ≡ at + 1 + length (characters_bytes cs) → cs ≡ []
      go [] p = refl
      go (c ∷ cs) p = let y : ⊥ = omega (arith, z, ap length (bytes_one c cs), length-append (utf8 c) (characters_bytes cs), utf8_some c) in absurd y

  -- a quote after some
  pub quoting_found : i < length s → get_or s i 0 ≡ 39 → (i ≡ at + 1 → ⊥) → Some (Tokened Quoted (i + 1)) ≡ found_at at (next (drop at s))
  unfolding characters_bytes
  quoting_found k n z = go h.passed.found h.passed.every h.passed.place h.passed.bytes
    where
      go : (cs : List ℕ) → every_byte quotable cs ≡ true → i ≡ at + 1 + length (characters_bytes cs) → characters_bytes cs ++ drop i s ≡ drop (at + 1) s
          → Some (Tokened Quoted (i + 1)) ≡ found_at at (next (drop at s))
      go [] v p b = absurd (z (omega arith))
      go (c ∷ cs) v p b =
          let whole : drop at s ≡ atom_bytes (quoted (c ∷ cs)) ++ drop (suc i) s =
          quote_here ∙ ap (λ x. 39 ∷ x) (sym b ∙ rw (drop-cons s i 0 k, n) (sym (append_assoc (characters_bytes (c ∷ cs)) (39 ∷ []) (drop (suc i) s)))) in
          let took : next (drop at s) ≡ some (token (atom (quoted (c ∷ cs)))) = rw whole (quoted_next (c ∷ cs) (drop (suc i) s) v v) in
          let size : i + 1 ≡ at + length (atom_bytes (quoted (c ∷ cs))) = omega (arith, p, length-append (characters_bytes (c ∷ cs)) (39 ∷ [])) in
          rw (took, size)

  -- the next of the characters, or none
  module _ {c w : ℕ} (f : CharacterAt (drop i s) (Some (c, w))) where
    pub is_quote : c ≡ 39 → (i < length s) × (get_or s i 0 ≡ 39)
    is_quote e = let first = first_here s i c w 39 (omega arith) f in (first.0, eqb-true (get_or s i 0) 39 (first.1 ∙ eq-eqb c 39 e))

    pub no_quote : (c ≡ 39 → ⊥) → (i < length s) × (get_or s i 0 ≡ 39 → ⊥)
    no_quote e = let first = first_here s i c w 39 (omega arith) f in (first.0, eqb-false (get_or s i 0) 39 (first.1 ∙ ne_eqb c 39 e))

  pub quoting_none : CharacterAt (drop i s) None → None ≡ found_at at (next (drop at s))
  quoting_none f = go (ltb i (length s)) refl
    where
      go : (b : Bool) → ltb i (length s) ≡ b → None ≡ found_at at (next (drop at s))
      go true t =
          let l = ltb-true i (length s) t in
          quoting_broken l (λ e. ascii_stands 39 (drop (suc i) s) (omega arith) (rw (drop-cons s i 0 l, e) at f)) f
      go false t = quoting_over (ltb-false i (length s) t)

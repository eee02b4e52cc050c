-- Laws for the loop over the characters of a comment: one for each way out, and for a character more.
use Prim.Native.Nat.{ℕ, zero, suc, ◌+◌, ◌≤◌, ◌<◌}
use mathlib.Core.List.{List, [], ◌∷◌, ◌++◌, append_assoc, nil≢cons}
use mathlib.Core.Bool.{Bool, true, false, not, ◌&&◌, true≢false, and-true}
use mathlib.Core.Option.{none, some}
use mathlib.Core.Path.{◌≡◌, refl, sym, ap, ◌∙◌}
use native.Mathlib.Omega.{arith}
use native.Mathlib.Numerals.{add-one}
use native.Mathlib.Nat.{add_assoc}
use lib.ListN.{length, drop, get_or, length-append, length-drop}
use lib.Seq.{drop-cons, drop-drop, drop-append_seam}
use lib.Dec.{eqb, ltb}
use borrow.Author.Tests.{eqb-true, eqb-false, eq-eqb, ne_eqb, ltb-true, ltb-false}
use Rattle.names.specs.Name.{every_byte}
use Rattle.file.specs.Fields.{scalar_allowed}
use Rattle.file.proofs.Below.{both, second_fails_lem}
use Rattle.tokens.specs.Token.{utf8, characters_bytes, comment, apart, unclosed, piece_bytes}
use Rattle.tokens.specs.Lex.{begins, character_in, characters_to, at_close, guess, checked, next}
use Rattle.tokens.specs.Code.Found.{CharacterAt, found_at}
use Rattle.tokens.proofs.CharacterLaws.{ascii_stands, first_here}
use Rattle.tokens.proofs.Utf8.{utf8_one, first_byte}
use Rattle.tokens.proofs.Begins.{begins_found}
use Rattle.tokens.proofs.NextPiece.{comment_next}
use Rattle.tokens.proofs.Passed.{bytes_one, Passed, passed_start, passed_next, passed_bad, passed_over, passed_all}
use Rattle.std.proofs.Common.{Some, None}
use Rattle.tokens.specs.declared.pieces.Found.TheVariants.{Between}

eqb_turn : (a b : ℕ) → eqb a b ≡ eqb b a
eqb_turn a b = go (eqb a b) refl
  where
    go : (x : Bool) → eqb a b ≡ x → x ≡ eqb b a
    go true e = sym (eq-eqb b a (sym (eqb-true a b e)))
    go false e = sym (ne_eqb b a (λ q. eqb-false a b e (sym q)))

close_same : (s : List ℕ) → begins (42 ∷ 47 ∷ []) s ≡ at_close s
unfolding begins
close_same [] = refl
close_same (a ∷ []) = rw (eqb_turn 42 a)
close_same (a ∷ b ∷ s) = rw (eqb_turn 42 a, eqb_turn 47 b, and-true (eqb b 47))

comment_fails : (r : List ℕ) → every_byte scalar_allowed (characters_to at_close (suc (length r)) r) && begins (characters_bytes (characters_to at_close (suc (length r)) r) ++ (42 ∷ 47 ∷ [])) r ≡ false
    → next (47 ∷ 42 ∷ r) ≡ none
unfolding next guess begins
comment_fails r h = go (characters_to at_close (suc (length r)) r) h
  where
    test : (x y z : Bool) → x && z ≡ false → (x && y) && z ≡ false
    test true true z e = e
    test true false z e = refl
    test false y z e = refl

    go : (cs : List ℕ) → every_byte scalar_allowed cs && begins (characters_bytes cs ++ (42 ∷ 47 ∷ [])) r ≡ false → checked (47 ∷ 42 ∷ r) (some (comment cs)) ≡ none
    go cs e = rw (test (every_byte scalar_allowed cs) (unclosed cs) (begins (characters_bytes cs ++ (42 ∷ 47 ∷ [])) r) e)

-- a slash and no star
slash_fails : (r : List ℕ) → begins (42 ∷ []) r ≡ false → next (47 ∷ r) ≡ none
unfolding next guess begins
slash_fails r h = go (characters_to at_close (length r) (drop 1 r)) r h
  where
    test : (x y z : Bool) → y && true ≡ false → x && (y && z) ≡ false
    test x true z e = absurd (true≢false e)
    test x false z e = second_fails_lem x false refl

    go : (cs r : List ℕ) → begins (42 ∷ []) r ≡ false → checked (47 ∷ r) (some (comment cs)) ≡ none
    go cs [] e = rw (second_fails_lem (every_byte scalar_allowed cs && unclosed cs) false refl)
    go cs (d ∷ r) e = rw (test (every_byte scalar_allowed cs && unclosed cs) (eqb 42 d) (begins (characters_bytes cs ++ (42 ∷ 47 ∷ [])) r) e)

-- the characters before the first `*/` hold none
unclosed_found : (k : ℕ) (s cs rest : List ℕ) → characters_to at_close k s ≡ cs → characters_bytes cs ++ rest ≡ s → unclosed cs ≡ true
unfolding unclosed characters_to
unclosed_found zero s cs rest e b = rw (← e) refl
unclosed_found (suc k) s [] rest e b = refl
unclosed_found (suc k) s (c ∷ cs) rest e b = go (at_close s) refl e (λ t p q. unclosed_found k t cs rest p q)
  where
    far : (ds : List ℕ) → at_close s ≡ false → characters_bytes (c ∷ ds) ++ rest ≡ s → apart c ds ≡ true
    far [] n q = refl
    far (d ∷ ds) n q = test (eqb c 42) refl
      where
        x : List ℕ
        x = characters_bytes ds ++ rest

        whole : s ≡ utf8 c ++ (utf8 d ++ x)
        whole = sym q ∙ rw (bytes_one c (d ∷ ds), bytes_one d ds, append_assoc (utf8 c) (utf8 d ++ characters_bytes ds) rest, append_assoc (utf8 d) (characters_bytes ds) rest)

        test : (y : Bool) → eqb c 42 ≡ y → not (y && eqb d 47) ≡ true
        test false f = refl
        test true f =
            let star : utf8 c ≡ 42 ∷ [] = rw (eqb-true c 42 f) (utf8_one 42 (omega arith)) in
            let n2 : at_close (42 ∷ utf8 d ++ x) ≡ false = rw (whole, star) at n in
            ap not (sym (first_byte d 47 0 x (omega arith)) ∙ n2)

    go : (y : Bool) → at_close s ≡ y
        → elim y as (λ _. List ℕ) [
          | true ↦ []
          | false ↦ character_in s ∷ characters_to at_close k (drop (length (utf8 (character_in s))) s)
        ] ≡ c ∷ cs
        → ((t : List ℕ) → characters_to at_close k t ≡ cs → characters_bytes cs ++ rest ≡ t → unclosed cs ≡ true)
        → apart c cs && unclosed cs ≡ true
    go true n e ih = absurd (nil≢cons e)
    go false n e ih =
        let same : character_in s ≡ c = ap (λ z. get_or z 0 0) e in
        let later : characters_to at_close k (drop (length (utf8 c)) s) ≡ cs = rw same at (ap (drop 1) e) in
        let past : characters_bytes cs ++ rest ≡ drop (length (utf8 c)) s =
        rw (← b, bytes_one c cs, append_assoc (utf8 c) (characters_bytes cs) rest) (sym (drop-append_seam (utf8 c) (characters_bytes cs ++ rest))) in
        both (apart c cs) (unclosed cs) (far cs n b) (ih (drop (length (utf8 c)) s) later past)

comment_here : (s : List ℕ) (at : ℕ) → at < length s → get_or s at 0 ≡ 47 → drop at s ≡ 47 ∷ drop (at + 1) s
comment_here s at l e = drop-cons s at 0 l ∙ rw (e, add-one at)

star_here : (s : List ℕ) (at : ℕ) → begins (42 ∷ []) (drop at s) ≡ true → drop at s ≡ 42 ∷ drop (at + 1) s
star_here s at h = sym (begins_found (42 ∷ []) (drop at s) h) ∙ ap (◌∷◌ 42) (drop-drop 1 at s)

-- no `*/` begins where the character is no star
pub not_closing : (s : List ℕ) (i c w : ℕ) → CharacterAt (drop i s) (Some (c, w)) → (c ≡ 42 → ⊥) → false ≡ begins (42 ∷ 47 ∷ []) (drop i s)
unfolding begins
not_closing s i c w f n =
    let first = first_here s i c w 42 (omega arith) f in
    let other : eqb (get_or s i 0) 42 ≡ false = first.1 ∙ ne_eqb c 42 n in
    rw (drop-cons s i 0 first.0, eqb_turn 42 (get_or s i 0), other)

-- no star after the slash
pub comment_none : (s : List ℕ) (at : ℕ) {t : Bool} → at < length s → get_or s at 0 ≡ 47 → t ≡ begins (42 ∷ []) (drop (at + 1) s) → t ≡ false → None ≡ found_at at (next (drop at s))
comment_none s at l e q f = rw (comment_here s at l e, slash_fails (drop (at + 1) s) (sym q ∙ f))

-- the loop over the characters of a comment whose slash stands at byte `at`
pub record Commenting (s : List ℕ) (at i : ℕ) : Type 0 where
  pub small : length s ≤ 4096
  pub inside : at < length s
  pub slash : get_or s at 0 ≡ 47
  pub star : begins (42 ∷ []) (drop (at + 1) s) ≡ true
  pub passed : Passed at_close scalar_allowed (suc (length (drop (at + 2) s))) s (at + 2) i

pub comment_start : (s : List ℕ) (at : ℕ) {t : Bool} → (length s ≤ 4096) × (at < length s) × (get_or s at 0 ≡ 47) → t ≡ begins (42 ∷ []) (drop (at + 1) s) → t ≡ true
    → Commenting s at (at + 2)
comment_start s at h q f =
    record {
      small = h.0;
      inside = h.1;
      slash = h.2;
      star = sym q ∙ f;
      passed = passed_start at_close scalar_allowed (suc (length (drop (at + 2) s))) s (at + 2) within (omega (arith, length-drop (at + 2) s));
    }
  where
    within : at + 2 ≤ length s
    within = omega (arith, ap length (star_here s (at + 1) (sym q ∙ f)), length-drop (at + 1) s, length-drop (at + 1 + 1) s)

module _ {s : List ℕ} {at i : ℕ} (h : Commenting s at i) where
  opened : drop at s ≡ 47 ∷ 42 ∷ drop (at + 2) s
  opened = comment_here s at h.inside h.slash ∙ ap (◌∷◌ 47) (star_here s (at + 1) h.star ∙ ap (λ z. 42 ∷ drop z s) (add_assoc at 1 1))

  not_found : next (47 ∷ 42 ∷ drop (at + 2) s) ≡ none → None ≡ found_at at (next (drop at s))
  not_found f = rw (opened, f)

  -- the text ends before `*/`
  pub comment_over : length s ≤ i → None ≡ found_at at (next (drop at s))
  comment_over k = not_found (comment_fails (drop (at + 2) s) (passed_over h.passed 42 (47 ∷ []) k))

  goes : (u : Bool) → u ≡ begins (42 ∷ 47 ∷ []) (drop i s) → u ≡ false → at_close (drop i s) ≡ false
  goes u v n = sym (close_same (drop i s)) ∙ sym v ∙ n

  -- no character stands here
  pub comment_broken : {u : Bool} → i < length s → u ≡ begins (42 ∷ 47 ∷ []) (drop i s) → u ≡ false → CharacterAt (drop i s) None
      → None ≡ found_at at (next (drop at s))
  comment_broken {u = u} k v n f = not_found (comment_fails (drop (at + 2) s) (passed_bad h.passed (42 ∷ 47 ∷ []) k (goes u v n) f))

  -- a character more
  pub comment_more : {u : Bool} {c w : ℕ} → i < length s → u ≡ begins (42 ∷ 47 ∷ []) (drop i s) → u ≡ false → CharacterAt (drop i s) (Some (c, w))
      → Commenting s at (i + w)
  comment_more {u = u} {c = c} {w = w} k v n f =
      let q = f in
      record {
        small = h.small;
        inside = h.inside;
        slash = h.slash;
        star = h.star;
        passed = passed_next h.passed c w k (goes u v n) q.0 q.1 q.2 q.3;
      }

  -- which ends in the text, past its start
  pub comment_within : {u : Bool} {c w : ℕ} → i < length s → u ≡ begins (42 ∷ 47 ∷ []) (drop i s) → u ≡ false → CharacterAt (drop i s) (Some (c, w))
      → (i + w ≤ length s) × (1 ≤ w) × (length s ≤ 4096)
  comment_within k v n f =
      let q = f in
      ((comment_more k v n f).passed.inside, q.4, h.small)

  -- `*/`
  pub comment_found : {u : Bool} → u ≡ begins (42 ∷ 47 ∷ []) (drop i s) → u ≡ true → Some (Between (i + 2)) ≡ found_at at (next (drop at s))
  comment_found v n =
      let cs : List ℕ = h.passed.found in
      let after : List ℕ = drop 2 (drop i s) in
      let stops : at_close (drop i s) ≡ true = sym (close_same (drop i s)) ∙ sym v ∙ n in
      let no_close : unclosed cs ≡ true = unclosed_found (suc (length (drop (at + 2) s))) (drop (at + 2) s) cs (drop i s) (passed_all h.passed stops) h.passed.bytes in
      let rest : drop i s ≡ 42 ∷ 47 ∷ after = sym (begins_found (42 ∷ 47 ∷ []) (drop i s) (sym v ∙ n)) in
      let whole : drop at s ≡ piece_bytes (comment cs) ++ after =
      opened ∙ ap (λ x. 47 ∷ 42 ∷ x) (sym h.passed.bytes ∙ ap (λ x. characters_bytes cs ++ x) rest ∙ sym (append_assoc (characters_bytes cs) (42 ∷ 47 ∷ []) after)) in
      let took : next (drop at s) ≡ some (comment cs) = rw whole (comment_next cs after (both (every_byte scalar_allowed cs) (unclosed cs) h.passed.every no_close)) in
      let size : i + 2 ≡ at + length (piece_bytes (comment cs)) = omega (arith, h.passed.place, length-append (characters_bytes cs) (42 ∷ 47 ∷ [])) in
      rw (took, size)

  -- no character more
  pub comment_end : CharacterAt (drop i s) None → None ≡ found_at at (next (drop at s))
  comment_end f = go (ltb i (length s)) (begins (42 ∷ 47 ∷ []) (drop i s)) refl refl
    where
      go : (b u : Bool) → ltb i (length s) ≡ b → begins (42 ∷ 47 ∷ []) (drop i s) ≡ u → None ≡ found_at at (next (drop at s))
      go false u t e = comment_over (ltb-false i (length s) t)
      go true true t e =
          absurd (ascii_stands 42 (47 ∷ drop 2 (drop i s)) (omega arith) (rw (sym (begins_found (42 ∷ 47 ∷ []) (drop i s) e)) at f))
      go true false t e = comment_broken (ltb-true i (length s) t) (sym e) refl f

-- The loops over the characters of a quoted run and of a comment: what is passed, and what is left.
use Prim.Native.Nat.{ℕ, zero, suc, ◌+◌, ◌≤◌, ◌<◌}
use mathlib.Core.List.{List, [], ◌∷◌, ◌++◌, append_assoc, append-nil}
use mathlib.Core.Bool.{Bool, true, false, ◌&&◌, true≢false, false≢true}
use mathlib.Core.Path.{◌≡◌, refl, sym, ap, ◌∙◌}
use native.Mathlib.Omega.{arith}
use lib.ListN.{length, drop, drop_of_length-le, length-append, length-drop}
use lib.Seq.{drop-drop}
use Rattle.names.specs.Name.{every_byte}
use Rattle.file.proofs.Below.{both, both_first, both_second, second_fails_lem}
use Rattle.tokens.specs.Token.{utf8, characters_bytes}
use Rattle.tokens.specs.Lex.{begins, character_in, characters_to}
use Rattle.tokens.proofs.Utf8.{utf8_some}
use Rattle.tokens.proofs.Begins.{begins_append, begins_found, every_append, begins_front, every_back, every_one, every_first, begins_nothing}

bytes_append : (x y : List ℕ) → characters_bytes (x ++ y) ≡ characters_bytes x ++ characters_bytes y
unfolding characters_bytes
bytes_append [] y = refl
bytes_append (c ∷ x) y = rw (bytes_append x y) (sym (append_assoc (utf8 c) (characters_bytes x) (characters_bytes y)))

pub bytes_one : (c : ℕ) (r : List ℕ) → characters_bytes (c ∷ r) ≡ utf8 c ++ characters_bytes r
unfolding characters_bytes
bytes_one c r = refl

bytes_single : (c : ℕ) → characters_bytes (c ∷ []) ≡ utf8 c
unfolding characters_bytes
bytes_single c = append-nil (utf8 c)

go_on : (stop : List ℕ → Bool) (k : ℕ) (s : List ℕ) → stop s ≡ false
    → characters_to stop (suc k) s ≡ character_in s ∷ characters_to stop k (drop (length (utf8 (character_in s))) s)
unfolding characters_to
go_on stop k s h = go (stop s) h
  where
    go : (b : Bool) → b ≡ false
        → elim b as (λ _. List ℕ) [
          | true ↦ []
          | false ↦ character_in s ∷ characters_to stop k (drop (length (utf8 (character_in s))) s)
        ] ≡ character_in s ∷ characters_to stop k (drop (length (utf8 (character_in s))) s)
    go true e = absurd (true≢false e)
    go false e = refl

halt : (stop : List ℕ → Bool) (k : ℕ) (s : List ℕ) → stop s ≡ true → characters_to stop k s ≡ []
unfolding characters_to
halt stop zero s h = refl
halt stop (suc k) s h = go (stop s) h
  where
    go : (b : Bool) → b ≡ true
        → ◌≡◌ {A = List ℕ} (elim b as (λ _. List ℕ) [
          | true ↦ []
          | false ↦ character_in s ∷ characters_to stop k (drop (length (utf8 (character_in s))) s)
        ]) []
    go true e = refl
    go false e = absurd (false≢true e)

-- the characters from byte `a` on that are wanted, those up to byte i found
pub record Passed (stop : List ℕ → Bool) (ok : ℕ → Bool) (all : ℕ) (s : List ℕ) (a i : ℕ) : Type 0 where
  pub found : List ℕ
  pub fuel : ℕ
  pub inside : i ≤ length s
  pub enough : length s ≤ i + fuel
  pub every : every_byte ok found ≡ true
  pub bytes : characters_bytes found ++ drop i s ≡ drop a s
  pub place : i ≡ a + length (characters_bytes found)
  pub left : characters_to stop all (drop a s) ≡ found ++ characters_to stop fuel (drop i s)

pub passed_start : (stop : List ℕ → Bool) (ok : ℕ → Bool) (all : ℕ) (s : List ℕ) (a : ℕ) → a ≤ length s → length s ≤ a + all → Passed stop ok all s a a
unfolding characters_bytes every_byte
passed_start stop ok all s a h k =
    record {
      found = [];
      fuel = all;
      inside = h;
      enough = k;
      every = refl;
      bytes = refl;
      place = omega arith;
      left = refl;
    }

module _ {stop : List ℕ → Bool} {ok : ℕ → Bool} {all : ℕ} {s : List ℕ} {a i : ℕ} (h : Passed stop ok all s a i) where
  -- one more
  pub passed_next : (c w : ℕ) → i < length s → stop (drop i s) ≡ false → c ≡ character_in (drop i s) → ok c ≡ true → begins (utf8 c) (drop i s) ≡ true → w ≡ length (utf8 c)
      → Passed stop ok all s a (i + w)
  passed_next c w l n e o b q = go h.fuel refl
    where
      whole : utf8 c ++ drop (i + w) s ≡ drop i s
      whole = rw (← drop-drop w i s, q) (begins_found (utf8 c) (drop i s) b)

      size : i + w ≤ length s
      size = rw q (omega (arith, ap length whole, length-append (utf8 c) (drop (i + w) s), length-drop (i + w) s, length-drop i s))

      go : (k : ℕ) → h.fuel ≡ k → Passed stop ok all s a (i + w)
      go zero z = let x : ⊥ = omega (arith, h.enough) in absurd x
      go (suc k) z =
          record {
            found = h.found ++ (c ∷ []);
            fuel = k;
            inside = size;
            enough = omega (arith, h.enough, utf8_some c);
            every = every_append ok h.found (c ∷ []) h.every (every_one ok c o);
            bytes =
                rw (bytes_append h.found (c ∷ []), bytes_single c, append_assoc (characters_bytes h.found) (utf8 c) (drop (i + w) s), whole) h.bytes;
            place = rw (bytes_append h.found (c ∷ []), bytes_single c) (omega (arith, h.place, length-append (characters_bytes h.found) (utf8 c)));
            left =
                h.left
                ∙ rw (z, go_on stop k (drop i s) n, ← e, ← q, drop-drop w i s) (sym (append_assoc h.found (c ∷ []) (characters_to stop k (drop (i + w) s))));
          }

  -- what is wanted, where the next is no character or not a wanted one
  pub passed_bad : (close : List ℕ) → i < length s → stop (drop i s) ≡ false
      → ok (character_in (drop i s)) && begins (utf8 (character_in (drop i s))) (drop i s) ≡ false
      → every_byte ok (characters_to stop all (drop a s)) && begins (characters_bytes (characters_to stop all (drop a s)) ++ close) (drop a s) ≡ false
  passed_bad close l n f = go h.fuel refl
    where
      c : ℕ
      c = character_in (drop i s)

      both_hold : (more : List ℕ) → (every_byte ok (h.found ++ c ∷ more) ≡ true) → begins (characters_bytes (h.found ++ c ∷ more) ++ close) (drop a s) ≡ true → ⊥
      both_hold more x y =
          let first : ok c ≡ true = every_first ok c more (every_back ok h.found (c ∷ more) x) in
          let joined : characters_bytes (h.found ++ c ∷ more) ++ close ≡ characters_bytes h.found ++ (utf8 c ++ (characters_bytes more ++ close)) =
          rw (
            bytes_append h.found (c ∷ more),
            bytes_one c more,
            append_assoc (characters_bytes h.found) (utf8 c ++ characters_bytes more) close,
            append_assoc (utf8 c) (characters_bytes more) close,
          ) in
          let y2 : begins (characters_bytes h.found ++ (utf8 c ++ (characters_bytes more ++ close))) (characters_bytes h.found ++ drop i s) ≡ true = rw (h.bytes, ← joined) y in
          let y3 : begins (utf8 c ++ (characters_bytes more ++ close)) (drop i s) ≡ true =
          sym (begins_append (characters_bytes h.found) (utf8 c ++ (characters_bytes more ++ close)) (drop i s)) ∙ y2 in
          true≢false (sym (both (ok c) (begins (utf8 c) (drop i s)) first (begins_front (utf8 c) (characters_bytes more ++ close) (drop i s) y3)) ∙ f)

      test : (more : List ℕ) (b : Bool) → (every_byte ok (h.found ++ c ∷ more) && begins (characters_bytes (h.found ++ c ∷ more) ++ close) (drop a s)) ≡ b → b ≡ false
      test more false e = refl
      test more true e =
          absurd
          (both_hold more (both_first (every_byte ok (h.found ++ c ∷ more)) (begins (characters_bytes (h.found ++ c ∷ more) ++ close) (drop a s)) e)
          (both_second (every_byte ok (h.found ++ c ∷ more)) (begins (characters_bytes (h.found ++ c ∷ more) ++ close) (drop a s)) e))

      go : (k : ℕ) → h.fuel ≡ k
          → every_byte ok (characters_to stop all (drop a s)) && begins (characters_bytes (characters_to stop all (drop a s)) ++ close) (drop a s) ≡ false
      go zero z = let x : ⊥ = omega (arith, h.enough) in absurd x
      go (suc k) z =
          let more : List ℕ = characters_to stop k (drop (length (utf8 c)) (drop i s)) in
          let all_of : characters_to stop all (drop a s) ≡ h.found ++ c ∷ more = rw (h.left, z, go_on stop k (drop i s) n) in
          rw all_of (test more (every_byte ok (h.found ++ c ∷ more) && begins (characters_bytes (h.found ++ c ∷ more) ++ close) (drop a s)) refl)

  -- where nothing is left
  pub passed_over : (x : ℕ) (close : List ℕ) → length s ≤ i
      → every_byte ok (characters_to stop all (drop a s)) && begins (characters_bytes (characters_to stop all (drop a s)) ++ x ∷ close) (drop a s) ≡ false
  passed_over x close l =
      second_fails_lem (every_byte ok (characters_to stop all (drop a s))) (begins (characters_bytes (characters_to stop all (drop a s)) ++ x ∷ close) (drop a s)) fails
    where
      more : List ℕ
      more = characters_to stop h.fuel (drop i s)

      fails : begins (characters_bytes (characters_to stop all (drop a s)) ++ x ∷ close) (drop a s) ≡ false
      fails =
          rw (
            h.left,
            bytes_append h.found more,
            append_assoc (characters_bytes h.found) (characters_bytes more) (x ∷ close),
            ← h.bytes,
            begins_append (characters_bytes h.found) (characters_bytes more ++ x ∷ close) (drop i s),
            drop_of_length-le s {i = i} l,
          )
          (begins_nothing (characters_bytes (characters_to stop h.fuel [])) x close)

  -- at the end of them
  pub passed_all : stop (drop i s) ≡ true → characters_to stop all (drop a s) ≡ h.found
  passed_all e = h.left ∙ rw (halt stop h.fuel (drop i s) e) (append-nil h.found)

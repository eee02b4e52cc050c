-- Laws for the loop over the characters between quotes.
use Prim.Native.Nat.{ℕ, ◌+◌, ◌≤◌, ◌<◌}
use mathlib.Core.List.{List, [], ◌∷◌, ◌++◌, append_assoc}
use mathlib.Core.Bool.{Bool, true, false, true≢false}
use mathlib.Core.Path.{◌≡◌, refl, sym, ap, ◌∙◌}
use native.Mathlib.Omega.{arith}
use lib.ListN.{length, drop, length-append}
use lib.Seq.{drop-drop, drop-append_seam}
use lib.Dec.{ltb}
use borrow.Author.Tests.{ltb-true, ltb-false}
use Rattle.file.specs.Fields.{scalar_allowed}
use Rattle.tokens.specs.Token.{utf8, characters_bytes}
use Rattle.tokens.specs.Lex.{character_in}
use Rattle.tokens.specs.Code.Found.{CharacterAt}
use Rattle.std.proofs.Common.{Some, None}
use Rattle.tokens.proofs.Utf8.{utf8_one, utf8_two, utf8_three, utf8_four, character_found, scalar_bound, utf8_some}
use Rattle.tokens.proofs.Begins.{begins_all, every_first, every_back}
use Rattle.encoding.specs.Encode.{Record, record_bytes, records_bytes, character_records}
use Rattle.buffers.specs.Code.Put.{Put}
use Rattle.writing.specs.Code.Held.{Spans}
use Rattle.writing.proofs.SectionLaws.{bytes_one}
use Rattle.writing.proofs.PassingLaws.{Passing, passing_start, passing_next, passing_end}

-- a character has four bytes at most
utf8_few : (c : ℕ) → length (utf8 c) ≤ 4
utf8_few c = go (ltb c 128) (ltb c 2048) (ltb c 65536) refl refl refl
  where
    go : (x y z : Bool) → ltb c 128 ≡ x → ltb c 2048 ≡ y → ltb c 65536 ≡ z → length (utf8 c) ≤ 4
    go true y z p q w = rw (utf8_one c (ltb-true c 128 p)) (omega arith)
    go false true z p q w = rw (utf8_two c (ltb-false c 128 p) (ltb-true c 2048 q)) (omega arith)
    go false false true p q w = rw (utf8_three c (ltb-false c 2048 q) (ltb-true c 65536 w)) (omega arith)
    go false false false p q w = rw (utf8_four c (ltb-false c 65536 w)) (omega arith)

-- one was found
pub whole_width : (s : List ℕ) {c w : ℕ} → CharacterAt s (Some (c, w)) → (1 ≤ w) × (w ≤ 4)
whole_width s {c = c} h = (h.4, rw h.3 (utf8_few c))

-- ---- the first of some characters

module _ (text : List ℕ) (i to c : ℕ) (cs : List ℕ) (h : Spans text i to (c ∷ cs)) where
  after : List ℕ
  after = characters_bytes cs ++ h.after

  bytes_here : drop i text ≡ utf8 c ++ (characters_bytes cs ++ h.after)
  unfolding characters_bytes
  bytes_here = h.same ∙ append_assoc (utf8 c) (characters_bytes cs) h.after

  scalar : scalar_allowed c ≡ true
  scalar = every_first scalar_allowed c cs h.allowed

  found_here : character_in (drop i text) ≡ c
  found_here = ap character_in bytes_here ∙ character_found c (characters_bytes cs ++ h.after) (scalar_bound c scalar)

  never_broken : CharacterAt (drop i text) None → ⊥
  never_broken b =
      true≢false (sym (rw (found_here, scalar, bytes_here) (begins_all (utf8 c) (characters_bytes cs ++ h.after))) ∙ b)

  spans_next : {w : ℕ} → w ≡ length (utf8 c) → Spans text (i + w) to cs
  unfolding characters_bytes
  spans_next {w = w} e =
      record {
        after = h.after;
        allowed = every_back scalar_allowed (c ∷ []) cs h.allowed;
        size = omega (arith, h.size, e, length-append (utf8 c) (characters_bytes cs));
        same = rw (← drop-drop w i text, bytes_here, e) (drop-append_seam (utf8 c) (characters_bytes cs ++ h.after));
      }

-- ---- the loop

-- what is put and what is left
pub record Spelling (text : List ℕ) (i to : ℕ) (all : List Record) (old : List ℕ) (at next : ℕ) (now : List ℕ) : Type 0 where
  pub rest : List ℕ
  pub spans : Spans text i to rest
  pub passing : Passing all (character_records i rest) old at next now

pub spelling_start : (text : List ℕ) (i to : ℕ) (cs old : List ℕ) (at : ℕ) → Spans text i to cs → Spelling text i to (character_records i cs) old at at old
spelling_start text i to cs old at h = record { rest = cs; spans = h; passing = passing_start (character_records i cs) old at }

module _ {text : List ℕ} {i to : ℕ} {all : List Record} {old : List ℕ} {at next : ℕ} {now : List ℕ} (h : Spelling text i to all old at next now) where
  some_left : (rest : List ℕ) → Spans text i to rest → to ≤ i → character_records i rest ≡ []
  unfolding character_records characters_bytes
  some_left [] s l = refl
  some_left (c ∷ cs) s l =
      let z : ⊥ = omega (arith, s.size, length-append (utf8 c) (characters_bytes cs), utf8_some c) in
      absurd z

  pub spelling_end : to ≤ i → Put old at (records_bytes all) next now
  spelling_end l = passing_end h.passing (some_left h.rest h.spans l)

  pub spelling_broken : {A : Type 0} → i < to → CharacterAt (drop i text) None → A
  unfolding characters_bytes
  spelling_broken {A = A} l f = go h.rest h.spans
    where
      go : (rest : List ℕ) → Spans text i to rest → A
      go [] s = let z : ⊥ = omega (arith, s.size) in absurd z
      go (c ∷ cs) s = absurd (never_broken text i to c cs s f)

  pub spelling_next : {c w after : ℕ} {last : List ℕ} → i < to → CharacterAt (drop i text) (Some (c, w))
      → Put now next (record_bytes (0 ∷ c ∷ 0 ∷ 0 ∷ i ∷ (i + w) ∷ [])) after last → Spelling text (i + w) to all old at after last
  unfolding characters_bytes character_records
  spelling_next {c = c} {w = w} {after = after} {last = last} l f put = go h.rest h.spans h.passing
    where
      go : (rest : List ℕ) → Spans text i to rest → Passing all (character_records i rest) old at next now → Spelling text (i + w) to all old at after last
      go [] s p = let z : ⊥ = omega (arith, s.size) in absurd z
      go (d ∷ cs) s p =
          let found = f in
          let same : c ≡ d = found.0 ∙ found_here text i to d cs s in
          let wide : w ≡ length (utf8 d) = found.3 ∙ ap (λ z. length (utf8 z)) same in
          record {
            rest = cs;
            spans = spans_next text i to d cs s wide;
            passing =
                passing_next p ((0 ∷ c ∷ 0 ∷ 0 ∷ i ∷ (i + w) ∷ []) ∷ []) (character_records (i + w) cs) (rw (same, wide)) (rw (bytes_one (0 ∷ c ∷ 0 ∷ 0 ∷ i ∷ (i + w) ∷ [])) put);
          }

  -- no character more
  pub spelling_none : CharacterAt (drop i text) None → Put old at (records_bytes all) next now
  spelling_none f = go (ltb i to) refl
    where
      go : (b : Bool) → ltb i to ≡ b → Put old at (records_bytes all) next now
      go true t = spelling_broken (ltb-true i to t) f
      go false t = spelling_end (ltb-false i to t)

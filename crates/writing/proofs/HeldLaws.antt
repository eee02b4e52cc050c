-- What the arrays say of the tokens that they hold.
use Prim.Native.Nat.{ℕ, zero, suc, ◌+◌, ◌-◌, ◌≤◌, ◌<◌}
use mathlib.Core.List.{List, [], ◌∷◌}
use mathlib.Core.Bool.{Bool, true, false, cond, not}
use mathlib.Core.Path.{◌≡◌, refl, sym, ap, ◌∙◌}
use native.Mathlib.Omega.{arith}
use native.Mathlib.Nat.{add-zero, add_assoc}
use native.Mathlib.Numerals.{add-one}
use lib.ListN.{length, drop, get_or, drop_of_length-le}
use lib.Seq.{get_or-drop, drop-drop}
use lib.Dec.{eqb}
use Rattle.tokens.specs.Token.{token_bytes, Placed}
use Rattle.tokens.specs.Lex.{leading}
use Rattle.std.proofs.lemmas.List.{get_or-map, length-map}
use Rattle.tokens.specs.Code.TokenKind.{kind_code}
use Rattle.tokens.specs.Code.Arrays.{kinds_of, starts_of, ends_of, kinds_in, starts_in, ends_in}
use Rattle.tokens.specs.declared.Lexeme.{Lexeme}
use Rattle.encoding.specs.Code.FlatTerms.{kind_at, end_at, first_start, first_length}
use Rattle.encoding.specs.Code.FlatFile.{first_is, after_kind, count_to, end_of_kind}
use Rattle.writing.specs.Code.Found.{not_kind, place_of, count_kinds}
use Rattle.writing.specs.Code.Held.{Held}

-- ---- from a place on

pub size_of : (p : Placed) → end_at p - p.start ≡ length (token_bytes p.what)
size_of p = go p.start (length (token_bytes p.what))
  where
    go : (a b : ℕ) → a + b - a ≡ b
    go a b = omega arith

pub kinds_drop : (i : ℕ) (ts : List Placed) → drop i (kinds_of ts) ≡ kinds_of (drop i ts)
kinds_drop zero ts = refl
kinds_drop (suc i) [] = refl
kinds_drop (suc i) (p ∷ ts) = kinds_drop i ts

pub ends_drop : (i : ℕ) (ts : List Placed) → drop i (ends_of ts) ≡ ends_of (drop i ts)
ends_drop zero ts = refl
ends_drop (suc i) [] = refl
ends_drop (suc i) (p ∷ ts) = ends_drop i ts

pub kinds_length : (ts : List Placed) → length (kinds_of ts) ≡ length ts
kinds_length [] = refl
kinds_length (p ∷ ts) = ap suc (kinds_length ts)

count_same : (k stop : ℕ) (ts : List Placed) → count_kinds k stop (kinds_of ts) ≡ count_to k stop ts
unfolding count_kinds
count_same k stop [] = refl
count_same k stop (p ∷ ts) = rw (count_same k stop ts)

end_same : (k : ℕ) (ts : List Placed) → get_or (ends_of ts) (length (leading (not_kind k) (kinds_of ts))) 0 ≡ end_of_kind k ts
unfolding leading
end_same k [] = refl
end_same k (p ∷ ts) = go (eqb (kind_at p) k) (end_same k ts)
  where
    go : (b : Bool) → get_or (ends_of ts) (length (leading (not_kind k) (kinds_of ts))) 0 ≡ end_of_kind k ts
        → get_or (ends_of (p ∷ ts)) (length (cond (not b) (kind_at p ∷ leading (not_kind k) (kinds_of ts)) [])) 0 ≡ cond b (end_at p) (end_of_kind k ts)
    go true h = refl
    go false h = h

after_same : (k : ℕ) (ts : List Placed) → drop (length (leading (not_kind k) (kinds_of ts)) + 1) ts ≡ after_kind k ts
unfolding leading
after_same k [] = refl
after_same k (p ∷ ts) = go (eqb (kind_at p) k) (after_same k ts)
  where
    go : (b : Bool) → drop (length (leading (not_kind k) (kinds_of ts)) + 1) ts ≡ after_kind k ts
        → drop (length (cond (not b) (kind_at p ∷ leading (not_kind k) (kinds_of ts)) []) + 1) (p ∷ ts) ≡ cond b ts (after_kind k ts)
    go true h = refl
    go false h = rw (add-one (suc (length (leading (not_kind k) (kinds_of ts))))) (rw (add-one (length (leading (not_kind k) (kinds_of ts)))) at h)

starts_drop : (i : ℕ) (ts : List Placed) → get_or (starts_of ts) i 0 ≡ first_start (drop i ts)
starts_drop zero [] = refl
starts_drop zero (p ∷ ts) = refl
starts_drop (suc i) [] = refl
starts_drop (suc i) (p ∷ ts) = starts_drop i ts

lengths_drop : (i : ℕ) (ts : List Placed) → get_or (ends_of ts) i 0 - get_or (starts_of ts) i 0 ≡ first_length (drop i ts)
lengths_drop zero [] = refl
lengths_drop zero (p ∷ ts) = size_of p
lengths_drop (suc i) [] = refl
lengths_drop (suc i) (p ∷ ts) = lengths_drop i ts

first_same : (k : ℕ) (ts : List Placed) → eqb 0 k ≡ false → eqb (get_or (kinds_of ts) 0 0) k ≡ first_is k ts
first_same k [] e = e
first_same k (p ∷ ts) e = refl

-- ---- a token by its place

pub record TokenAt (ks ss es : List ℕ) (ts : List Placed) (i : ℕ) : Type 0 where
  pub here : Placed
  pub rest : drop i ts ≡ here ∷ drop (suc i) ts
  pub kind : get_or ks i 0 ≡ kind_at here
  pub start : get_or ss i 0 ≡ here.start
  pub end : get_or es i 0 ≡ end_at here

token_of_lem : (ts : List Placed) (i : ℕ) → i < length ts → TokenAt (kinds_of ts) (starts_of ts) (ends_of ts) ts i
token_of_lem [] i l = let z : ⊥ = omega arith in absurd z
token_of_lem (p ∷ ts) zero l = record { here = p; rest = refl; kind = refl; start = refl; end = refl }
token_of_lem (p ∷ ts) (suc i) l =
    let t = token_of_lem ts i (omega arith) in
    record { here = t.here; rest = t.rest; kind = t.kind; start = t.start; end = t.end }

module _ {ks ss es : List ℕ} {ts : List Placed} (h : Held ks ss es ts) where
  pub tokens_length : length ks ≡ length ts
  tokens_length = ap length h.kinded ∙ kinds_length ts

  pub none_left : (i : ℕ) → length ks ≤ i → drop i ts ≡ []
  none_left i l = drop_of_length-le ts {i = i} (omega (arith, tokens_length))

  pub token_at : (i : ℕ) → i < length ks → TokenAt ks ss es ts i
  token_at i l = rw (h.kinded, h.started, h.ended) (token_of_lem ts i (omega (arith, tokens_length)))

  pub count_here : (k stop i : ℕ) → count_kinds k stop (drop i ks) ≡ count_to k stop (drop i ts)
  count_here k stop i = rw (h.kinded, kinds_drop i ts) (count_same k stop (drop i ts))

  pub end_here : (k i : ℕ) → get_or es (place_of k i ks) 0 ≡ end_of_kind k (drop i ts)
  end_here k i =
      rw (h.kinded, h.ended)
      (sym (get_or-drop i (ends_of ts) (length (leading (not_kind k) (drop i (kinds_of ts)))) 0) ∙ rw (ends_drop i ts, kinds_drop i ts) (end_same k (drop i ts)))

  pub after_here : (k i : ℕ) → drop (place_of k i ks + 1) ts ≡ after_kind k (drop i ts)
  after_here k i =
      let n : ℕ = length (leading (not_kind k) (kinds_of (drop i ts))) in
      rw (h.kinded, kinds_drop i ts, add_assoc i n 1, ← drop-drop (n + 1) i ts) (after_same k (drop i ts))

  pub start_here_lem : (i : ℕ) → get_or ss i 0 ≡ first_start (drop i ts)
  start_here_lem i = rw h.started (starts_drop i ts)

  pub length_here : (i : ℕ) → get_or es i 0 - get_or ss i 0 ≡ first_length (drop i ts)
  length_here i = rw (h.started, h.ended) (lengths_drop i ts)

  pub first_here : (k i : ℕ) → eqb 0 k ≡ false → eqb (get_or ks i 0) k ≡ first_is k (drop i ts)
  first_here k i e =
      let moved : get_or (kinds_of (drop i ts)) 0 0 ≡ get_or ks i 0 = rw (h.kinded, ← kinds_drop i ts, get_or-drop i (kinds_of ts) 0 0, add-zero i) in
      rw (← moved) (first_same k (drop i ts) e)

-- ---- the code's tokens

pub kinds_size : (tokens : List Lexeme) → length (kinds_in tokens) ≡ length tokens
kinds_size tokens = length-map tokens (λ x. kind_code x.kind)

pub kind_there : (tokens : List Lexeme) (i : ℕ) (d : Lexeme) → i < length tokens → kind_code (get_or tokens i d).kind ≡ get_or (kinds_in tokens) i 0
kind_there tokens i d l = sym (get_or-map (λ x. kind_code x.kind) tokens i d 0 l)

pub start_there : (tokens : List Lexeme) (i : ℕ) (d : Lexeme) → i < length tokens → (get_or tokens i d).start ≡ get_or (starts_in tokens) i 0
start_there tokens i d l = sym (get_or-map (λ x. x.start) tokens i d 0 l)

pub end_there : (tokens : List Lexeme) (i : ℕ) (d : Lexeme) → i < length tokens → (get_or tokens i d).end ≡ get_or (ends_in tokens) i 0
end_there tokens i d l = sym (get_or-map (λ x. x.end) tokens i d 0 l)

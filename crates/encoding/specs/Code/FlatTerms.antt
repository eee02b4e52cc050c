-- The term records of a text from its tokens, read from left to right by their kinds. What a bracket's or a call's record needs of later tokens is found by a scan
-- forward. `flat_text` of proofs/FlatTerms.antt: these are the records of the text's phrase.
use Rattle.std.specs.Prelude.{ℕ, zero, suc, ◌+◌, List, [], ◌∷◌, ◌++◌, Bool, cond, ◌||◌, length, eqb}
use Rattle.tokens.specs.Token.{Token, sign, atom, token_bytes, Placed}
use Rattle.tokens.specs.Code.TokenKind.{token_kind}
use Rattle.encoding.specs.Encode.{Record, atom_records}

abbrev pub kind_at : Placed → ℕ
kind_at p = token_kind p.what

abbrev pub end_at : Placed → ℕ
end_at p = p.start + length (token_bytes p.what)

-- where the first token starts, and the number of its bytes
abbrev pub first_start : List Placed → ℕ
first_start [] = 0
first_start (p ∷ ps) = p.start

abbrev pub first_length : List Placed → ℕ
first_length [] = 0
first_length (p ∷ ps) = length (token_bytes p.what)

-- outside braces, inside, and inside after `<`
pub data Where : Type 0 where
  outside inside calling : Where

-- inside braces, after a token
abbrev pub state_after : ℕ → Where
state_after k = cond (eqb k 60) calling inside

abbrev pub stays : Where → ℕ → Where
stays outside k = outside
stays inside k = state_after k
stays calling k = state_after k

-- anywhere, after a token
abbrev pub where_after : Where → ℕ → Where
where_after w k = cond (eqb k 123) inside (cond (eqb k 125) outside (stays w k))

-- the records of an atom inside braces; the name of a call has none
abbrev pub own_records : Where → ℕ → Token → List Record
own_records w at (sign g) = []
own_records outside at (atom a) = []
own_records inside at (atom a) = atom_records at a
own_records calling at (atom a) = []

abbrev pub own : Where → Placed → List Record
own w p = own_records w p.start p.what

-- `(` and `<`; `)` and `>`
abbrev pub opens : ℕ → Bool
opens k = eqb k 40 || eqb k 60

abbrev pub closes : ℕ → Bool
closes k = eqb k 41 || eqb k 62

-- the number of records that begin with a token
abbrev pub weight : Where → Placed → ℕ
weight w p = cond (opens (kind_at p)) 1 (length (own w p))

-- ---- what stands between `(` and `)`, or between `<` and `>`

-- the number of its records, and where the closing sign ends
pub record Contents : Type 0 where
  pub records : ℕ
  pub end : ℕ

abbrev pub add : ℕ → Contents → Contents
add n r = record { records = n + r.records; end = r.end }

-- at a closing sign, with so many more open before it
abbrev pub closed : ℕ → ℕ → (ℕ → Contents) → Contents
closed end zero go = record { records = 0; end = end }
closed end (suc d) go = go d

-- from a token on, with so many more open
abbrev pub scan : Where → ℕ → List Placed → Contents
scan w d [] = record { records = 0; end = 0 }
scan w d (p ∷ ps) =
    cond (closes (kind_at p)) (closed (end_at p) d (λ e. scan inside e ps))
    (add (weight w p) (scan (state_after (kind_at p)) (cond (opens (kind_at p)) (suc d) d) ps))

-- ---- term records

abbrev pub holder : (kind a b : ℕ) → Placed → Contents → Record
holder kind a b p r = kind ∷ a ∷ b ∷ r.records ∷ p.start ∷ r.end ∷ []

-- those that begin with a token
abbrev pub terms_at : Where → Placed → List Placed → List Record
terms_at w p ps =
    cond (eqb (kind_at p) 40) (holder 6 0 0 p (scan inside 0 ps) ∷ [])
    (cond (eqb (kind_at p) 60) (holder 7 (first_start ps) (first_length ps) p (scan calling 0 ps) ∷ []) (own w p))

abbrev pub flat_terms : Where → List Placed → List Record
flat_terms w [] = []
flat_terms w (p ∷ ps) = terms_at w p ps ++ flat_terms (where_after w (kind_at p)) ps

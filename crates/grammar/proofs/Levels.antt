-- What is left to read where brackets and calls are open, token by token from the end.
use Prim.Native.Nat.{ℕ}
use mathlib.Core.List.{List, [], ◌∷◌}
use mathlib.Core.Bool.{Bool, true, ◌&&◌, false≢true}
use mathlib.Core.Path.{◌≡◌, refl, ap, ◌∙◌}
use Rattle.file.proofs.Below.{both, both_first, both_second}
use Rattle.tokens.specs.Token.{Sign, left_bracket, right_bracket, left_angle, right_angle, Atom, Placed}
use Rattle.grammar.specs.Grammar.{sign_at, atom_at, Identifier, identifier_at, Terms, nothing, atomic, bracket, call, spell_terms, call_free}
use Rattle.grammar.specs.Parse.{◌⊕◌}
use Rattle.grammar.specs.Accept.{Opened, bracket_open, call_open}

-- terms, and then others
pub spell_plus : (t u : Terms) (after : List Placed) → spell_terms (t ⊕ u) after ≡ spell_terms t (spell_terms u after)
spell_plus nothing u after = refl
spell_plus (atomic at a rest) u after = ap (◌∷◌ (atom_at at a)) (spell_plus rest u after)
spell_plus (bracket l inside r rest) u after = ap (λ z. sign_at l left_bracket ∷ spell_terms inside (sign_at r right_bracket ∷ z)) (spell_plus rest u after)
spell_plus (call l f inside r rest) u after = ap (λ z. sign_at l left_angle ∷ identifier_at f ∷ spell_terms inside (sign_at r right_angle ∷ z)) (spell_plus rest u after)

pub free_plus : (t u : Terms) → call_free t ≡ true → call_free u ≡ true → call_free (t ⊕ u) ≡ true
free_plus nothing u h k = k
free_plus (atomic at a rest) u h k = free_plus rest u h k
free_plus (bracket l inside r rest) u h k =
    both (call_free inside) (call_free (rest ⊕ u)) (both_first (call_free inside) (call_free rest) h) (free_plus rest u (both_second (call_free inside) (call_free rest) h) k)
free_plus (call l f inside r rest) u h k = absurd (false≢true h)

-- the sign that closes
abbrev pub closer : Opened → Sign
closer bracket_open = right_bracket
closer call_open = right_angle

-- what is left where brackets and calls are open: for each of them terms and where it closes, and then something that begins with terms
module _ (R : Type 0) (spell_r : R → List Placed) (front_r : Terms → R → R) (ok_r : R → Bool) (ok_t : Terms → Bool) where
  abbrev pub Levels : List Opened → Type 0
  Levels [] = R
  Levels (o ∷ st) = Terms × ℕ × Levels st

  abbrev pub spell_levels : (st : List Opened) → Levels st → List Placed
  spell_levels [] x = spell_r x
  spell_levels (o ∷ st) x = spell_terms x.0 (sign_at x.1 (closer o) ∷ spell_levels st x.2)

  abbrev pub front_levels : Terms → (st : List Opened) → Levels st → Levels st
  front_levels t [] x = front_r t x
  front_levels t (o ∷ st) x = (t ⊕ x.0, x.1, x.2)

  abbrev pub ok_levels : (st : List Opened) → Levels st → Bool
  ok_levels [] x = ok_r x
  ok_levels (o ∷ st) x = ok_t x.0 && ok_levels st x.2

  -- these tokens are what is left, and it is allowed
  pub record Found (st : List Opened) (ts : List Placed) : Type 0 where
    pub rest : Levels st
    pub spells : spell_levels st rest ≡ ts
    pub allowed : ok_levels st rest ≡ true

  -- how it takes terms in front
  pub record Laws : Type 0 where
    pub spell_front : (t : Terms) (x : R) → spell_r (front_r t x) ≡ spell_terms t (spell_r x)
    pub ok_front : (t : Terms) (x : R) → ok_t t ≡ true → ok_r x ≡ true → ok_r (front_r t x) ≡ true
    pub ok_plus : (t u : Terms) → ok_t t ≡ true → ok_t u ≡ true → ok_t (t ⊕ u) ≡ true
    pub ok_nothing : ok_t nothing ≡ true
    pub ok_atomic : (at : ℕ) (a : Atom) → ok_t (atomic at a nothing) ≡ true
    pub ok_bracket : (l : ℕ) (t : Terms) (c : ℕ) → ok_t t ≡ true → ok_t (bracket l t c nothing) ≡ true

  module _ (laws : Laws) where
    pub spell_fronted : (t : Terms) (st : List Opened) (x : Levels st) → spell_levels st (front_levels t st x) ≡ spell_terms t (spell_levels st x)
    spell_fronted t [] x = laws.spell_front t x
    spell_fronted t (o ∷ st) x = spell_plus t x.0 (sign_at x.1 (closer o) ∷ spell_levels st x.2)

    pub ok_fronted : (t : Terms) (st : List Opened) (x : Levels st) → ok_t t ≡ true → ok_levels st x ≡ true → ok_levels st (front_levels t st x) ≡ true
    ok_fronted t [] x h k = laws.ok_front t x h k
    ok_fronted t (o ∷ st) x h k =
        both (ok_t (t ⊕ x.0)) (ok_levels st x.2) (laws.ok_plus t x.0 h (both_first (ok_t x.0) (ok_levels st x.2) k)) (both_second (ok_t x.0) (ok_levels st x.2) k)

    -- terms, an atom, a bracket, a call and a closing sign in front
    pub found_front : (t : Terms) (st : List Opened) (ts : List Placed) → ok_t t ≡ true → Found st ts → Found st (spell_terms t ts)
    found_front t st ts h f =
        record {
          rest = front_levels t st f.rest;
          spells = spell_fronted t st f.rest ∙ ap (spell_terms t) f.spells;
          allowed = ok_fronted t st f.rest h f.allowed;
        }

    pub found_atom : (at : ℕ) (a : Atom) (st : List Opened) (ts : List Placed) → Found st ts → Found st (atom_at at a ∷ ts)
    found_atom at a st ts f = found_front (atomic at a nothing) st ts (laws.ok_atomic at a) f

    pub found_bracket : (l : ℕ) (st : List Opened) (ts : List Placed) → Found (bracket_open ∷ st) ts → Found st (sign_at l left_bracket ∷ ts)
    found_bracket l st ts f =
        let t = f.rest.0 in
        let c = f.rest.1 in
        record {
          rest = front_levels (bracket l t c nothing) st f.rest.2;
          spells = spell_fronted (bracket l t c nothing) st f.rest.2 ∙ ap (◌∷◌ (sign_at l left_bracket)) f.spells;
          allowed =
              ok_fronted (bracket l t c nothing) st f.rest.2 (laws.ok_bracket l t c (both_first (ok_t t) (ok_levels st f.rest.2) f.allowed))
              (both_second (ok_t t) (ok_levels st f.rest.2) f.allowed);
        }

    pub found_call : (l : ℕ) (i : Identifier) (st : List Opened) (ts : List Placed) → ((t : Terms) → ok_t t ≡ true) → Found (call_open ∷ st) ts
        → Found st (sign_at l left_angle ∷ identifier_at i ∷ ts)
    found_call l i st ts free f =
        let t = f.rest.0 in
        let c = f.rest.1 in
        record {
          rest = front_levels (call l i t c nothing) st f.rest.2;
          spells = spell_fronted (call l i t c nothing) st f.rest.2 ∙ ap (λ z. sign_at l left_angle ∷ identifier_at i ∷ z) f.spells;
          allowed = ok_fronted (call l i t c nothing) st f.rest.2 (free (call l i t c nothing)) (both_second (ok_t t) (ok_levels st f.rest.2) f.allowed);
        }

    pub found_close : (c : ℕ) (o : Opened) (st : List Opened) (ts : List Placed) → Found st ts → Found (o ∷ st) (sign_at c (closer o) ∷ ts)
    found_close c o st ts f =
        record {
          rest = (nothing, c, f.rest);
          spells = ap (◌∷◌ (sign_at c (closer o))) f.spells;
          allowed = both (ok_t nothing) (ok_levels st f.rest) laws.ok_nothing f.allowed;
        }

-- What is found of a run of terms from left to right: the number of its records, where it starts and ends. And what a run of terms does not change.
use Prim.Native.Nat.{ℕ, ◌+◌}
use mathlib.Core.List.{List, ◌∷◌}
use mathlib.Core.Bool.{Bool, true, false, ◌||◌, true≢false}
use mathlib.Core.Path.{◌≡◌, refl, sym, ap, ◌∙◌}
use native.Mathlib.Omega.{arith}
use native.Mathlib.Nat.{zero-add}
use lib.ListN.{length, length-append}
use lib.Dec.{leb, eqb}
use borrow.Author.Tests.{eqb-true}
use Rattle.law.specs.Tree.{symbol_kind, term_kind, expression_kind}
use Rattle.tokens.specs.Token.{right_bracket, right_angle, Atom, identifier, number, variable, quoted, Placed}
use Rattle.tokens.specs.Code.TokenKind.{atom_kind}
use Rattle.grammar.specs.Grammar.{sign_at, atom_at, identifier_at, Terms, nothing, atomic, bracket, call, spell_terms}
use Rattle.encoding.specs.Encode.{atom_records, term_records, start_of, end_of}
use Rattle.encoding.specs.Code.FlatTerms.{inside, kind_at, first_start}
use Rattle.encoding.specs.Code.FlatFile.{part_records, part_end, first_is, after_kind, end_of_kind, count_to}

-- ---- kinds of tokens in terms

-- an atom's kind, `(`, `)`, `<` or `>`
abbrev pub of_terms : ℕ → Bool
of_terms k = leb k 6 || eqb k 40 || eqb k 41 || eqb k 60 || eqb k 62

atom_of_terms : (a : Atom) → of_terms (atom_kind a) ≡ true
atom_of_terms (identifier w) = refl
atom_of_terms (number w) = refl
atom_of_terms (variable symbol_kind w) = refl
atom_of_terms (variable term_kind w) = refl
atom_of_terms (variable expression_kind w) = refl
atom_of_terms (quoted w) = refl

-- is no other kind
pub other_kind : (k stop : ℕ) → of_terms k ≡ true → of_terms stop ≡ false → eqb k stop ≡ false
other_kind k stop h g = go (eqb k stop) refl
  where
    go : (b : Bool) → eqb k stop ≡ b → b ≡ false
    go true e = absurd (true≢false (sym h ∙ ap of_terms (eqb-true k stop e) ∙ g))
    go false e = refl

-- a function of tokens that no token of terms changes is not changed by terms
pub passing : {A : Type 0} (F : List Placed → A) → ((p : Placed) (ps : List Placed) → of_terms (kind_at p) ≡ true → F (p ∷ ps) ≡ F ps)
    → (t : Terms) (after : List Placed) → F (spell_terms t after) ≡ F after
passing F pass nothing after = refl
passing F pass (atomic at a rest) after = pass (atom_at at a) (spell_terms rest after) (atom_of_terms a) ∙ passing F pass rest after
passing F pass (bracket l t r rest) after =
    let later = sign_at r right_bracket ∷ spell_terms rest after in
    pass _ (spell_terms t later) refl ∙ (passing F pass t later ∙ (pass _ (spell_terms rest after) refl ∙ passing F pass rest after))
passing F pass (call l f t r rest) after =
    let later = sign_at r right_angle ∷ spell_terms rest after in
    pass _ (identifier_at f ∷ spell_terms t later) refl
    ∙ (pass _ (spell_terms t later) refl ∙ (passing F pass t later ∙ (pass _ (spell_terms rest after) refl ∙ passing F pass rest after)))

module _ (stop : ℕ) (g : of_terms stop ≡ false) where
  pub after_terms_lem : (t : Terms) (after : List Placed) → after_kind stop (spell_terms t after) ≡ after_kind stop after
  after_terms_lem = passing (after_kind stop) (λ p ps h. rw (other_kind (kind_at p) stop h g))

  pub end_of_terms : (t : Terms) (after : List Placed) → end_of_kind stop (spell_terms t after) ≡ end_of_kind stop after
  end_of_terms = passing (end_of_kind stop) (λ p ps h. rw (other_kind (kind_at p) stop h g))

  pub count_terms : (k : ℕ) → of_terms k ≡ false → (t : Terms) (after : List Placed) → count_to k stop (spell_terms t after) ≡ count_to k stop after
  count_terms k e = passing (count_to k stop) (λ p ps h. rw (other_kind (kind_at p) stop h g, other_kind (kind_at p) k h e) (zero-add (count_to k stop ps)))

  -- terms do not begin with another token
  pub first_terms : (t : Terms) (after : List Placed) → first_is stop after ≡ false → first_is stop (spell_terms t after) ≡ false
  first_terms nothing after h = h
  first_terms (atomic at a rest) after h = other_kind (atom_kind a) stop (atom_of_terms a) g
  first_terms (bracket l t r rest) after h = other_kind 40 stop refl g
  first_terms (call l f t r rest) after h = other_kind 60 stop refl g

-- ---- records, start and end

records_atom : (at : ℕ) (a : Atom) (ps : List Placed) → part_records inside (atom_at at a ∷ ps) ≡ length (atom_records at a) + part_records inside ps
records_atom at (identifier w) ps = refl
records_atom at (number w) ps = refl
records_atom at (variable symbol_kind w) ps = refl
records_atom at (variable term_kind w) ps = refl
records_atom at (variable expression_kind w) ps = refl
records_atom at (quoted w) ps = refl

end_atom : (e at : ℕ) (a : Atom) (ps : List Placed) → part_end e (atom_at at a ∷ ps) ≡ part_end (end_of (atomic at a nothing) e) ps
end_atom e at (identifier w) ps = refl
end_atom e at (number w) ps = refl
end_atom e at (variable symbol_kind w) ps = refl
end_atom e at (variable term_kind w) ps = refl
end_atom e at (variable expression_kind w) ps = refl
end_atom e at (quoted w) ps = refl

pub records_terms : (t : Terms) (after : List Placed) → part_records inside (spell_terms t after) ≡ length (term_records t) + part_records inside after
unfolding term_records
records_terms nothing after = sym (zero-add (part_records inside after))
records_terms (atomic at a rest) after =
    rw (records_atom at a (spell_terms rest after), records_terms rest after) (omega (arith, length-append (atom_records at a) (term_records rest)))
records_terms (bracket l t r rest) after =
    rw (records_terms t (sign_at r right_bracket ∷ spell_terms rest after), records_terms rest after) (omega (arith, length-append (term_records t) (term_records rest)))
records_terms (call l f t r rest) after =
    rw (records_terms t (sign_at r right_angle ∷ spell_terms rest after), records_terms rest after) (omega (arith, length-append (term_records t) (term_records rest)))

pub end_terms : (t : Terms) (e : ℕ) (after : List Placed) → part_end e (spell_terms t after) ≡ part_end (end_of t e) after
end_terms nothing e after = refl
end_terms (atomic at a rest) e after = end_atom e at a (spell_terms rest after) ∙ end_terms rest (end_of (atomic at a nothing) e) after
end_terms (bracket l t r rest) e after = end_terms t (l + 1) (sign_at r right_bracket ∷ spell_terms rest after) ∙ end_terms rest (r + 1) after
end_terms (call l f t r rest) e after =
    end_terms t (f.start + length f.spelled) (sign_at r right_angle ∷ spell_terms rest after) ∙ end_terms rest (r + 1) after

pub start_terms : (t : Terms) (after : List Placed) → first_start (spell_terms t after) ≡ start_of t (first_start after)
start_terms nothing after = refl
start_terms (atomic at a rest) after = refl
start_terms (bracket l t r rest) after = refl
start_terms (call l f t r rest) after = refl

-- Shadowing is sound: what the later pattern matches in a run, the earlier one matches. Both are read as fillings, and fillings compose: the earlier
-- pattern becomes the later one by rows of its terms, and these become expressions by the values with which the later one matches.
use mathlib.Core.Bool.{Bool, true, false, cond, ◌||◌}
use mathlib.Core.List.{List, [], ◌∷◌}
use mathlib.Core.Option.{some, none-ne-some}
use mathlib.Core.Path.{◌≡◌, refl, ap, ap₂, sym, ◌∙◌}
use Rattle.law.specs.Tree.{Kind, symbol_kind, term_kind, expression_kind}
use Rattle.law.specs.Expression.{Literal, Expression, Terms, nothing, symbol, brackets, ◌⊕◌}
use Rattle.law.specs.Variables.{Variable, same_variable, occurs}
use Rattle.law.specs.Symbol as symbols
use Rattle.law.specs.Symbol.{Symbol}
use Rattle.matching.specs.Pattern.{literal, variable, other, Pattern}
use Rattle.matching.specs.Match.{Values, none_bound, some_in, value_in, any_literal, run_matches}
use Rattle.matching.specs.Fill.{filled, OfKind, KindedValues, run_filled, RunKinded, RunKindedValues}
use Rattle.matching.specs.Shadow.{same_atom, kind_is_symbol, kind_is_single, symbol_like, single_term, own_values, shadows_with, shadows}
use Rattle.matching.proofs.SameLaws.{false_not_true, variable_sound, variable_refl, atom_sound}
use Rattle.matching.proofs.RowLaws.{row_assoc, row_nothing}
use Rattle.matching.proofs.SearchLaws.{none_kinded, bound_every}
use Rattle.matching.proofs.FillLaws.{fills_of_match, run_complete, matches_iff_from}

-- ---- fillings compose

module _ {A : Type 0} (of_law : Symbol → A) (σ : Variable → Terms A) where
  -- one pattern after another
  pub filled_append : (p q : Pattern) → filled of_law σ (p ⊕ q) ≡ filled of_law σ p ⊕ filled of_law σ q
  filled_append nothing q = refl
  filled_append (symbol (literal a) p) q = ap (symbol (of_law a)) (filled_append p q)
  filled_append (symbol (variable v) p) q = rw (filled_append p q, row_assoc)
  filled_append (symbol other p) q = filled_append p q
  filled_append (brackets c p) q = ap (brackets (filled of_law σ c)) (filled_append p q)

  -- a pattern filled to a pattern, and that filled
  pub filled_twice : (β : Variable → Pattern) (p : Pattern) → filled of_law σ (filled literal β p) ≡ filled of_law (λ v. filled of_law σ (β v)) p
  filled_twice β nothing = refl
  filled_twice β (symbol (literal a) p) = ap (symbol (of_law a)) (filled_twice β p)
  filled_twice β (symbol (variable v) p) = filled_append (β v) (filled literal β p) ∙ rw (filled_twice β p)
  filled_twice β (symbol other p) = filled_twice β p
  filled_twice β (brackets c p) = ap₂ brackets (filled_twice β c) (filled_twice β p)

-- ---- kinds compose

-- in a run: the value of a variable that counts as a symbol is a symbol
as_symbol : (k : Kind) → kind_is_symbol k ≡ true → (y : Expression) → OfKind any_literal any_literal k y → OfKind any_literal any_literal symbol_kind y
as_symbol symbol_kind e y h = h
as_symbol term_kind e y h = absurd (false_not_true e)
as_symbol expression_kind e y h = absurd (false_not_true e)

-- and of one that counts as a single term, a single term
as_term : (k : Kind) → kind_is_single k ≡ true → (y : Expression) → OfKind any_literal any_literal k y → OfKind any_literal any_literal term_kind y
as_term symbol_kind e (symbol a nothing) h = refl
as_term term_kind e y h = h
as_term expression_kind e y h = absurd (false_not_true e)
as_term symbol_kind e nothing h = elim h [ ]
as_term symbol_kind e (symbol a (symbol _ _)) h = elim h [ ]
as_term symbol_kind e (symbol a (brackets _ _)) h = elim h [ ]
as_term symbol_kind e (brackets _ _) h = elim h [ ]

-- a row of a pattern's terms that is of a kind is filled to an expression of that kind
filled_kinded : (σ : Variable → Expression) → RunKinded σ → (k : Kind) (y : Pattern) → OfKind symbol_like single_term k y
    → OfKind any_literal any_literal k (run_filled σ y)
filled_kinded σ kinded symbol_kind (symbol (literal a) nothing) h = refl
filled_kinded σ kinded symbol_kind (symbol (variable v) nothing) h = rw (row_nothing (σ v)) (as_symbol v.kind h (σ v) (kinded v))
filled_kinded σ kinded symbol_kind (symbol other nothing) h = absurd (false_not_true h)
filled_kinded σ kinded term_kind (symbol (literal a) nothing) h = refl
filled_kinded σ kinded term_kind (symbol (variable v) nothing) h = rw (row_nothing (σ v)) (as_term v.kind h (σ v) (kinded v))
filled_kinded σ kinded term_kind (symbol other nothing) h = absurd (false_not_true h)
filled_kinded σ kinded term_kind (brackets c nothing) h = tt
filled_kinded σ kinded expression_kind y h = tt
filled_kinded σ kinded symbol_kind nothing h = elim h [ ]
filled_kinded σ kinded symbol_kind (symbol (literal a) (symbol _ _)) h = elim h [ ]
filled_kinded σ kinded symbol_kind (symbol (literal a) (brackets _ _)) h = elim h [ ]
filled_kinded σ kinded symbol_kind (symbol (variable v) (symbol _ _)) h = elim h [ ]
filled_kinded σ kinded symbol_kind (symbol (variable v) (brackets _ _)) h = elim h [ ]
filled_kinded σ kinded symbol_kind (symbol other (symbol _ _)) h = elim h [ ]
filled_kinded σ kinded symbol_kind (symbol other (brackets _ _)) h = elim h [ ]
filled_kinded σ kinded symbol_kind (brackets c _) h = elim h [ ]
filled_kinded σ kinded term_kind nothing h = elim h [ ]
filled_kinded σ kinded term_kind (symbol (literal a) (symbol _ _)) h = elim h [ ]
filled_kinded σ kinded term_kind (symbol (literal a) (brackets _ _)) h = elim h [ ]
filled_kinded σ kinded term_kind (symbol (variable v) (symbol _ _)) h = elim h [ ]
filled_kinded σ kinded term_kind (symbol (variable v) (brackets _ _)) h = elim h [ ]
filled_kinded σ kinded term_kind (symbol other (symbol _ _)) h = elim h [ ]
filled_kinded σ kinded term_kind (symbol other (brackets _ _)) h = elim h [ ]
filled_kinded σ kinded term_kind (brackets c (symbol _ _)) h = elim h [ ]
filled_kinded σ kinded term_kind (brackets c (brackets _ _)) h = elim h [ ]

-- ---- variables that already have a value

-- a variable by itself is of its kind
own_kind : (k : Kind) (v : Variable) → v.kind ≡ k → OfKind symbol_like single_term k (symbol (variable v) nothing)
own_kind symbol_kind v e = rw e
own_kind term_kind v e = rw e
own_kind expression_kind v e = tt

-- so the values at the start are of the right kinds
own_kinded : (valued : List Variable) → KindedValues symbol_like single_term (own_values valued)
unfolding own_values
own_kinded [] = none_kinded symbol_like single_term
own_kinded (v ∷ vs) =
    bound_every v (symbol (variable v) nothing) (own_values vs) (λ w z. OfKind symbol_like single_term w.kind z) (own_kind v.kind v refl) (own_kinded vs)

-- each variable that already has a value stands for itself
own_value : (valued : List Variable) (v : Variable) → occurs v valued ≡ true → value_in (own_values valued) v ≡ some (symbol (variable v) nothing)
unfolding own_values value_in occurs
own_value [] v h = absurd (false_not_true h)
own_value (w ∷ ws) v h = go (same_variable w v) refl (same_variable v w) refl h (own_value ws v)
  where
    go : (b : Bool) → same_variable w v ≡ b → (t : Bool) → same_variable v w ≡ t → (t || occurs v ws) ≡ true
        → (occurs v ws ≡ true → value_in (own_values ws) v ≡ some (symbol (variable v) nothing))
        → cond b (some (symbol (variable w) nothing)) (value_in (own_values ws) v) ≡ some (symbol (variable v) nothing)
    go true e t f q below = rw (variable_sound w v e)
    go false e true f q below =
        let i : v ≡ w = variable_sound v w f in
        absurd (false_not_true (sym e ∙ rw i (variable_refl w)))
    go false e false f q below = below q

-- ---- shadowing

-- from values of the right kinds, where every variable with a value is among those taken to have one: what the later pattern matches, an earlier one
-- that shadows it matches
pub shadow_sound_from : (valued : List Variable) (earlier later : Pattern) → shadows_with valued earlier later ≡ true
    → (x : Expression) (vs : Values Literal) → RunKindedValues vs → ((v : Variable) (y : Expression) → value_in vs v ≡ some y → occurs v valued ≡ true)
    → some_in (run_matches later x vs) ≡ true → some_in (run_matches earlier x vs) ≡ true
unfolding shadows_with
shadow_sound_from valued earlier later sh x vs k within m =
    let β =
    fills_of_match same_atom literal symbol_like single_term _ atom_sound (literal (symbols.character 0)) refl refl
    earlier later (own_values valued) (own_kinded valued) sh in
    let σ = (matches_iff_from later x vs k).0 m in
    run_complete earlier x vs
    (record {
      plain = β.plain;
      value = λ v. run_filled σ.value (β.value v);
      kinded = λ v. filled_kinded σ.value σ.kinded v.kind (β.value v) (β.kinded v);
      agrees = λ v y e.
          ap (run_filled σ.value) (β.agrees v (symbol (variable v) nothing) (own_value valued v (within v y e)))
          ∙ (row_nothing (σ.value v) ∙ σ.agrees v y e);
      fills = sym (filled_twice symbols.literal_of σ.value β.value earlier) ∙ (ap (run_filled σ.value) β.fills ∙ σ.fills);
    })

-- from no values
pub shadow_sound : (earlier later : Pattern) → shadows earlier later ≡ true
    → (x : Expression) → some_in (run_matches later x none_bound) ≡ true → some_in (run_matches earlier x none_bound) ≡ true
unfolding value_in
shadow_sound earlier later sh x =
    shadow_sound_from [] earlier later sh x none_bound (none_kinded any_literal any_literal) (λ v y e. absurd (none-ne-some y e))

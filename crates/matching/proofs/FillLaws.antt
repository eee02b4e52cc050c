-- The search finds a match exactly when values of the right kinds fill the pattern to the row: over symbols of any kind, then for a run.
use mathlib.Core.Bool.{Bool, true, false, ◌||◌}
use mathlib.Core.List.{List, [], ◌∷◌, Memᴰ}
use mathlib.Core.Logic.{◌↔◌}
use mathlib.Core.Option.{Option, none, some, get_or}
use mathlib.Core.Path.{◌≡◌, refl, ap₂, sym, ◌∙◌}
use Rattle.law.specs.Tree as tree
use Rattle.law.specs.Tree.{Kind, symbol_kind, term_kind, expression_kind}
use Rattle.law.specs.Expression.{Literal, Expression, Terms, nothing, symbol, brackets}
use Rattle.law.specs.Variables.{Variable}
use Rattle.law.specs.Symbol.{Symbol, literal_of}
use Rattle.matching.specs.Pattern.{literal, variable, Pattern, same_literal, pattern_of}
use Rattle.matching.specs.Match.{Values, none_bound, some_in, value_in, matches, any_literal, run_matches}
use Rattle.matching.specs.Fill.{Plain, OfKind, Kinded, KindedValues, Agrees, Fills, run_filled, RunKinded, RunKindedValues, RunFills, holds_other, holds_call_or_block}
use Rattle.matching.proofs.SameLaws.{false_not_true, literal_sound, literal_refl}
use Rattle.matching.proofs.SearchLaws.{some_member, member_some, none_agrees, none_kinded, Matched, match_sound, match_complete}

-- ---- values for all variables from those of some: a symbol, or nothing, where there is none

module _ {A : Type 0} (a : A) where
  -- what a variable of a kind may always stand for
  abbrev usual : Kind → Terms A
  usual symbol_kind = symbol a nothing
  usual term_kind = symbol a nothing
  usual expression_kind = nothing

  -- every variable's value
  abbrev total : Values A → Variable → Terms A
  total vs v = get_or (value_in vs v) (usual v.kind)

  -- it keeps the values that there are
  total_agrees : (vs : Values A) → Agrees vs (total vs)
  total_agrees vs v y e = rw e

  module _ (is_symbol is_single : A → Bool) (one : is_symbol a ≡ true) (single : is_single a ≡ true) where
    -- it is of the kind
    usual_kinded : (k : Kind) → OfKind is_symbol is_single k (usual k)
    usual_kinded symbol_kind = one
    usual_kinded term_kind = single
    usual_kinded expression_kind = tt

    -- so all are of the right kinds, if those that there are are
    total_kinded : (vs : Values A) → KindedValues is_symbol is_single vs → Kinded is_symbol is_single (total vs)
    total_kinded vs h v = go (value_in vs v) refl
      where
        go : (o : Option (Terms A)) → value_in vs v ≡ o → OfKind is_symbol is_single v.kind (get_or o (usual v.kind))
        go none e = usual_kinded v.kind
        go (some y) e = h v y e

-- ---- over symbols of any kind

module _ {A : Type 0} (same : A → A → Bool) (of_law : Symbol → A) (is_symbol is_single : A → Bool) where
  -- what is found fills the pattern to the row, whether or not brackets are gone back into; `a` is any symbol
  pub fills_of_match : (back : Bool) → ((a b : A) → same a b ≡ true → a ≡ b) → (a : A) → is_symbol a ≡ true → is_single a ≡ true
      → (p : Pattern) (x : Terms A) (vs : Values A) → KindedValues is_symbol is_single vs
      → some_in (matches same of_law is_symbol is_single back p x vs) ≡ true → Fills of_law is_symbol is_single p x vs
  fills_of_match back sound a one single p x vs k h =
      let (us, m) = some_member (matches same of_law is_symbol is_single back p x vs) h in
      let matched = match_sound same of_law is_symbol is_single back sound p x vs m in
      let (agrees, fills) = matched.fills (total a us) (total_agrees a us) in
      record {
        plain = matched.plain;
        value = total a us;
        kinded = total_kinded a is_symbol is_single one single us (matched.kinded k);
        agrees = agrees;
        fills = fills;
      }

  -- what fills a pattern to a row is found, where brackets are gone back into
  pub match_of_fills : ((a : A) → same a a ≡ true) → (p : Pattern) (x : Terms A) (vs : Values A)
      → Fills of_law is_symbol is_single p x vs → some_in (matches same of_law is_symbol is_single true p x vs) ≡ true
  match_of_fills same_refl p x vs f =
      rw f.fills at (member_some (match_complete same of_law is_symbol is_single same_refl f.value f.kinded p f.plain vs f.agrees).1)

-- ---- a run

-- every match in a run fills the pattern to the expression, keeps the values at the start and gives values of the right kinds
pub run_sound : (p : Pattern) (x : Expression) (vs us : Values Literal) → Memᴰ us (run_matches p x vs) → Matched literal_of any_literal any_literal p x vs us
run_sound p x vs us m = match_sound same_literal literal_of any_literal any_literal true literal_sound p x vs m

-- a match is found if some values fill the pattern to the expression
pub run_complete : (p : Pattern) (x : Expression) (vs : Values Literal) → RunFills p x vs → some_in (run_matches p x vs) ≡ true
run_complete = match_of_fills same_literal literal_of any_literal any_literal literal_refl

-- from values of the right kinds, exactly then
pub matches_iff_from : (p : Pattern) (x : Expression) (vs : Values Literal) → RunKindedValues vs → (some_in (run_matches p x vs) ≡ true) ↔ RunFills p x vs
matches_iff_from p x vs k =
    (fills_of_match same_literal literal_of any_literal any_literal true literal_sound (Literal.character 0) refl refl p x vs k, run_complete p x vs)

-- and from none
pub matches_iff : (p : Pattern) (x : Expression)
    → (some_in (run_matches p x none_bound) ≡ true) ↔ (Plain p × ((σ : Variable → Expression) × RunKinded σ × (run_filled σ p ≡ x)))
matches_iff p x = (there, back_again)
  where
    there : some_in (run_matches p x none_bound) ≡ true → Plain p × ((σ : Variable → Expression) × RunKinded σ × (run_filled σ p ≡ x))
    there h =
        let f = (matches_iff_from p x none_bound (none_kinded any_literal any_literal)).0 h in
        (f.plain, (f.value, f.kinded, f.fills))

    back_again : Plain p × ((σ : Variable → Expression) × RunKinded σ × (run_filled σ p ≡ x)) → some_in (run_matches p x none_bound) ≡ true
    back_again (g, (σ, k, e)) =
        run_complete p x none_bound (record { plain = g; value = σ; kinded = k; agrees = none_agrees σ; fills = e })

-- ---- calls and blocks

-- a plain pattern holds neither
plain_holds_none : (p : Pattern) → Plain p → holds_other p ≡ false
unfolding holds_other
plain_holds_none nothing g = refl
plain_holds_none (symbol (literal a) p) g = plain_holds_none p g
plain_holds_none (symbol (variable v) p) g = plain_holds_none p g
plain_holds_none (brackets c p) g = rw (plain_holds_none c g.0) (plain_holds_none p g.1)
plain_holds_none (symbol Rattle.matching.specs.Pattern.other p) g = elim g [ ]

-- a pattern that holds a call or a block at any depth matches nothing
pub other_matches_nothing : {A : Type 0} (same : A → A → Bool) (of_law : Symbol → A) (is_symbol is_single : A → Bool) (back : Bool)
    → ((a b : A) → same a b ≡ true → a ≡ b)
    → (p : Pattern) (x : Terms A) (vs : Values A) → holds_other p ≡ true → matches same of_law is_symbol is_single back p x vs ≡ []
other_matches_nothing {A} same of_law is_symbol is_single back sound p x vs h =
    go (matches same of_law is_symbol is_single back p x vs) (λ us m. (match_sound same of_law is_symbol is_single back sound p x vs m).plain)
  where
    go : (l : List (Values A)) → ((us : Values A) → Memᴰ us l → Plain p) → l ≡ []
    go [] plain = refl
    go (us ∷ l) plain = absurd (false_not_true (sym (plain_holds_none p (plain us (Memᴰ.head refl))) ∙ h))

-- a pattern holds one where its run does
pattern_holds : (r : tree.Run) → holds_other (pattern_of r) ≡ holds_call_or_block r
unfolding holds_other holds_call_or_block pattern_of
pattern_holds tree.Run.empty = refl
pattern_holds (tree.Run.symbol a after) = pattern_holds after
pattern_holds (tree.Run.variable k i after) = pattern_holds after
pattern_holds (tree.Run.bracket inside after) = ap₂ ◌||◌ (pattern_holds inside) (pattern_holds after)
pattern_holds (tree.Run.call m f inside after) = refl
pattern_holds (tree.Run.block m inside ss after) = refl

-- so it is in a run of a law
pub call_or_block_matches_nothing : (r : tree.Run) (x : Expression) (vs : Values Literal) → holds_call_or_block r ≡ true → run_matches (pattern_of r) x vs ≡ []
call_or_block_matches_nothing r x vs h =
    other_matches_nothing same_literal literal_of any_literal any_literal true literal_sound (pattern_of r) x vs (pattern_holds r ∙ h)

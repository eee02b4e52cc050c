-- Literal matching against a run: what it finds a run finds, and of the symbols of a law it misses nothing that a run finds.
use mathlib.Core.Bool.{Bool, true, false}
use mathlib.Core.List.{List}
use mathlib.Core.Path.{◌≡◌, refl, ap, ap₂, sym, ◌∙◌}
use Rattle.names.specs.Name.{folded_index}
use Rattle.numbers.proofs.DigitLaws.{digits_of, digits_of_value, stripped_value}
use Rattle.law.specs.Tree as tree
use Rattle.law.specs.Tree.{Kind, symbol_kind, term_kind, expression_kind}
use Rattle.law.specs.Expression.{Literal, Expression, Terms, nothing, symbol, brackets, ◌⊕◌}
use Rattle.law.specs.Variables.{Variable}
use Rattle.law.specs.Symbol.{Symbol, character, identifier, number, symbol_of, literal_of}
use Rattle.matching.specs.Pattern.{same_symbol, literal, variable, other, Pattern, pattern_of}
use Rattle.matching.specs.Match.{Values, none_bound, some_in, any_literal, run_matches}
use Rattle.matching.specs.Fill.{filled, OfKind}
use Rattle.matching.specs.Literal.{any_symbol, literal_terms, literal_matches, changed, expression_of, InDigits, RunInDigits}
use Rattle.matching.proofs.SameLaws.{symbol_sound, symbol_refl}
use Rattle.matching.proofs.SearchLaws.{none_agrees, none_kinded}
use Rattle.matching.proofs.FillLaws.{fills_of_match, match_of_fills, run_complete, matches_iff_from}

-- ---- rows with other symbols

module _ {A B : Type 0} (f : A → B) where
  -- one row after another
  changed_append : (x y : Terms A) → changed f (x ⊕ y) ≡ changed f x ⊕ changed f y
  unfolding changed
  changed_append nothing y = refl
  changed_append (symbol a x) y = ap (symbol (f a)) (changed_append x y)
  changed_append (brackets c x) y = ap (brackets (changed f c)) (changed_append x y)

  -- a filling, with other symbols, fills to the row with other symbols
  filled_changed : (of_law : Symbol → A) (σ : Variable → Terms A) (p : Pattern)
      → filled (λ a. f (of_law a)) (λ v. changed f (σ v)) p ≡ changed f (filled of_law σ p)
  unfolding changed
  filled_changed of_law σ nothing = refl
  filled_changed of_law σ (symbol (literal a) p) = ap (symbol (f (of_law a))) (filled_changed of_law σ p)
  filled_changed of_law σ (symbol (variable v) p) = rw (filled_changed of_law σ p) (sym (changed_append (σ v) (filled of_law σ p)))
  filled_changed of_law σ (symbol other p) = filled_changed of_law σ p
  filled_changed of_law σ (brackets c p) = ap₂ brackets (filled_changed of_law σ c) (filled_changed of_law σ p)

  -- where any symbol will do, other symbols are of the same kind
  changed_kinded : (k : Kind) (y : Terms A) → OfKind (λ a. true) (λ a. true) k y → OfKind (λ b. true) (λ b. true) k (changed f y)
  unfolding changed
  changed_kinded symbol_kind (symbol a nothing) h = refl
  changed_kinded term_kind (symbol a nothing) h = refl
  changed_kinded term_kind (brackets c nothing) h = tt
  changed_kinded expression_kind y h = tt
  changed_kinded symbol_kind nothing h = elim h [ ]
  changed_kinded symbol_kind (symbol a (symbol _ _)) h = elim h [ ]
  changed_kinded symbol_kind (symbol a (brackets _ _)) h = elim h [ ]
  changed_kinded symbol_kind (brackets c _) h = elim h [ ]
  changed_kinded term_kind nothing h = elim h [ ]
  changed_kinded term_kind (symbol a (symbol _ _)) h = elim h [ ]
  changed_kinded term_kind (symbol a (brackets _ _)) h = elim h [ ]
  changed_kinded term_kind (brackets c (symbol _ _)) h = elim h [ ]
  changed_kinded term_kind (brackets c (brackets _ _)) h = elim h [ ]

-- ---- what literal matching finds, a run finds

-- the same values
pub literal_in_run : (p : Pattern) (x : Terms Symbol) → literal_matches p x ≡ true → some_in (run_matches p (expression_of x) none_bound) ≡ true
literal_in_run p x h =
    let σ =
    fills_of_match same_symbol (λ a. a) any_symbol any_symbol _ symbol_sound (character 0) refl refl
    p x none_bound (none_kinded any_symbol any_symbol) h in
    run_complete p (expression_of x) none_bound
    (record {
      plain = σ.plain;
      value = λ v. expression_of (σ.value v);
      kinded = λ v. changed_kinded literal_of v.kind (σ.value v) (σ.kinded v);
      agrees = none_agrees (λ v. expression_of (σ.value v));
      fills = filled_changed literal_of (λ a. a) σ.value p ∙ ap expression_of σ.fills;
    })

-- ---- the text of an expression

-- a symbol of a run as a law spells it, without needless zeros
abbrev spelled_of : Literal → Symbol
spelled_of (Literal.character c) = character c
spelled_of (Literal.identifier i) = identifier i
spelled_of (Literal.number n) = number (digits_of n)

-- an expression too
abbrev text_of : Expression → Terms Symbol
text_of = changed spelled_of

-- a symbol of a law is the text of what it is in a run
symbol_text : (a : tree.Symbol) → InDigits a → spelled_of (literal_of (symbol_of a)) ≡ symbol_of a
symbol_text (tree.Symbol.character c) h = refl
symbol_text (tree.Symbol.identifier i) h = refl
symbol_text (tree.Symbol.number n) h = rw (stripped_value n.spelled) (ap number (digits_of_value n.spelled h))

-- a literal row is the text of its expression
row_text : (r : tree.Run) → RunInDigits r → text_of (expression_of (literal_terms r)) ≡ literal_terms r
unfolding changed literal_terms
row_text tree.Run.empty h = refl
row_text (tree.Run.symbol a r) h = ap₂ symbol (symbol_text a h.0) (row_text r h.1)
row_text (tree.Run.variable k i r) h = row_text r h
row_text (tree.Run.bracket q r) h = ap₂ brackets (row_text q h.0) (row_text r h.1)
row_text (tree.Run.call m f q r) h = row_text r h
row_text (tree.Run.block m q ss r) h = row_text r h

-- a pattern may be filled with its own symbols, or with the texts of what they are in a run
pattern_text : (σ : Variable → Terms Symbol) (r : tree.Run) → RunInDigits r
    → filled (λ a. spelled_of (literal_of a)) σ (pattern_of r) ≡ filled (λ a. a) σ (pattern_of r)
unfolding pattern_of
pattern_text σ tree.Run.empty h = refl
pattern_text σ (tree.Run.symbol a r) h = ap₂ symbol (symbol_text a h.0) (pattern_text σ r h.1)
pattern_text σ (tree.Run.variable k i r) h = ap (λ y. σ (record { kind = k; index = folded_index i.spelled }) ⊕ y) (pattern_text σ r h)
pattern_text σ (tree.Run.bracket q r) h = ap₂ brackets (pattern_text σ q h.0) (pattern_text σ r h.1)
pattern_text σ (tree.Run.call m f q r) h = pattern_text σ r h
pattern_text σ (tree.Run.block m q ss r) h = pattern_text σ r h

-- ---- literal matching misses nothing that a run finds

-- the same values, spelled
pub literal_misses_nothing : (p q : tree.Run) → RunInDigits p → RunInDigits q
    → some_in (run_matches (pattern_of p) (expression_of (literal_terms q)) none_bound) ≡ true → literal_matches (pattern_of p) (literal_terms q) ≡ true
literal_misses_nothing p q hp hq m =
    let σ = (matches_iff_from (pattern_of p) (expression_of (literal_terms q)) none_bound (none_kinded any_literal any_literal)).0 m in
    let τ : Variable → Terms Symbol = λ v. text_of (σ.value v) in
    match_of_fills same_symbol (λ a. a) any_symbol any_symbol symbol_refl (pattern_of p) (literal_terms q) none_bound
    (record {
      plain = σ.plain;
      value = τ;
      kinded = λ v. changed_kinded spelled_of v.kind (σ.value v) (σ.kinded v);
      agrees = none_agrees τ;
      fills =
          sym (pattern_text τ p hp)
          ∙ (filled_changed spelled_of literal_of σ.value (pattern_of p) ∙ (ap text_of σ.fills ∙ row_text q hq));
    })

-- so it finds a match exactly where a run does
pub literal_as_in_run : (p q : tree.Run) → RunInDigits p → RunInDigits q
    → literal_matches (pattern_of p) (literal_terms q) ≡ some_in (run_matches (pattern_of p) (expression_of (literal_terms q)) none_bound)
literal_as_in_run p q hp hq = go (literal_matches (pattern_of p) (literal_terms q)) refl (some_in in_run) refl
  where
    in_run : List (Values Literal)
    in_run = run_matches (pattern_of p) (expression_of (literal_terms q)) none_bound

    go : (b : Bool) → literal_matches (pattern_of p) (literal_terms q) ≡ b → (c : Bool) → some_in in_run ≡ c → b ≡ c
    go true e c d = sym (literal_in_run (pattern_of p) (literal_terms q) e) ∙ d
    go false e true d = sym e ∙ literal_misses_nothing p q hp hq d
    go false e false d = refl

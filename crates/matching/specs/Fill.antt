-- What it means, without a search, that a pattern matches: some values of the right kinds, put in the place of its variables, make it the row.
-- The laws in proofs/ say that the search of `Match` finds a match exactly then.
use Rattle.std.specs.Prelude.{Bool, true, false, ◌||◌, ◌≡◌}
use Rattle.std.proofs.Math.Option.{some}
use Rattle.law.specs.Tree as tree
use Rattle.law.specs.Tree.{Kind, symbol_kind, term_kind, expression_kind}
use Rattle.law.specs.Expression.{Literal, Expression, Terms, nothing, symbol, brackets, ◌⊕◌}
use Rattle.law.specs.Variables.{Variable}
use Rattle.law.specs.Symbol.{Symbol, literal_of}
use Rattle.matching.specs.Pattern.{literal, variable, other, Pattern}
use Rattle.matching.specs.Match.{Values, value_in, any_literal}

-- no call and no block, at any depth
abbrev pub Plain : Pattern → Type 0
Plain nothing = Unit {0}
Plain (symbol (literal a) p) = Plain p
Plain (symbol (variable v) p) = Plain p
Plain (symbol other p) = ⊥
Plain (brackets c p) = Plain c × Plain p

-- the row that a plain pattern becomes when each variable is replaced by its value
module _ {A : Type 0} (of_law : Symbol → A) (σ : Variable → Terms A) where
  abbrev pub filled : Pattern → Terms A
  filled nothing = nothing
  filled (symbol (literal a) p) = symbol (of_law a) (filled p)
  filled (symbol (variable v) p) = σ v ⊕ filled p
  filled (symbol other p) = filled p
  filled (brackets c p) = brackets (filled c) (filled p)

module _ {A : Type 0} (is_symbol is_single : A → Bool) where
  -- what a variable of a kind may stand for: one symbol, one term, any row
  abbrev pub OfKind : Kind → Terms A → Type 0
  OfKind symbol_kind nothing = ⊥
  OfKind symbol_kind (symbol a nothing) = is_symbol a ≡ true
  OfKind symbol_kind (symbol a (symbol b y)) = ⊥
  OfKind symbol_kind (symbol a (brackets d y)) = ⊥
  OfKind symbol_kind (brackets c y) = ⊥
  OfKind term_kind nothing = ⊥
  OfKind term_kind (symbol a nothing) = is_single a ≡ true
  OfKind term_kind (symbol a (symbol b y)) = ⊥
  OfKind term_kind (symbol a (brackets d y)) = ⊥
  OfKind term_kind (brackets c nothing) = Unit {0}
  OfKind term_kind (brackets c (symbol b y)) = ⊥
  OfKind term_kind (brackets c (brackets d y)) = ⊥
  OfKind expression_kind y = Unit {0}

  -- values for all variables, and for some, each of its variable's kind
  abbrev pub Kinded : (Variable → Terms A) → Type 0
  Kinded σ = (v : Variable) → OfKind v.kind (σ v)

  abbrev pub KindedValues : Values A → Type 0
  KindedValues vs = (v : Variable) (y : Terms A) → value_in vs v ≡ some y → OfKind v.kind y

-- values for all variables that keep those that some have
abbrev pub Agrees : {A : Type 0} → Values A → (Variable → Terms A) → Type 0
Agrees {A} vs σ = (v : Variable) (y : Terms A) → value_in vs v ≡ some y → σ v ≡ y

-- a pattern is plain, and some values of the right kinds, which keep those given, fill it to a row
pub record Fills {A : Type 0} (of_law : Symbol → A) (is_symbol is_single : A → Bool) (p : Pattern) (x : Terms A) (vs : Values A) : Type 0 where
  pub plain : Plain p
  pub value : Variable → Terms A
  pub kinded : Kinded is_symbol is_single value
  pub agrees : Agrees vs value
  pub fills : filled of_law value p ≡ x

-- in a run any symbol is a symbol, and a single term
abbrev pub run_filled : (Variable → Expression) → Pattern → Expression
run_filled = filled literal_of

abbrev pub RunKinded : (Variable → Expression) → Type 0
RunKinded = Kinded any_literal any_literal

abbrev pub RunKindedValues : Values Literal → Type 0
RunKindedValues = KindedValues any_literal any_literal

abbrev pub RunFills : Pattern → Expression → Values Literal → Type 0
RunFills = Fills literal_of any_literal any_literal

-- is there a call or a block, at any depth: in a pattern, and in the run that it is made from?
unfoldable pub holds_other : Pattern → Bool
holds_other nothing = false
holds_other (symbol (literal a) p) = holds_other p
holds_other (symbol (variable v) p) = holds_other p
holds_other (symbol other p) = true
holds_other (brackets c p) = holds_other c || holds_other p

unfoldable pub holds_call_or_block : tree.Run → Bool
holds_call_or_block tree.Run.empty = false
holds_call_or_block (tree.Run.symbol a after) = holds_call_or_block after
holds_call_or_block (tree.Run.variable k i after) = holds_call_or_block after
holds_call_or_block (tree.Run.bracket inside after) = holds_call_or_block inside || holds_call_or_block after
holds_call_or_block (tree.Run.call m f inside after) = true
holds_call_or_block (tree.Run.block m inside ss after) = true

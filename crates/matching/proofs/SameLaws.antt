-- What the tests of symbols, variables and rows say is the same is equal, and what is equal they say is the same. Calls and blocks are not the same
-- as themselves, so atoms have only the first half.
use Prim.Native.Nat.{ℕ}
use mathlib.Core.Bool.{Bool, true, false}
use mathlib.Core.Path.{◌≡◌, refl, ap, ap₂}
use native.Mathlib.Omega.{arith}
use lib.Dec.{T}
use borrow.Author.Tests.{eqb-true, eq-eqb}
use Rattle.names.specs.Name.{same_bytes}
use Rattle.names.proofs.Laws.{both_hold}
use Rattle.names.proofs.Laws as bytes
use Rattle.law.specs.Tree.{Kind, symbol_kind, term_kind, expression_kind}
use Rattle.law.specs.Expression.{Literal, Terms, nothing, symbol, brackets}
use Rattle.law.specs.Variables.{Variable, same_kind, same_variable}
use Rattle.law.specs.Symbol.{Symbol, character, identifier, number}
use Rattle.matching.specs.Pattern.{same_symbol, same_literal, Atom, literal, variable}
use Rattle.matching.specs.Match.{same_terms}
use Rattle.matching.specs.Shadow.{same_atom}

-- ---- tests. `T b` is empty where `b` is false.

-- no test is both true and false
pub false_not_true : false ≡ true → ⊥
false_not_true e = let z : ◌≡◌ {A = ℕ} 0 1 = cc in omega arith

-- a test that gives true holds, and one that holds gives true
told : {b : Bool} → b ≡ true → T b
told e = rw e tt

holds : (b : Bool) → T b → b ≡ true
holds true h = refl
holds false h = elim h [ ]

-- ---- symbols of a law

-- only symbols of one sort are the same
symbol_told : (a b : Symbol) → T (same_symbol a b) → a ≡ b
symbol_told (character a) (character b) h = ap character (eqb-true a b (holds _ h))
symbol_told (identifier x) (identifier y) h = ap identifier (bytes.same_sound x y (holds _ h))
symbol_told (number x) (number y) h = ap number (bytes.same_sound x y (holds _ h))
symbol_told (character a) (identifier y) h = elim h [ ]
symbol_told (character a) (number y) h = elim h [ ]
symbol_told (identifier x) (character b) h = elim h [ ]
symbol_told (identifier x) (number y) h = elim h [ ]
symbol_told (number x) (character b) h = elim h [ ]
symbol_told (number x) (identifier y) h = elim h [ ]

-- the same is equal
pub symbol_sound : (a b : Symbol) → same_symbol a b ≡ true → a ≡ b
symbol_sound a b e = symbol_told a b (told e)

-- equal is the same
pub symbol_refl : (a : Symbol) → same_symbol a a ≡ true
symbol_refl (character a) = eq-eqb a a refl
symbol_refl (identifier x) = bytes.same_refl x
symbol_refl (number x) = bytes.same_refl x

-- ---- symbols of a run

-- only symbols of one sort are the same
literal_told : (a b : Literal) → T (same_literal a b) → a ≡ b
literal_told (Literal.character a) (Literal.character b) h = ap Literal.character (eqb-true a b (holds _ h))
literal_told (Literal.identifier x) (Literal.identifier y) h = ap Literal.identifier (bytes.same_sound x y (holds _ h))
literal_told (Literal.number a) (Literal.number b) h = ap Literal.number (eqb-true a b (holds _ h))
literal_told (Rattle.law.specs.Expression.character a) (Rattle.law.specs.Expression.identifier y) h = elim h [ ]
literal_told (Rattle.law.specs.Expression.character a) (Rattle.law.specs.Expression.number b) h = elim h [ ]
literal_told (Rattle.law.specs.Expression.identifier x) (Rattle.law.specs.Expression.character b) h = elim h [ ]
literal_told (Rattle.law.specs.Expression.identifier x) (Rattle.law.specs.Expression.number b) h = elim h [ ]
literal_told (Rattle.law.specs.Expression.number a) (Rattle.law.specs.Expression.character b) h = elim h [ ]
literal_told (Rattle.law.specs.Expression.number a) (Rattle.law.specs.Expression.identifier y) h = elim h [ ]

-- the same is equal
pub literal_sound : (a b : Literal) → same_literal a b ≡ true → a ≡ b
literal_sound a b e = literal_told a b (told e)

-- equal is the same
pub literal_refl : (a : Literal) → same_literal a a ≡ true
literal_refl (Literal.character a) = eq-eqb a a refl
literal_refl (Literal.identifier x) = bytes.same_refl x
literal_refl (Literal.number a) = eq-eqb a a refl

-- ---- variables

-- kinds that are the same are equal
kind_told : (k l : Kind) → T (same_kind k l) → k ≡ l
kind_told symbol_kind symbol_kind h = refl
kind_told term_kind term_kind h = refl
kind_told expression_kind expression_kind h = refl
kind_told symbol_kind term_kind h = elim h [ ]
kind_told symbol_kind expression_kind h = elim h [ ]
kind_told term_kind symbol_kind h = elim h [ ]
kind_told term_kind expression_kind h = elim h [ ]
kind_told expression_kind symbol_kind h = elim h [ ]
kind_told expression_kind term_kind h = elim h [ ]

-- a kind is the same as itself
kind_refl : (k : Kind) → same_kind k k ≡ true
kind_refl symbol_kind = refl
kind_refl term_kind = refl
kind_refl expression_kind = refl

-- the same is equal
pub variable_sound : (v w : Variable) → same_variable v w ≡ true → v ≡ w
variable_sound v w h =
    let (e, q) = both_hold (same_kind v.kind w.kind) (same_bytes v.index w.index) h in
    ap₂ (λ k i. record { kind = k; index = i }) (kind_told v.kind w.kind (told e)) (bytes.same_sound v.index w.index q)

-- equal is the same
pub variable_refl : (v : Variable) → same_variable v v ≡ true
variable_refl v = rw (kind_refl v.kind) (bytes.same_refl v.index)

-- ---- terms of a pattern

-- only symbols, and variables, are the same
atom_told : (a b : Atom) → T (same_atom a b) → a ≡ b
atom_told (literal x) (literal y) h = ap literal (symbol_told x y h)
atom_told (variable v) (variable w) h = ap variable (variable_sound v w (holds _ h))
atom_told (literal x) (variable w) h = elim h [ ]
atom_told (literal x) Rattle.matching.specs.Pattern.other h = elim h [ ]
atom_told (variable v) (literal y) h = elim h [ ]
atom_told (variable v) Rattle.matching.specs.Pattern.other h = elim h [ ]
atom_told Rattle.matching.specs.Pattern.other b h = elim h [ ]

-- the same is equal
pub atom_sound : (a b : Atom) → same_atom a b ≡ true → a ≡ b
atom_sound a b e = atom_told a b (told e)

-- ---- rows

module _ {A : Type 0} (same : A → A → Bool) where
  module _ (sound : (a b : A) → same a b ≡ true → a ≡ b) where
    -- only rows of one form are the same
    terms_told : (x y : Terms A) → T (same_terms same x y) → x ≡ y
    unfolding same_terms
    terms_told nothing nothing h = refl
    terms_told (symbol a x) (symbol b y) h =
        let (e, q) = both_hold (same a b) (same_terms same x y) (holds _ h) in
        ap₂ symbol (sound a b e) (terms_told x y (told q))
    terms_told (brackets c x) (brackets d y) h =
        let (e, q) = both_hold (same_terms same c d) (same_terms same x y) (holds _ h) in
        ap₂ brackets (terms_told c d (told e)) (terms_told x y (told q))
    terms_told nothing (symbol b y) h = elim h [ ]
    terms_told nothing (brackets d y) h = elim h [ ]
    terms_told (symbol a x) nothing h = elim h [ ]
    terms_told (symbol a x) (brackets d y) h = elim h [ ]
    terms_told (brackets c x) nothing h = elim h [ ]
    terms_told (brackets c x) (symbol b y) h = elim h [ ]

    -- the same is equal
    pub terms_sound : (x y : Terms A) → same_terms same x y ≡ true → x ≡ y
    terms_sound x y e = terms_told x y (told e)

  -- equal is the same, if it is for symbols
  pub terms_refl : ((a : A) → same a a ≡ true) → (x : Terms A) → same_terms same x x ≡ true
  unfolding same_terms
  terms_refl same_refl nothing = refl
  terms_refl same_refl (symbol a x) = rw (same_refl a) (terms_refl same_refl x)
  terms_refl same_refl (brackets c x) = rw (terms_refl same_refl c) (terms_refl same_refl x)

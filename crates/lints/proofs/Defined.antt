-- The last definition of a name (`definition`, in law/specs/Definition.antt) is one of the law's functions.
use Prim.Native.Nat.{ℕ}
use mathlib.Core.Bool.{Bool, true, false, cond}
use mathlib.Core.List.{List, [], ◌∷◌, Memᴰ}
use mathlib.Core.Option.{Option, none, some}
use mathlib.Core.Path.{◌≡◌, refl, ◌∙◌}
use native.Mathlib.Omega.{arith}
use Rattle.names.specs.Name.{folded, same_bytes}
use Rattle.names.proofs.Laws.{same_sound}
use Rattle.law.specs.Tree.{Sentences, Function, Law}
use Rattle.law.specs.Definition.{definition}
use Rattle.formats.proofs.EntryLaws.{name_of}
use Rattle.formats.proofs.TableLaws.{defines}

-- the definition found after a function, or the function's sentences where it has the name
abbrev or_here : Function → List ℕ → Option Sentences → Option Sentences
or_here d f o = elim o as (λ _. Option Sentences) [ some ss ↦ some ss | none ↦ cond (same_bytes (folded d.name.spelled) f) (some d.sentences) none ]

-- it has the name, and the sentences that are called
pub definition_in : (law : Law) (f : List ℕ) (ss : Sentences) → definition law f ≡ some ss
    → (d : Function) × Memᴰ d law × (name_of d ≡ f) × (d.sentences ≡ ss)
unfolding definition
definition_in [] f ss e = let z : ◌≡◌ {A = ℕ} 0 1 = cc in absurd (omega arith)
definition_in (d ∷ ds) f ss e = go (definition ds f) refl e (definition_in ds f ss)
  where
    here : (b : Bool) → same_bytes (folded d.name.spelled) f ≡ b → cond b (some d.sentences) none ≡ some ss
        → (g : Function) × Memᴰ g (d ∷ ds) × (name_of g ≡ f) × (g.sentences ≡ ss)
    here true q e = (d, Memᴰ.head refl, same_sound (folded d.name.spelled) f q, cc)
    here false q e = let z : ◌≡◌ {A = ℕ} 0 1 = cc in absurd (omega arith)

    go : (o : Option Sentences) → definition ds f ≡ o → or_here d f o ≡ some ss
        → (definition ds f ≡ some ss → (g : Function) × Memᴰ g ds × (name_of g ≡ f) × (g.sentences ≡ ss))
        → (g : Function) × Memᴰ g (d ∷ ds) × (name_of g ≡ f) × (g.sentences ≡ ss)
    go (some other) q e ih = let (g, m, name, same) = ih (q ∙ e) in (g, Memᴰ.tail m, name, same)
    go none q e ih = here (same_bytes (folded d.name.spelled) f) refl e

-- a name without a definition is no function's
pub undefined_name : (law : Law) (f : List ℕ) → definition law f ≡ none → defines law f ≡ false
unfolding definition
undefined_name [] f e = refl
undefined_name (d ∷ ds) f e = go (definition ds f) refl e (same_bytes (folded d.name.spelled) f) refl (undefined_name ds f)
  where
    go : (o : Option Sentences) → definition ds f ≡ o → or_here d f o ≡ none
        → (b : Bool) → same_bytes (folded d.name.spelled) f ≡ b → (definition ds f ≡ none → defines ds f ≡ false) → defines (d ∷ ds) f ≡ false
    go (some other) q e b s ih = let z : ◌≡◌ {A = ℕ} 0 1 = cc in absurd (omega arith)
    go none q e true s ih = let z : ◌≡◌ {A = ℕ} 0 1 = cc in absurd (omega arith)
    go none q e false s ih = rw (s, ih q)

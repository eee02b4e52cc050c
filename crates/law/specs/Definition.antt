-- Which sentences a folded name means. Document 01: "With a name defined twice, literal matching uses the last definition, formats join all"; a run calls the
-- last definition too. A law defines a folded name where there is one.
-- docs/SPECIFICATION.md, 1.14.
use Rattle.std.specs.Prelude.{ℕ, cond, List, [], ◌∷◌}
use Rattle.std.proofs.Math.Option.{Option, none, some}
use Rattle.names.specs.Name.{folded, same_bytes}
use Rattle.law.specs.Tree.{Sentences, Law}

-- the sentences of the last function of this folded name
unfoldable pub definition : Law → List ℕ → Option Sentences
definition [] f = none
definition (d ∷ ds) f =
    elim (definition ds f) as (λ _. Option Sentences) [
      | some ss ↦ some ss
      | none ↦ cond (same_bytes (folded d.name.spelled) f) (some d.sentences) none
    ]

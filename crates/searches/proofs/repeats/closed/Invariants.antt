use Rattle.std.specs.Prelude.{ℕ, ◌≡◌, ◌<◌}
use Rattle.matching.specs.Pattern.{Atom}
use Rattle.matching.specs.Match.{Values}
use Rattle.matching.specs.Code.Bound.{place_at, Kept}
use Rattle.matching.specs.declared.Bindings.{Bindings}
use Rattle.searches.specs.Code.Repeats.{AgreeUpTo}
use Rattle.searches.proofs.repeats.closed.Given as goal

-- none of the pattern's variables has a value in the places that were looked at, whatever the values of these keys are
abbrev pub invariant-loop-i : goal.invariant-loop-i
invariant-loop-i l =
    (c : Bindings) → c.count ≡ l.b.count → ((i : ℕ) → i < l.b.count → (place_at c.places i).key ≡ (place_at l.b.places i).key)
    → Kept l.records.text.now l.records.terms.now c → (vs : Values Atom) → AgreeUpTo l.records.text.now l.records.terms.now l.pattern c l.sure vs → AgreeUpTo l.records.text.now l.records.terms.now l.pattern c l.i vs

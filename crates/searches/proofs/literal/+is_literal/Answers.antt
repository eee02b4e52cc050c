use Rattle.std.proofs.Common.{arith, refl, sym, ◌∙◌}
use borrow.Author.Tests.{eqb-true, not-true, not-false}
use Rattle.searches.proofs.LiteralParts as laws
use Rattle.searches.proofs.literal.+is_literal.Goals as goal
use Rattle.searches.proofs.literal.+is_literal.Goals.{else-kind-gt2-via-then-kind-gt2+else-not-is_literal, then-kind-ne6, else-kind-ne6, else-kind-gt2-via-else-kind-gt2}

pub loop-term-init : goal.loop-term-init
loop-term-init t c = rw c.into_iter-term-iterator.ensures.into_iter_gives (laws.left_all c.args.part.now)

pub is_literal-requires : goal.is_literal-requires
is_literal-requires t c = (
  omega (arith, c.decreases, c.end_of.ensures.1, c.end_of.ensures.2, laws.term_short c.loop-term.invariant _ _ c.in-Some.ensures.steps.1),
  tt,
)

pub returns-then-not-is_literal : goal.returns-then-not-is_literal
returns-then-not-is_literal t c =
    let here = c.in-Some.ensures.steps.1 in
    elim c.if-kind-ne6.branch [
      | then-kind-ne6 w ↦ laws.literal_no c.loop-term.invariant _ _ here c.word_at-kind.ensures refl c.if-kind-gt2.true w.if-kind-ne6.true
      | else-kind-ne6 w ↦
          laws.inside_no c.loop-term.invariant _ _ here c.word_at-kind.ensures w.end_of.ensures.0 w.if-kind-ne6.false w.is_literal.ensures
          (not-true _ (sym w.value-is ∙ c.if-not-is_literal.true))
    ]

pub loop-term-preserved : goal.loop-term-preserved
loop-term-preserved t c =
    let so_far = c.loop-term.invariant in
    let here = c.in-Some.ensures.steps.1 in
    let kind = c.word_at-kind.ensures in
    elim c.else-kind-gt2.branch [
      | else-kind-gt2-via-then-kind-gt2+else-not-is_literal w ↦ elim w.if-kind-ne6.branch [
        | then-kind-ne6 v ↦ absurd (v.if-kind-ne6.true (eqb-true _ _ (not-false _ (sym v.value-is ∙ w.if-not-is_literal.false))))
        | else-kind-ne6 v ↦
            laws.after_bracket so_far _ _ here kind v.end_of.ensures.0 v.if-kind-ne6.false v.is_literal.ensures
            (not-false _ (sym v.value-is ∙ w.if-not-is_literal.false))
      ]
      | else-kind-gt2-via-else-kind-gt2 w ↦ laws.after_symbol so_far _ _ here kind refl w.if-kind-gt2.false
    ]

pub returns : goal.returns
returns t c = laws.literal_all c.loop-term.invariant c.in-None.ensures.steps.0

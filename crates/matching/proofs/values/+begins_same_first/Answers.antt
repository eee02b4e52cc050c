use Rattle.matching.proofs.BeginLaws as laws
use Rattle.matching.proofs.values.+begins_same_first.Goals as goal
use Rattle.matching.proofs.values.+begins_same_first.Goals.{begins-then-left-lt24-via-then-left-lt24, begins-then-left-lt24-via-else-left-lt24+then-not-same_first}

pub begins-loop-term-init : goal.begins-loop-term-init
begins-loop-term-init t c = rw c.into_iter-term-iterator.ensures.into_iter_gives (laws.begun c.args.text.now c.args.value.now c.args.row.now)

pub begins-returns-then-left-lt24 : goal.begins-returns-then-left-lt24
begins-returns-then-left-lt24 t c =
    let here = c.in-Some.ensures.steps.1 in
    elim c.then-left-lt24.branch [
      | begins-then-left-lt24-via-then-left-lt24 w ↦ laws.begins_short c.loop-term.invariant _ _ here w.if-left-lt24.true
      | begins-then-left-lt24-via-else-left-lt24+then-not-same_first w ↦
          laws.begins_differs c.loop-term.invariant _ _ here w.if-left-lt24.false w.same_first.ensures w.if-not-same_first.true
    ]

pub begins-loop-term-preserved : goal.begins-loop-term-preserved
begins-loop-term-preserved t c =
    laws.begins_next c.loop-term.invariant _ _ c.in-Some.ensures.steps.1 c.if-left-lt24.false c.same_first.ensures c.if-not-same_first.false c.after-left.ensures.0

pub begins-returns : goal.begins-returns
begins-returns t c = laws.begins_after c.loop-term.invariant c.in-None.ensures.steps.0

pub same_first-returns-in-Some : goal.same_first-returns-in-Some
same_first-returns-in-Some t c =
    laws.inside_begins c.args.text.now c.args.value.now c.args.row.now c.is_bracket.ensures c.is_bracket-2.ensures
    c.if-not-is_bracket.false c.if-not-is_bracket-2.false c.end_of-2.ensures.0 c.end_of.ensures.0 c.in-Some.is c.begins.ensures

pub same_first-returns-in-None : goal.same_first-returns-in-None
same_first-returns-in-None t c =
    laws.inside_differs c.args.text.now c.args.value.now c.args.row.now c.is_bracket.ensures c.is_bracket-2.ensures
    c.if-not-is_bracket.false c.if-not-is_bracket-2.false c.end_of-2.ensures.0 c.end_of.ensures.0 c.in-None.is c.begins.ensures

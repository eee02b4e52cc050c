-- What is found so far and what is left, term by term: `Counted`. The measure is the length.
use Rattle.std.proofs.Common.{refl}
use Rattle.lints.proofs.PartLaws.{e_start, e_end, e_self, e_bracket, e_other}
use Rattle.lints.proofs.open.+e_occurrences.Goals as goal

pub loop-left-init : goal.loop-left-init
loop-left-init t c = rw c.into_iter-left-iterator.ensures.into_iter_gives (e_start c.args.part.now)

pub returns : goal.returns
returns t c = e_end c.loop-left.invariant c.in-None.ensures.steps.0

pub loop-left-preserved-then-kind-eq-E_VARIABLE : goal.loop-left-preserved-then-kind-eq-E_VARIABLE
loop-left-preserved-then-kind-eq-E_VARIABLE t c =
    let here = c.in-Some.ensures.steps in
    e_self c.loop-left.invariant here.0 here.1 c.word_at-kind.ensures c.if-kind-eq-E_VARIABLE.true refl

pub loop-left-preserved-then-kind-eq-BRACKET : goal.loop-left-preserved-then-kind-eq-BRACKET
loop-left-preserved-then-kind-eq-BRACKET t c =
    let here = c.in-Some.ensures.steps in
    e_bracket c.loop-left.invariant here.0 here.1 c.word_at-kind.ensures c.end_of.ensures.0 c.if-kind-eq-BRACKET.true c.e_occurrences-found.ensures refl

pub loop-left-preserved : goal.loop-left-preserved
loop-left-preserved t c =
    let here = c.in-Some.ensures.steps in
    e_other c.loop-left.invariant here.0 here.1 c.word_at-kind.ensures c.if-kind-eq-E_VARIABLE.false c.if-kind-eq-BRACKET.false refl

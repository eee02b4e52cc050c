use Rattle.std.proofs.Common.{refl, arith}
use Rattle.tokens.proofs.QuotedLaws.{quoting_start, quoting_none, quoting_backslash, quoting_next, quoting_empty, quoting_found, is_quote, no_quote}
use Rattle.tokens.proofs.pieces.quoted_at.Goals as goal

pub loop-i-init : goal.loop-i-init
loop-i-init c = rw c.into_iter-i-iterator.ensures.into_iter_gives (refl, quoting_start c.args.text.now c.args.at c.requires)

pub returns-then-i-first : goal.returns-then-i-first
returns-then-i-first c =
    let inv = c.loop-i.invariant in
    let step = rw inv.0 at c.in-Some.ensures.steps in
    let here = is_quote inv.1 step.1 c.if-c-eq39.true in
    quoting_empty inv.1 here.0 here.1 (omega (arith, step.0, c.if-i-first.true))

pub returns-then-c-eq39 : goal.returns-then-c-eq39
returns-then-c-eq39 c =
    let inv = c.loop-i.invariant in
    let step = rw inv.0 at c.in-Some.ensures.steps in
    let here = is_quote inv.1 step.1 c.if-c-eq39.true in
    rw step.0 (quoting_found inv.1 here.0 here.1 (λ e. c.if-i-first.false (omega (arith, step.0, e))))

pub returns-then-c-eq-BACKSLASH : goal.returns-then-c-eq-BACKSLASH
returns-then-c-eq-BACKSLASH c =
    let inv = c.loop-i.invariant in
    let step = rw inv.0 at c.in-Some.ensures.steps in
    let here = no_quote inv.1 step.1 c.if-c-eq39.false in
    quoting_backslash inv.1 here.0 here.1 step.1 c.if-c-eq-BACKSLASH.true

pub loop-i-preserved : goal.loop-i-preserved
loop-i-preserved c =
    let inv = c.loop-i.invariant in
    let step = rw inv.0 at c.in-Some.ensures.steps in
    let here = no_quote inv.1 step.1 c.if-c-eq39.false in
    (step.4, rw step.2 (quoting_next inv.1 here.0 here.1 step.1 c.if-c-eq-BACKSLASH.false))

pub returns : goal.returns
returns c =
    let inv = c.loop-i.invariant in
    let step = rw inv.0 at c.in-None.ensures.steps in
    quoting_none inv.1 step.0

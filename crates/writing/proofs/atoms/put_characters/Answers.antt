use Rattle.std.proofs.Common.{◌≡◌, ◌∙◌, refl, ap, arith, drop, length}
use Rattle.tokens.specs.Token.{utf8}
use Rattle.tokens.proofs.CharacterLaws.{same_bytes}
use Rattle.writing.proofs.SpellLaws.{whole_width, spelling_start, spelling_next, spelling_end, spelling_none}
use Rattle.writing.proofs.atoms.put_characters.Goals as goal

pub loop-i-init : goal.loop-i-init
loop-i-init c =
    let x = c.args in
    rw c.into_iter-i-iterator.ensures.into_iter_gives
    (refl, omega arith, omega arith, omega arith, λ cs h. spelling_start x.text.now x.from x.to cs _ _ h)

pub returns-then-i-to : goal.returns-then-i-to
returns-then-i-to c =
    let inv = c.loop-i.invariant in
    let step = rw inv.0 at c.in-Some.ensures.steps in
    (inv.2, omega arith, λ cs h. spelling_end (inv.4 cs h) (omega (arith, step.0, c.if-i-to.true)))

pub loop-i-preserved : goal.loop-i-preserved
loop-i-preserved c =
    let inv = c.loop-i.invariant in
    let step = rw inv.0 at c.in-Some.ensures.steps in
    let put = c.put_record-next.ensures in
    let wide = whole_width (drop c.loop-i.i-iterator.at c.args.text.now) step.1 in
    let width : c.len_utf8.result ≡ length (utf8 c.in-Some.c) = c.len_utf8.ensures.len ∙ ap length (same_bytes c.in-Some.c) in (
      step.4,
      omega arith,
      omega (arith, inv.2, put.0),
      omega (arith, inv.3, put.0, wide),
      λ cs h. rw step.2 (spelling_next (inv.4 cs h) (omega (arith, step.0, c.if-i-to.false)) step.1 (rw (step.0, width) at put.1)),
    )

pub returns : goal.returns
returns c =
    let inv = c.loop-i.invariant in
    let step = rw inv.0 at c.in-None.ensures.steps in
    (inv.2, omega arith, λ cs h. spelling_none (inv.4 cs h) step.0)

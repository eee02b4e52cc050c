use Rattle.std.proofs.Common.{[], ◌∷◌, false, ◌≡◌, refl, sym, ◌∙◌, drop, arith}
use Rattle.tokens.specs.Lex.{begins}
use Rattle.tokens.proofs.CharacterLaws.{character_within}
use Rattle.tokens.proofs.CommentLaws.{comment_none, comment_start, comment_end, comment_more, comment_found, not_closing}
use Rattle.tokens.proofs.pieces.comment_at.Goals as goal
use Rattle.tokens.proofs.pieces.comment_at.Goals.{else-c-eq42-via-then-c-eq42+else-stands_at, else-c-eq42-via-else-c-eq42}

pub returns-then-not-stands_at : goal.returns-then-not-stands_at
returns-then-not-stands_at c = comment_none c.args.text.now c.args.at c.requires.1 c.requires.2 c.stands_at.ensures c.if-not-stands_at.true

pub loop-i-init : goal.loop-i-init
loop-i-init c = rw c.into_iter-i-iterator.ensures.into_iter_gives (refl, comment_start c.args.text.now c.args.at c.requires c.stands_at.ensures c.if-not-stands_at.false)

pub returns-then-stands_at : goal.returns-then-stands_at
returns-then-stands_at c =
    let inv = c.loop-i.invariant in
    let step = rw inv.0 at c.in-Some.ensures.steps in
    rw step.0 (comment_found inv.1 (rw step.0 at c.stands_at-then-c-eq42.ensures) c.if-stands_at.true)

pub loop-i-preserved : goal.loop-i-preserved
loop-i-preserved c =
    let inv = c.loop-i.invariant in
    let step = rw inv.0 at c.in-Some.ensures.steps in
    let inside = character_within c.args.text.now c.loop-i.i-iterator.at _ _ step.1 in
    let goes : false ≡ begins (42 ∷ 47 ∷ []) (drop c.loop-i.i-iterator.at c.args.text.now) =
    elim c.else-c-eq42.branch [
      | else-c-eq42-via-then-c-eq42+else-stands_at w ↦ sym w.if-stands_at.false ∙ rw step.0 at w.stands_at-then-c-eq42.ensures
      | else-c-eq42-via-else-c-eq42 w ↦ not_closing c.args.text.now c.loop-i.i-iterator.at _ _ step.1 w.if-c-eq42.false
    ] in
    (step.4, rw step.2 (comment_more inv.1 (omega arith) goes refl step.1))

pub returns : goal.returns
returns c =
    let inv = c.loop-i.invariant in
    let step = rw inv.0 at c.in-None.ensures.steps in
    comment_end inv.1 step.0

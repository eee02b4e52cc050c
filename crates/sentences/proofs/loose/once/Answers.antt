use Rattle.std.proofs.Common.{arith, sym, ◌∙◌, ◌<◌}
use Rattle.std.proofs.lemmas.Grind.{common_steps}
use Rattle.sentences.proofs.OnceLaws.{apart_all, apart_other, apart_variable}
use Rattle.sentences.proofs.loose.once.Goals as goal
use Rattle.sentences.proofs.loose.once.Goals.{else-contains-via-then-contains+else-again, else-contains-via-else-contains}

pub loop-i-preserved : goal.loop-i-preserved
loop-i-preserved c =
    let value = c.contains.ensures.value in
    elim c.else-contains.branch [
      | else-contains-via-then-contains+else-again w ↦
          let inside = sym w.if-contains.true ∙ value in
          let low : 2 < c.word_at.result = grind (arith, common_steps, inside) in
          apart_variable _ _ _ c.loop-i.invariant c.loop-i-test.true ((w.again.ensures (omega (arith, c.word_at.ensures, low))).0 w.if-again.false)
      | else-contains-via-else-contains w ↦
          let outside = sym w.if-contains.false ∙ value in
          apart_other _ _ _ c.loop-i.invariant c.loop-i-test.true c.word_at.ensures (λ p q. grind (arith, common_steps, outside, p, q))
    ]

pub returns : goal.returns
returns c e = apart_all _ _ _ c.loop-i.invariant (omega (arith, c.loop-i-test.false))

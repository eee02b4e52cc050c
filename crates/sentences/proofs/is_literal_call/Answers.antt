use Rattle.std.proofs.Common.{arith, sym, ◌∙◌}
use borrow.Author.Tests.{eqb-true, eq-eqb, ltb-true}
use Rattle.matching.proofs.SameLaws.{false_not_true}
use Rattle.sentences.proofs.SentenceLaws.{call_none, call_other, call_literal}
use Rattle.sentences.proofs.is_literal_call.Goals as goal
use Rattle.sentences.proofs.is_literal_call.Goals.{then-term-terms, else-term-terms}

pub returns-then-term_word-eq7 : goal.returns-then-term_word-eq7
returns-then-term_word-eq7 c =
    let told = c.if-term_word-eq7.true in
    elim c.if-term-terms.branch [
      | then-term-terms w ↦
          call_literal _ _ c.args.accepted.now.law.indexed _ c.terms.ensures _ _ _ _ w.term_word.ensures (eqb-true _ _ (sym w.value-is ∙ told)) w.if-term-terms.true
          c.argument_of.ensures c.is_literal.ensures
      | else-term-terms w ↦ absurd (omega (arith, ltb-true _ _ (sym w.value-is ∙ told), w.if-term-terms.false))
    ]

pub returns-else-term_word-eq7 : goal.returns-else-term_word-eq7
returns-else-term_word-eq7 c =
    let told = c.if-term_word-eq7.false in
    let indexed = c.args.accepted.now.law.indexed in
    elim c.if-term-terms.branch [
      | then-term-terms w ↦
          told ∙ call_other _ _ indexed _ c.terms.ensures _ _ w.term_word.ensures (λ seven. false_not_true (sym told ∙ w.value-is ∙ eq-eqb _ _ seven)) w.if-term-terms.true
      | else-term-terms w ↦ told ∙ call_none _ _ indexed _ c.terms.ensures _ w.if-term-terms.false
    ]

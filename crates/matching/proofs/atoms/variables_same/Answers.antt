use Rattle.matching.proofs.AtomLaws as laws
use Rattle.matching.proofs.atoms.variables_same.Goals as goal

pub returns-then-kind-word_at : goal.returns-then-kind-word_at
returns-then-kind-word_at c = λ k. laws.kinds_differ c.args.text.now c.args.x.now c.args.y.now c.word_at-kind.ensures c.word_at.ensures c.if-kind-word_at.true

pub returns-then-kind-lt6 : goal.returns-then-kind-lt6
returns-then-kind-lt6 c =
    laws.variables_same c.args.text.now c.args.x.now c.args.y.now c.word_at-kind.ensures c.word_at.ensures c.if-kind-word_at.false
    (laws.words_spelled c.args.text.now c.spelled-a.ensures c.word_at-2.ensures c.word_at-3.ensures)
    (laws.words_spelled c.args.text.now c.spelled-b.ensures c.word_at-4.ensures c.word_at-5.ensures)
    c.if-kind-lt6.true c.indices_equal.ensures

pub returns-else-kind-lt6 : goal.returns-else-kind-lt6
returns-else-kind-lt6 c =
    λ k. laws.others_differ c.args.text.now c.args.x.now c.args.y.now c.word_at-kind.ensures c.word_at.ensures c.if-kind-word_at.false c.if-kind-lt6.false

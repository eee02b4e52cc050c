use Rattle.std.proofs.Common.{arith}
use Rattle.matching.proofs.AtomLaws as laws
use Rattle.matching.proofs.atoms.symbols_same.Goals as goal

pub returns-then-kind-word_at : goal.returns-then-kind-word_at
returns-then-kind-word_at c =
    laws.kinds_differ c.args.text.now c.args.x.now c.args.y.now c.word_at-kind.ensures c.word_at.ensures c.if-kind-word_at.true

pub returns-then-kind-eq1 : goal.returns-then-kind-eq1
returns-then-kind-eq1 c =
    laws.names_same c.args.text.now c.args.x.now c.args.y.now c.word_at-kind.ensures c.word_at.ensures c.if-kind-word_at.false
    (laws.words_spelled c.args.text.now c.spelled-a.ensures c.word_at-2.ensures c.word_at-3.ensures)
    (laws.words_spelled c.args.text.now c.spelled-b.ensures c.word_at-4.ensures c.word_at-5.ensures)
    c.if-kind-eq1.true c.names_equal.ensures

pub returns-else-kind-eq1 : goal.returns-else-kind-eq1
returns-else-kind-eq1 c =
    laws.numbers_same c.args.text.now c.args.x.now c.args.y.now c.word_at-kind.ensures c.word_at.ensures c.if-kind-word_at.false
    (laws.words_spelled c.args.text.now c.spelled-a.ensures c.word_at-2.ensures c.word_at-3.ensures)
    (laws.words_spelled c.args.text.now c.spelled-b.ensures c.word_at-4.ensures c.word_at-5.ensures)
    (omega (arith, c.word_at-kind.ensures, c.if-kind-eq0.false, c.if-kind-eq1.false, c.requires.2)) c.numbers_equal.ensures

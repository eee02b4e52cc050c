use Rattle.std.proofs.Common.{arith}
use Rattle.law.specs.Code.Filling.{block_word}
use Rattle.law.proofs.Tables.{sum_next, block_word_lem, block_none}
use Rattle.law.proofs.index.add_block.Goals as goal

pub returns-then-word_at-eq8 : goal.returns-then-word_at-eq8
returns-then-word_at-eq8 c =
    let a = c.args in
    let word = block_word_lem a.terms.now a.t _ _ c.word_at.ensures c.word_at-then-word_at-eq8.ensures c.if-word_at-eq8.true in
    (sum_next (block_word a.terms.now) a.t a.sum _ c.requires.2 word, omega (arith, c.requires.3))

pub returns-else-word_at-eq8 : goal.returns-else-word_at-eq8
returns-else-word_at-eq8 c =
    let a = c.args in
    let next = sum_next (block_word a.terms.now) a.t a.sum 0 c.requires.2 (block_none a.terms.now a.t _ c.word_at.ensures c.if-word_at-eq8.false) in
    (omega (arith, next), omega (arith, c.requires.3))

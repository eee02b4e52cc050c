-- Kinds that differ are different variables; of one kind, the indices decide.
use borrow.Author.Tests.{ne_eqb}
use Rattle.std.proofs.Common.{◌∙◌}
use Rattle.law.proofs.PatternLaws.{other_kind, one_kind}
use Rattle.law.proofs.patterns.Pattern.is_same.Goals as goal

pub returns-then-word_at : goal.returns-then-word_at
returns-then-word_at c =
    let pattern = c.args.self.now in
    λ v e. c.indices_equal.ensures
    ∙ one_kind pattern.text.now pattern.records.now c.args.i c.args.j _ _ _ _ c.word_at.ensures c.word_at-2.ensures
    c.requires.1 c.requires.2 c.if-word_at.true c.index_at.ensures c.index_at-then-word_at.ensures v e

pub returns-else-word_at : goal.returns-else-word_at
returns-else-word_at c =
    let pattern = c.args.self.now in
    λ v e. ne_eqb _ _ c.if-word_at.false
    ∙ other_kind pattern.text.now pattern.records.now c.args.i c.args.j _ _ c.word_at.ensures c.word_at-2.ensures
    c.requires.1 c.requires.2 c.if-word_at.false v e

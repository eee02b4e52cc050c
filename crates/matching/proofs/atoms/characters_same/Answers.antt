use Rattle.matching.proofs.AtomLaws as laws
use Rattle.matching.proofs.atoms.characters_same.Goals as goal

pub returns-then-word_at-eq0 : goal.returns-then-word_at-eq0
returns-then-word_at-eq0 c = λ text. laws.characters_same c.args.x.now c.args.y.now c.requires.2 c.word_at.ensures text
    c.if-word_at-eq0.true c.word_at-then-word_at-eq0.ensures c.word_at-then-word_at-eq0-2.ensures

pub returns-else-word_at-eq0 : goal.returns-else-word_at-eq0
returns-else-word_at-eq0 c = λ text. laws.character_differs c.args.x.now c.args.y.now c.requires.2 c.word_at.ensures text c.if-word_at-eq0.false

-- One law for each return (proofs/CodeLaws.antt).
use Rattle.file.proofs.CodeLaws.{found_short, found_over, found_cut, found_part}
use Rattle.file.proofs.section_at.Goals as goal

pub returns-then-left-lt4 : goal.returns-then-left-lt4
returns-then-left-lt4 c = found_short _ _ _ _ c.if-left-lt4.true

pub returns-then-limit-count : goal.returns-then-limit-count
returns-then-limit-count c = found_over _ _ _ _ _ c.if-left-lt4.false c.word_at-count.ensures c.if-limit-count.true

pub returns-then-left-size : goal.returns-then-left-size
returns-then-left-size c = found_cut _ _ _ _ _ c.if-left-lt4.false c.word_at-count.ensures c.if-limit-count.false c.if-left-size.true

pub returns : goal.returns
returns c = found_part _ _ _ _ _ c.requires.0 c.if-left-lt4.false c.word_at-count.ensures c.if-limit-count.false c.if-left-size.false

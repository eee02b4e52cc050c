use Rattle.std.proofs.Common.{refl}
use Rattle.law.proofs.PatternLaws.{index_inside}
use Rattle.law.proofs.patterns.Pattern.index_at.Goals as goal

pub name_in-requires : goal.name_in-requires
name_in-requires c =
    let pattern = c.args.self.now in
    rw (c.word_at-start.ensures, c.word_at-len.ensures)
    (index_inside pattern.text.now pattern.records.now pattern.count c.args.i _ pattern.allowed c.requires.0 refl c.requires.1 c.requires.2)

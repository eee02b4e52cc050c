use Rattle.matching.proofs.AtomLaws as laws
use Rattle.matching.proofs.atoms.is_bracket.Goals as goal

pub returns : goal.returns
returns c = laws.bracket_kind c.args.part.now c.word_at.ensures

use Rattle.names.specs.Name.{digit_byte}
use Rattle.tokens.proofs.AtomLaws.{number_found}
use Rattle.tokens.proofs.atoms.number_at.Goals as goal

pub returns : goal.returns
returns c = number_found c.args.text.now c.args.at _ c.requires.0 c.requires.1 (c.leading_end.ensures.end digit_byte (λ k b l p. p))

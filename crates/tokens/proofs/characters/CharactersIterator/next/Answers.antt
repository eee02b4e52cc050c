use Rattle.std.proofs.Common.{rules, refl, arith}
use Rattle.tokens.proofs.CharacterLaws.{character_within}
use Rattle.tokens.proofs.characters.CharactersIterator.next.Goals as goal

pub overflow_add-self : goal.overflow_add-self
overflow_add-self c = omega (arith, character_within c.args.self.now.text.now c.args.self.now.at _ _ c.in_ok-c.ensures)

pub returns-clause-steps : goal.returns-clause-steps
returns-clause-steps c =
    let inside = character_within c.args.self.now.text.now c.args.self.now.at _ _ c.in_ok-c.ensures in
    let h = c.in_ok-c.ensures in
    (refl, (h.0, h.1, h.2, refl, omega arith), omega arith, omega arith, refl)

pub returns-clause-goes : goal.returns-clause-goes
returns-clause-goes c =
    let inside = character_within c.args.self.now.text.now c.args.self.now.at _ _ c.in_ok-c.ensures in
    search rules

use Rattle.std.proofs.Common.{arith, sym, ◌∙◌}
use Rattle.writing.proofs.CharacterLaws.{starts_one, starts_none, starts_end}
use Rattle.writing.proofs.source.Source.character_count.Goals as goal
use Rattle.writing.proofs.source.Source.character_count.Goals.{then-begins_character, else-begins_character}

pub loop-i-preserved : goal.loop-i-preserved
loop-i-preserved c =
    let within = c.min-i-end.ensures in
    elim c.if-begins_character.branch [
      | then-begins_character w ↦ rw w.n-is (starts_one c.loop-i.invariant (omega arith) (omega arith) c.args.self.now.short (sym c.begins_character.ensures ∙ w.if-begins_character.true))
      | else-begins_character w ↦ rw w.n-is (starts_none c.loop-i.invariant (omega arith) (omega arith) (sym c.begins_character.ensures ∙ w.if-begins_character.false))
    ]

pub returns : goal.returns
returns c = let within = c.min-i-end.ensures in starts_end c.loop-i.invariant (omega arith)

use Rattle.writing.proofs.CharacterLaws.{Starts}
use Rattle.writing.proofs.source.Source.character_count.Given as goal

abbrev pub invariant-loop-i : goal.invariant-loop-i
invariant-loop-i l = Starts l.self.text.now l.from l.to l.i l.n

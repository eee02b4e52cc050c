use Rattle.std.proofs.Common.{false, ◌+◌, length, drop}
use Rattle.encoding.specs.Code.FlatFile.{flat_sentences}
use Rattle.writing.specs.Code.Held.{HeldIn, Stand}
use Rattle.writing.proofs.PassingLaws.{Rounds}
use Rattle.writing.proofs.source.Source.sentence_section.Given as goal

-- the records of the tokens so far are put
abbrev pub invariant-loop-i : goal.invariant-loop-i
invariant-loop-i l =
    Rounds (λ ts. HeldIn l.self.tokens.now ts × Stand l.self.text.now ts) (flat_sentences false) (λ ts. flat_sentences l.inside (drop l.i ts)) (length l.self.tokens.now) 20 l.initial.out (l.at + 4) l.i l.next l.out

use Rattle.tokens.specs.Code.TokenKind.{kind_code}
use Rattle.tokens.specs.Code.Arrays.{kinds_in}
use Rattle.writing.proofs.FoundLaws.{Seeking}
use Rattle.writing.proofs.source.Source.place_of.Given as goal

abbrev pub invariant-loop-i : goal.invariant-loop-i
invariant-loop-i l = Seeking (kind_code l.kind) l.from l.i (kinds_in l.self.tokens.now)

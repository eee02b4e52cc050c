use Rattle.tokens.specs.Code.TokenKind.{kind_code}
use Rattle.tokens.specs.Code.Arrays.{kinds_in}
use Rattle.writing.proofs.FoundLaws.{Counting}
use Rattle.writing.proofs.source.Source.count.Given as goal

abbrev pub invariant-loop-i : goal.invariant-loop-i
invariant-loop-i l = Counting (kind_code l.kind) (kind_code l.stop) (kinds_in l.self.tokens.now) l.from l.i l.n

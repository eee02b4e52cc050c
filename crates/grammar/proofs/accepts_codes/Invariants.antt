use Rattle.grammar.proofs.KindLaws.{Left}
use Rattle.grammar.proofs.accepts_codes.Given as goal

-- the kinds left decide from the mode and the stack so far
abbrev pub invariant-loop-code : goal.invariant-loop-code
invariant-loop-code l = Left l.kinds l.code-index l.mode l.pairs

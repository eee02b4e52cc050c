use Rattle.tokens.specs.Code.Arrays.{kinds_in}
use Rattle.grammar.proofs.KindLaws.{Left}
use Rattle.grammar.proofs.accepts.Given as goal

-- the tokens left decide from the mode and the stack so far
abbrev pub invariant-loop-token : goal.invariant-loop-token
invariant-loop-token l = Left (kinds_in l.tokens) l.token-index l.mode l.stack

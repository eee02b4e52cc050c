use Rattle.std.proofs.Common.{length, ◌-◌}
use Rattle.tokens.proofs.LexLaws.{Lexing}
use Rattle.tokens.proofs.lex_text.Given as goal

-- the bytes left from `at` on decide
abbrev pub invariant-loop-at : goal.invariant-loop-at
invariant-loop-at l = Lexing l.text l.at l.n l.tokens

abbrev pub decreases-loop-at : goal.decreases-loop-at
decreases-loop-at l = length l.text - l.at

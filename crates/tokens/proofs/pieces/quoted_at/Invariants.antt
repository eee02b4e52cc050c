use Rattle.std.proofs.Common.{◌≡◌}
use Rattle.tokens.proofs.QuotedLaws.{Quoting}
use Rattle.tokens.proofs.pieces.quoted_at.Given as goal

-- the characters left from the iterator's place on decide
abbrev pub invariant-loop-i : goal.invariant-loop-i
invariant-loop-i l = (l.i-iterator.text.now ≡ l.text) × Quoting l.text l.at l.i-iterator.at

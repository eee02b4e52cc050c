use Rattle.std.proofs.Common.{◌≡◌}
use Rattle.tokens.proofs.CommentLaws.{Commenting}
use Rattle.tokens.proofs.pieces.comment_at.Given as goal

-- the characters left from the iterator's place on decide
abbrev pub invariant-loop-i : goal.invariant-loop-i
invariant-loop-i l = (l.i-iterator.text.now ≡ l.text) × Commenting l.text l.at l.i-iterator.at

use Rattle.sentences.specs.Code.Ahead.{FreshBelow}
use Rattle.sentences.proofs.loose.once.Given as goal

abbrev pub invariant-loop-i : goal.invariant-loop-i
invariant-loop-i l = FreshBelow l.fn.text l.fn.pattern l.i

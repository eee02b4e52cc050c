use Rattle.sentences.specs.Code.Ahead.{Skipped}
use Rattle.sentences.proofs.loose.skip.Given as goal

abbrev pub invariant-loop : goal.invariant-loop
invariant-loop l = Skipped l.fn.row l.counter l.left

use Rattle.std.proofs.Common.{◌≡◌, ◌+◌, length}
use Rattle.file.specs.Sections.{file_of}
use Rattle.formats.proofs.FunctionSteps.{RoundFrom}
use Rattle.formats.proofs.infer.infer_round.Given as goal

abbrev pub invariant-loop-f : goal.invariant-loop-f
invariant-loop-f l =
    RoundFrom l.placed.limit (file_of l.placed.law.bytes.now) l.fn.store l.f l.store l.changed × (length l.joined ≡ l.placed.limit + 1)

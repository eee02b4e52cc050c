use Rattle.std.proofs.Common.{◌≡◌, ◌+◌, length}
use Rattle.file.specs.Sections.{file_of}
use Rattle.formats.proofs.FunctionSteps.{ArgumentsFrom}
use Rattle.formats.proofs.infer.infer_arguments.Given as goal

abbrev pub invariant-loop-f : goal.invariant-loop-f
invariant-loop-f l =
    ArgumentsFrom l.placed.limit (file_of l.placed.law.bytes.now) l.fn.store l.f l.store × (length l.joined ≡ l.placed.limit + 1)

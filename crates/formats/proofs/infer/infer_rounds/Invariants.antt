use Rattle.std.proofs.Common.{◌≡◌, ◌+◌, length}
use Rattle.file.specs.Sections.{file_of}
use Rattle.law.specs.Reading.{tree_of}
use Rattle.formats.proofs.RoundSteps.{RoundsAt}
use Rattle.formats.proofs.infer.infer_rounds.Given as goal

abbrev pub invariant-loop-done : goal.invariant-loop-done
invariant-loop-done l =
    (length l.joined ≡ l.placed.limit + 1) × RoundsAt l.placed.limit (tree_of (file_of l.placed.law.bytes.now)) l.most l.fn.store l.store l.done

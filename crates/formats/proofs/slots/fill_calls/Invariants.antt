use Rattle.std.proofs.Common.{◌≡◌, length}
use Rattle.file.specs.Sections.{file_of}
use Rattle.formats.specs.Code.Slots.{SlotsUpTo}
use Rattle.formats.proofs.slots.fill_calls.Given as goal

abbrev pub invariant-loop-t : goal.invariant-loop-t
invariant-loop-t l = (length l.slots.calls ≡ 512) × SlotsUpTo (file_of l.allowed.law.bytes.now) l.slots l.t

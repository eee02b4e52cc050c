use Rattle.std.specs.Ordering.{is_lt}
use Rattle.names.specs.Name.{order_bytes}
use Rattle.file.specs.Sections.{file_of}
use Rattle.formats.specs.Code.Slots.{function_folded}
use Rattle.formats.proofs.SlotLaws.{CountAt}
use Rattle.formats.proofs.slots.place.Given as goal

abbrev pub invariant-loop-g : goal.invariant-loop-g
invariant-loop-g l =
    CountAt (file_of l.allowed.law.bytes.now) (λ m. is_lt (order_bytes m (function_folded (file_of l.allowed.law.bytes.now) l.f))) l.found l.g

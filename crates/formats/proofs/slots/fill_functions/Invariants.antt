use Rattle.std.proofs.Common.{◌≡◌, ℕ, ◌<◌, length, get_or}
use Rattle.file.specs.Sections.{file_of}
use Rattle.formats.specs.Code.Slots.{position, function_folded, file_names, KeptFrom}
use Rattle.formats.proofs.slots.fill_functions.Given as goal

abbrev pub invariant-loop-f : goal.invariant-loop-f
invariant-loop-f l =
    (length l.places ≡ 64)
    × ((i : ℕ) → i < l.f → get_or l.places i 0 ≡ position (file_names (file_of l.allowed.law.bytes.now)) (function_folded (file_of l.allowed.law.bytes.now) i))
    × KeptFrom l.fn.places l.places (file_of l.allowed.law.bytes.now).functions.count

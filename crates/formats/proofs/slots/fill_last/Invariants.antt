use Rattle.std.proofs.Common.{◌≡◌, ℕ, ◌<◌, length, get_or, true, false}
use Rattle.file.specs.Sections.{file_of}
use Rattle.formats.specs.Code.Slots.{is_last}
use Rattle.formats.proofs.SlotLaws.{CountAt}
use Rattle.formats.proofs.slots.fill_last.Given as goal

abbrev pub invariant-loop-f : goal.invariant-loop-f
invariant-loop-f l =
    CountAt (file_of l.allowed.law.bytes.now) (λ m. true) l.found l.f
    × (length l.last ≡ 64)
    × ((i : ℕ) → i < l.f → get_or l.last i false ≡ is_last (file_of l.allowed.law.bytes.now) i)

use Rattle.names.specs.Name.{folded}
use Rattle.file.specs.Sections.{file_of}
use Rattle.formats.proofs.SlotLaws.{SearchAt}
use Rattle.formats.proofs.slots.first_named.Given as goal

-- no function from `from` up to f has the name
abbrev pub invariant-loop-f : goal.invariant-loop-f
invariant-loop-f l = SearchAt (file_of l.allowed.law.bytes.now) l.from (folded l.name) l.f

use Rattle.std.proofs.Common.{arith}
use Rattle.file.specs.Sections.{file_of}
use Rattle.law.proofs.IndexLaws.{functions_limit}
use Rattle.formats.proofs.SlotLaws.{call_name_inside, call_name_read, place_found, place_missing}
use Rattle.formats.proofs.slots.callee_place.Goals as goal

pub name_in-requires : goal.name_in-requires
name_in-requires c =
    rw c.text.ensures (call_name_inside _ _ _ _ c.args.allowed.now.fields c.requires.2 c.requires.3 c.term_word-start.ensures c.term_word-len.ensures)

pub bounds-slots-f : goal.bounds-slots-f
bounds-slots-f c = omega (arith, c.in-Some.ensures.0.inside, functions_limit _ _ c.args.allowed.now.law.indexed)

pub returns-in-Some : goal.returns-in-Some
returns-in-Some c =
    let name = call_name_read (file_of c.args.allowed.now.law.bytes.now) c.args.t _ _ _ _ c.text.ensures c.term_word-start.ensures c.term_word-len.ensures c.name_in.ensures in
    place_found _ _ _ _ c.requires.0 (rw name at c.in-Some.ensures.0)

pub returns-in-None : goal.returns-in-None
returns-in-None c =
    let name = call_name_read (file_of c.args.allowed.now.law.bytes.now) c.args.t _ _ _ _ c.text.ensures c.term_word-start.ensures c.term_word-len.ensures c.name_in.ensures in
    place_missing _ _ _ c.requires.1 (rw name at c.in-None.ensures)

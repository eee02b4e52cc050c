-- The records of blocks' sentences are those from the first after the functions' on (`first_in_block`).
use Rattle.std.proofs.Common.{arith, sym}
use Rattle.file.specs.Sections.{file_of}
use Rattle.law.specs.Reading.{function_name}
use Rattle.messages.proofs.NameLaws.{owner_short, functions_few, first_in_block}
use Rattle.messages.proofs.put_dead_sentence.Goals as goal

pub function_name-owner-requires : goal.function_name-owner-requires
function_name-owner-requires c = (c.requires.0, c.args.accepted.now.accepted.fields)

pub first_sentence-requires : goal.first_sentence-requires
first_sentence-requires c = functions_few c.args.accepted.now.law.indexed c.functions.ensures

pub put_dead-requires : goal.put_dead-requires
put_dead-requires c = omega (arith, c.requires.1, owner_short c.args.accepted.now.law.indexed c.args.position c.function_name-owner.ensures)

pub returns : goal.returns
returns c =
    rw (first_in_block c.args.accepted.now.law.indexed c.functions.ensures c.first_sentence.ensures) at
    (c.put_dead.ensures (function_name (file_of c.args.accepted.now.law.bytes.now) c.args.position) (sym c.function_name-owner.ensures))

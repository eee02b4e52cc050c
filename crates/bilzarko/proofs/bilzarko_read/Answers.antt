-- `bilzarko_read`: one law for the refused call, one for the call that writes.
use Rattle.bilzarko.proofs.ExportLaws.{read_refused, read_written}
use Rattle.bilzarko.proofs.bilzarko_read.Goals as goal

pub returns-in-Err : goal.returns-in-Err
returns-in-Err c = read_refused c.args.answer.now c.read.ensures c.in-Err.why c.in-Err.is c.from.ensures

pub returns-in-Ok : goal.returns-in-Ok
returns-in-Ok c = read_written c.args.answer.now c.read.ensures c.in-Ok.bytes c.in-Ok.is

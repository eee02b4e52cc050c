-- `bilzarko_page`: one law for the refused call, one for the call that writes.
use Rattle.bilzarko.proofs.ExportLaws.{bytes_refused, bytes_written}
use Rattle.bilzarko.proofs.bilzarko_page.Goals as goal

pub returns-in-Err : goal.returns-in-Err
returns-in-Err c = bytes_refused c.args.answer.now c.page.ensures c.in-Err.why c.in-Err.is c.from.ensures

pub returns-in-Ok : goal.returns-in-Ok
returns-in-Ok c = bytes_written c.args.answer.now c.page.ensures c.in-Ok.bytes c.in-Ok.is
